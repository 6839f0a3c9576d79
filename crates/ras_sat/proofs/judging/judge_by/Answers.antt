use Rattle.std.proofs.Common.{sym, subst}
use Rattle.std.specs.Prelude.{All}
use Rattle.ras_logic.specs.Formulas.{Fits}
use Rattle.ras_known.specs.Knowledge.{AreApart}
use Rattle.ras_known.proofs.FactModels.{IsModelOfFacts, model-facts}
use Rattle.ras_sat.proofs.CaseFacts.{satisfied-no_clash, case-fits}
use Rattle.ras_sat.proofs.Choosing.{model-escapes, model-unsplit}
use Rattle.ras_sat.proofs.judging.judge_by.Goals as goal

pub choose-requires : goal.choose-requires
choose-requires c = record {
  fits = case-fits c.args.task.now c.requires.task c.args.facts.now c.requires.facts;
  closure = c.requires.closure;
  apart = subst (All (AreApart c.args.task.now.shape.now c.args.facts.now c.args.closure.now)) (sym c.deref.ensures.value) c.in_ok-apart.ensures;
}

pub returns-in-None : goal.returns-in-None
returns-in-None c =
    let model : IsModelOfFacts c.args.task.now.shape.now c.args.facts.now c.in_ok-model.model.db c.in_ok-model.model.values =
    model-facts c.args.task.now.shape.now c.args.facts.now c.args.closure.now c.in_ok-model.model.db c.in_ok-model.model.values c.requires.closure c.in_ok-model.ensures.model in
    let fits : Fits c.args.task.now.shape.now c.args.facts.now = case-fits c.args.task.now c.requires.task c.args.facts.now c.requires.facts in (
      satisfied-no_clash c.args.task.now.shape.now c.known.ensures.shape c.args.facts.now fits c.in_ok-model.model.db c.in_ok-model.model.values model,
      model-escapes c.args.task.now c.requires.task c.args.facts.now c.requires.facts c.in_ok-model.model.db c.in_ok-model.model.values model c.in-None.ensures.none,
    )

pub returns-in-Some : goal.returns-in-Some
returns-in-Some c =
    let model : IsModelOfFacts c.args.task.now.shape.now c.args.facts.now c.in_ok-model.model.db c.in_ok-model.model.values =
    model-facts c.args.task.now.shape.now c.args.facts.now c.args.closure.now c.in_ok-model.model.db c.in_ok-model.model.values c.requires.closure c.in_ok-model.ensures.model in
    let fits : Fits c.args.task.now.shape.now c.args.facts.now = case-fits c.args.task.now c.requires.task c.args.facts.now c.requires.facts in (
      satisfied-no_clash c.args.task.now.shape.now c.known.ensures.shape c.args.facts.now fits c.in_ok-model.model.db c.in_ok-model.model.values model,
      model-unsplit c.args.task.now c.requires.task c.args.facts.now c.requires.facts c.in_ok-model.model.db c.in_ok-model.model.values model c.in-Some.instance c.in-Some.ensures.within
          c.in-Some.ensures.unfalsified,
    )
