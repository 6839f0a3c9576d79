use Rattle.std.proofs.Common.{◌≡◌, [], ◌∷◌, List, sym, ◌∙◌, ap, subst}
use Rattle.ras_logic.specs.declared.problem.Problem.{Problem}
use Rattle.ras_logic.specs.Formulas.{Fits}
use Rattle.ras_system.specs.Obligations.{Obligation, with_formulas, at_start}
use Rattle.ras_obligations.proofs.Parts.{stopped-as, map-parts, visits-part, bars-part}
use Rattle.ras_obligations.proofs.visiting.visit_starts.Goals as goal

pub initial_premise-requires : goal.initial_premise-requires
initial_premise-requires g c =
    subst (Fits c.args.system.now.shape) (sym (c.get.ensures ∙ c.formula-item.is)) (c.requires.fit c.loop-formula.formula-index c.formula-item.result c.loop-formula-test.true)

pub returns-in_err-visit-clause-barred : goal.returns-in_err-visit-clause-barred
returns-in_err-visit-clause-barred g c =
    let start : Problem → Obligation = λ f. with_formulas [] (at_start c.args.system.now f) in
    stopped-as _ _ (bars-part g.V.Visitor.given (g.V.Visitor.visited c.args.system.now) (g.V.Visitor.barred c.args.system.now) (g.met.V.Visitor.bars_more c.args.system.now)
    (λ (f : Problem). start f ∷ []) c.args.formulas.now c.loop-formula.formula-index c.formula-item.result c.loop-formula-test.true c.formula-item.is
    _ (ap (λ (p : Problem). with_formulas [] p ∷ []) (c.in_ok-premise.ensures.premise ∙ ap (at_start c.args.system.now) c.get.ensures))
    _ _ _ c.loop-formula.invariant.visits _ (map-parts start c.args.formulas.now))
    c.from_residual-in_err-visit.result c.in_err-visit.field-0.0 c.from_residual-in_err-visit.ensures.1 c.in_err-visit.ensures.barred

pub loop-formula-preserved : goal.loop-formula-preserved
loop-formula-preserved g c =
    let start : Problem → Obligation = λ f. with_formulas [] (at_start c.args.system.now f) in
    record {
      ready = c.in_ok-visit.ensures.ready;
      visits = visits-part g.V.Visitor.given (g.V.Visitor.visited c.args.system.now) (g.V.Visitor.barred c.args.system.now) (g.met.V.Visitor.bars_more c.args.system.now)
          (λ (f : Problem). start f ∷ []) c.args.formulas.now c.loop-formula.formula-index c.formula-item.result c.loop-formula-test.true c.formula-item.is
          _ (ap (λ (p : Problem). with_formulas [] p ∷ []) (c.in_ok-premise.ensures.premise ∙ ap (at_start c.args.system.now) c.get.ensures))
          _ _ _ c.loop-formula.invariant.visits c.in_ok-visit.ensures.visited;
    }
