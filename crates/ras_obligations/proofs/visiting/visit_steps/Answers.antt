use Rattle.std.proofs.Common.{map, sym, ◌∙◌, ap, subst}
use Rattle.ras_logic.specs.declared.problem.Problem.{Problem}
use Rattle.ras_logic.specs.Formulas.{Fits}
use Rattle.ras_system.specs.Obligations.{Obligation, with_formulas, preimages}
use Rattle.ras_obligations.proofs.Parts.{stopped-as, flat-parts, visits-part, bars-part, visits-all}
use Rattle.ras_obligations.proofs.visiting.visit_steps.Goals as goal

pub visit_preimages-requires-clause-formula : goal.visit_preimages-requires-clause-formula
visit_preimages-requires-clause-formula g c =
    subst (Fits c.args.system.now.shape) (sym (c.get.ensures ∙ c.formula-item.is)) (c.requires.fit c.loop-formula.formula-index c.formula-item.result c.loop-formula-test.true)

pub returns-in_err-visit_preimages-clause-barred : goal.returns-in_err-visit_preimages-clause-barred
returns-in_err-visit_preimages-clause-barred g c =
    let w : Problem → Obligation = with_formulas c.args.formulas.now in
    stopped-as _ _ (bars-part g.V.Visitor.given (g.V.Visitor.visited c.args.system.now) (g.V.Visitor.barred c.args.system.now) (g.met.V.Visitor.bars_more c.args.system.now)
    (λ (f : Problem). map w (preimages c.args.system.now f)) c.args.formulas.now c.loop-formula.formula-index c.formula-item.result c.loop-formula-test.true c.formula-item.is
    _ (ap (λ (f : Problem). map w (preimages c.args.system.now f)) c.get.ensures) _ _ _ c.loop-formula.invariant.visits _ (flat-parts w (preimages c.args.system.now) c.args.formulas.now))
    c.from_residual.result c.in_err-visit_preimages.field-0.0 c.from_residual.ensures.1 c.in_err-visit_preimages.ensures.barred

pub loop-formula-preserved : goal.loop-formula-preserved
loop-formula-preserved g c =
    let w : Problem → Obligation = with_formulas c.args.formulas.now in
    record {
      ready = c.in_ok-visit_preimages.ensures.ready;
      visits = visits-part g.V.Visitor.given (g.V.Visitor.visited c.args.system.now) (g.V.Visitor.barred c.args.system.now) (g.met.V.Visitor.bars_more c.args.system.now)
          (λ (f : Problem). map w (preimages c.args.system.now f)) c.args.formulas.now c.loop-formula.formula-index c.formula-item.result c.loop-formula-test.true c.formula-item.is
          _ (ap (λ (f : Problem). map w (preimages c.args.system.now f)) c.get.ensures) _ _ _ c.loop-formula.invariant.visits c.in_ok-visit_preimages.ensures.visited;
    }

pub returns-clause-visited : goal.returns-clause-visited
returns-clause-visited g c =
    let w : Problem → Obligation = with_formulas c.args.formulas.now in
    visits-all g.V.Visitor.given (g.V.Visitor.visited c.args.system.now) (g.V.Visitor.barred c.args.system.now) (g.met.V.Visitor.bars_more c.args.system.now)
    (λ (f : Problem). map w (preimages c.args.system.now f)) c.args.formulas.now c.loop-formula.formula-index
    _ (flat-parts w (preimages c.args.system.now) c.args.formulas.now) c.loop-formula-test.false _ _ c.loop-formula.invariant.visits
