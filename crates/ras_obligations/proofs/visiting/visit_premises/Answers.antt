use Rattle.std.proofs.Common.{[], ◌∷◌, refl, sym, subst}
use Rattle.ras_logic.specs.declared.problem.Problem.{Problem}
use Rattle.ras_logic.specs.Formulas.{Fits}
use Rattle.ras_system.specs.Obligations.{Obligation, with_formulas}
use Rattle.ras_obligations.proofs.Parts.{stopped-as, map-parts, bars-part}
use Rattle.ras_obligations.proofs.visiting.visit_premises.Goals as goal

pub visit-requires-clause-premise : goal.visit-requires-clause-premise
visit-requires-clause-premise g c =
    subst (Fits c.args.system.now.shape) (sym c.premise-item.is) (c.requires.premises c.loop-premise.premise-index c.premise-item.result c.loop-premise-test.true)

pub returns-in_err-visit-clause-barred : goal.returns-in_err-visit-clause-barred
returns-in_err-visit-clause-barred g c =
    let w : Problem → Obligation = with_formulas c.args.formulas.now in
    stopped-as _ _ (bars-part g.V.Visitor.given (g.V.Visitor.visited c.args.system.now) (g.V.Visitor.barred c.args.system.now) (g.met.V.Visitor.bars_more c.args.system.now)
    (λ (p : Problem). w p ∷ []) c.args.premises.now c.loop-premise.premise-index c.premise-item.result c.loop-premise-test.true c.premise-item.is
    _ refl _ _ _ c.loop-premise.invariant.visits _ (map-parts w c.args.premises.now))
    c.from_residual.result c.in_err-visit.field-0.0 c.from_residual.ensures.1 c.in_err-visit.ensures.barred
