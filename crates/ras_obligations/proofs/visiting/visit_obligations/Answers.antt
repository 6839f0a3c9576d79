use Rattle.std.proofs.Common.{List, map, ◌++◌}
use Rattle.std.specs.Prelude.{flat_map}
use Rattle.ras_logic.specs.declared.problem.Problem.{Problem}
use Rattle.ras_system.specs.Obligations.{Obligation, with_formulas, preimages, start_obligations}
use Rattle.ras_obligations.proofs.Parts.{stopped-as, bars-first, bars-second}
use Rattle.ras_obligations.proofs.visiting.visit_obligations.Goals as goal

pub returns-in_err-visit_goals-clause-barred : goal.returns-in_err-visit_goals-clause-barred
returns-in_err-visit_goals-clause-barred g c =
    let starts : List Obligation = start_obligations c.args.system.now c.args.formulas.now in
    let goals : List Obligation = map (with_formulas c.args.formulas.now) c.args.system.now.goals in
    let steps : List Obligation = map (with_formulas c.args.formulas.now) (flat_map (preimages c.args.system.now) c.args.formulas.now) in
    stopped-as _ _ (λ stop.
    bars-first g.V.Visitor.given (g.V.Visitor.visited c.args.system.now) (g.V.Visitor.barred c.args.system.now) (g.met.V.Visitor.bars_more c.args.system.now)
    (starts ++ goals) steps _ _
    (bars-second g.V.Visitor.given (g.V.Visitor.visited c.args.system.now) (g.V.Visitor.barred c.args.system.now) (g.met.V.Visitor.bars_more c.args.system.now)
    starts goals _ _ _ c.in_ok-visit_starts.ensures.visited stop))
    c.from_residual-in_err-visit_goals.result c.in_err-visit_goals.field-0.0 c.from_residual-in_err-visit_goals.ensures.1 c.in_err-visit_goals.ensures.barred
