use Rattle.std.proofs.Common.{[], ◌∷◌, take}
use Rattle.std.specs.Prelude.{flat_map}
use Rattle.ras_logic.specs.declared.problem.Problem.{Problem}
use Rattle.ras_system.specs.Obligations.{with_formulas}
use Rattle.ras_obligations.specs.Visits.{Visits}
use Rattle.ras_obligations.proofs.visiting.visit_premises.Given as goal

abbrev pub invariant-loop-premise : goal.invariant-loop-premise
invariant-loop-premise g l = record {
  ready : g.V.Visitor.ready l.visitor;
  visits : Visits g.V.Visitor.given (g.V.Visitor.visited l.system) (flat_map (λ (p : Problem). with_formulas l.formulas p ∷ []) (take l.premise-index l.premises)) l.fn.visitor l.visitor;
}
