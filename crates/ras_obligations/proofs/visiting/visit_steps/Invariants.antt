use Rattle.std.proofs.Common.{map, take}
use Rattle.std.specs.Prelude.{flat_map}
use Rattle.ras_logic.specs.declared.problem.Problem.{Problem}
use Rattle.ras_system.specs.Obligations.{with_formulas, preimages}
use Rattle.ras_obligations.specs.Visits.{Visits}
use Rattle.ras_obligations.proofs.visiting.visit_steps.Given as goal

abbrev pub invariant-loop-formula : goal.invariant-loop-formula
invariant-loop-formula g l = record {
  ready : g.V.Visitor.ready l.visitor;
  visits : Visits g.V.Visitor.given (g.V.Visitor.visited l.system) (flat_map (λ (f : Problem). map (with_formulas l.formulas) (preimages l.system f)) (take l.formula-index l.formulas)) l.fn.visitor l.visitor;
}
