use Rattle.std.proofs.Common.{map, take}
use Rattle.std.specs.Prelude.{flat_map}
use Rattle.ras_system.specs.declared.transition.Transition.{Transition}
use Rattle.ras_system.specs.Preimages.{preimage}
use Rattle.ras_system.specs.Obligations.{with_formulas}
use Rattle.ras_obligations.specs.Visits.{Visits}
use Rattle.ras_obligations.proofs.visiting.visit_preimages.Given as goal

abbrev pub invariant-loop-number : goal.invariant-loop-number
invariant-loop-number g l = record {
  ready : g.V.Visitor.ready l.visitor;
  visits : Visits g.V.Visitor.given (g.V.Visitor.visited l.system) (flat_map (λ (t : Transition). map (with_formulas l.formulas) (preimage t l.formula)) (take l.number l.system.transitions)) l.fn.visitor l.visitor;
}
