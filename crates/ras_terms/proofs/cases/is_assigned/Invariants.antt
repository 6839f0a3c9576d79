use Rattle.std.proofs.Common.{◌≡◌, false, take, nat_eq}
use Rattle.std.specs.List.{list_any}
use Rattle.ras_system.specs.declared.bulk.Assign.{Assign}
use Rattle.ras_terms.proofs.cases.is_assigned.Given as goal

abbrev pub invariant-loop-assign : goal.invariant-loop-assign
invariant-loop-assign l = list_any (λ (a : Assign). nat_eq a.column l.column) (take l.assign-index l.assigns) ≡ false
