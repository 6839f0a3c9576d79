use Rattle.std.proofs.Common.{◌≡◌, ◌++◌, take, flat_map}
use Rattle.ras_print.specs.Printed.{assign_text}
use Rattle.ras_print.specs.Scopes.{scope_of}
use Rattle.ras_print.proofs.steps.put_assignments.Given as goal

abbrev pub invariant-loop-assign : goal.invariant-loop-assign
invariant-loop-assign l = l.out.items ≡ l.initial.out.items ++ flat_map (assign_text (scope_of l.scope) l.row) (take l.assign-index l.assigns)
