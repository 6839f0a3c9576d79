use Rattle.std.proofs.Common.{◌≡◌, ◌++◌, take, flat_map}
use Rattle.ras_print.specs.Printed.{case_of}
use Rattle.ras_print.proofs.steps.put_each.Given as goal

abbrev pub invariant-loop-case : goal.invariant-loop-case
invariant-loop-case l = l.out.items ≡ l.initial.out.items ++ flat_map (case_of l.names l.step l.transition l.row) (take l.case-index l.cases)
