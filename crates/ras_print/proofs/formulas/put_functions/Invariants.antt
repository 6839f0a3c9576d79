use Rattle.std.proofs.Common.{◌≡◌, ◌++◌, length}
use Rattle.ras_print.specs.Calls.{fronts}
use Rattle.ras_print.proofs.formulas.put_functions.Given as goal

abbrev pub invariant-loop-function : goal.invariant-loop-function
invariant-loop-function l = l.out.items ++ fronts l.names l.rest ≡ l.initial.out.items ++ fronts l.names l.path

abbrev pub decreases-loop-function : goal.decreases-loop-function
decreases-loop-function l = length l.rest
