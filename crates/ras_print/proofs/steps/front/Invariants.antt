use Rattle.std.proofs.Common.{◌≡◌, ◌+◌, ◌≤◌, length}
use Rattle.ras_print.specs.Printed.{front}
use Rattle.ras_print.proofs.steps.front.Given as goal

abbrev pub invariant-loop-case : goal.invariant-loop-case
invariant-loop-case l = record {
  counted : l.count + front l.relation l.rest ≡ front l.relation l.cases;
  within : l.count + length l.rest ≤ length l.cases;
}

abbrev pub decreases-loop-case : goal.decreases-loop-case
decreases-loop-case l = length l.rest
