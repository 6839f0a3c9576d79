use Rattle.std.proofs.Common.{◌≤◌, length}
use Rattle.std.specs.Prelude.{sum}
use Rattle.ras_refute.specs.Classes.{ArePartial}
use Rattle.ras_refute.proofs.rules.close.Given as goal

abbrev pub invariant-loop-pending : goal.invariant-loop-pending
invariant-loop-pending l = record {
  first : l.first ≤ length l.table.entries;
  partial : ArePartial l.schema l.facts l.table l.classes;
}

abbrev pub decreases-loop-pending : goal.decreases-loop-pending
decreases-loop-pending l = sum l.classes
