use Rattle.std.proofs.Common.{◌≡◌, ◌≤◌, ◌+◌, ◌++◌, map, drop}
use Rattle.ras_system.specs.Preimages.{unmatched}
use Rattle.ras_preimage.specs.Parts.{row_of}
use Rattle.ras_preimage.proofs.unmatched_rows.unmatched_rows.Given as goal

abbrev pub invariant-loop-i : goal.invariant-loop-i
invariant-loop-i l = record {
  unmatched : map row_of l.unmatched ++ unmatched l.next (drop l.i l.rows) (drop l.i l.matched) ≡ unmatched l.first l.rows l.matched;
  few : l.next ≤ l.first + l.i;
}
