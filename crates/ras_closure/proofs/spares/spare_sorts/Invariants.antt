use Rattle.std.proofs.Common.{◌≡◌, ℕ, length, get_or, true, false}
use Rattle.ras_closure.specs.Spares.{IsNeeded}
use Rattle.ras_closure.proofs.Gaps.{unset}
use Rattle.ras_closure.proofs.spares.spare_sorts.Given as goal

abbrev pub invariant-loop-sort : goal.invariant-loop-sort
invariant-loop-sort l = record {
  long : length l.spares.items ≡ l.table.shape.schema.sorts;
  needed : (sort : ℕ) → get_or l.spares.items sort false ≡ true → IsNeeded l.table.shape.schema.functions l.lacking l.spares.items sort;
}

abbrev pub decreases-loop-sort : goal.decreases-loop-sort
decreases-loop-sort l = unset l.spares.items
