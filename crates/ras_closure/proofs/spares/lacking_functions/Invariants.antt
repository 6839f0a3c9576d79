use Rattle.std.proofs.Common.{◌≡◌, length}
use Rattle.ras_closure.specs.Spares.{AreLacking}
use Rattle.ras_closure.proofs.spares.lacking_functions.Given as goal

abbrev pub invariant-loop-k : goal.invariant-loop-k
invariant-loop-k l = record {
  long : length l.lacking.items ≡ l.k;
  lacking : AreLacking l.table l.elements.numbers.items l.elements.counts.items l.lacking.items;
}
