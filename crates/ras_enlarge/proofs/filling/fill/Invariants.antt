use Rattle.std.proofs.Common.{◌≡◌, ◌≤◌, length}
use Rattle.ras_logic.specs.declared.ids.SortId.{SortId}
use Rattle.ras_enlarge.specs.Numbers.{size_in}
use Rattle.ras_enlarge.proofs.Zeros.{zeros}
use Rattle.ras_enlarge.proofs.filling.fill.Given as goal

abbrev pub invariant-loop-sort : goal.invariant-loop-sort
invariant-loop-sort l = record {
  long : length l.sizes.items ≡ length l.fn.sizes.items;
  grows : (s : SortId) → size_in l.fn.sizes.items s ≤ size_in l.sizes.items s;
}

abbrev pub decreases-loop-sort : goal.decreases-loop-sort
decreases-loop-sort l = zeros l.sizes.items
