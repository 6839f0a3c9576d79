use Rattle.std.proofs.Common.{◌≡◌, ◌<◌, length, get_or}
use Rattle.ras_logic.specs.declared.ids.SortId.{SortId}
use Rattle.ras_closure.specs.Spares.{sized}
use Rattle.ras_closure.proofs.model.sizes.Given as goal

abbrev pub invariant-loop-sort : goal.invariant-loop-sort
invariant-loop-sort l = record {
  long : length l.sizes ≡ l.sort;
  each : (s : SortId) → s.n < l.sort → get_or l.sizes s.n 0 ≡ sized l.elements.counts.items l.spares s;
}
