use Rattle.std.proofs.Common.{◌≡◌, ℕ, ◌+◌, ◌<◌, length, get_or}
use Rattle.ras_closure.specs.Elements.{number}
use Rattle.ras_closure.proofs.model.constants.Given as goal

abbrev pub invariant-loop-i : goal.invariant-loop-i
invariant-loop-i l = record {
  long : length l.constants + l.table.shape.schema.sorts ≡ l.i;
  each : (k : ℕ) → k < length l.constants → get_or l.constants k 0 ≡ number l.numbers (l.table.shape.schema.sorts + k);
}
