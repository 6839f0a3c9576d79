use Rattle.std.proofs.Common.{◌≡◌, ℕ, ◌<◌, length}
use Rattle.ras_refute.specs.Classes.{class}
use Rattle.ras_refute.proofs.classes.separate.Given as goal

abbrev pub invariant-loop-i : goal.invariant-loop-i
invariant-loop-i l = record {
  long : length l.classes.items ≡ l.i;
  each : (j : ℕ) → j < l.i → class l.classes.items j ≡ j;
}
