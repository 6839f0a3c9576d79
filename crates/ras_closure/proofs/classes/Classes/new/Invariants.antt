use Rattle.std.proofs.Common.{◌≡◌, ℕ, ◌<◌, length}
use Rattle.ras_closure.specs.Classes.{class}
use Rattle.ras_closure.proofs.classes.Classes.new.Given as goal

abbrev pub invariant-loop-k : goal.invariant-loop-k
invariant-loop-k l = record {
  long : length l.numbers.items ≡ l.k;
  each : (j : ℕ) → j < l.k → class l.numbers.items j ≡ j;
}
