use Rattle.std.proofs.Common.{ℕ, ◌<◌}
use Rattle.ras_steps.specs.StepFaults.{IsValueInside}
use Rattle.ras_steps.proofs.refusal.value_outside.Given as goal

abbrev pub invariant-loop-k : goal.invariant-loop-k
invariant-loop-k l = (j : ℕ) → j < l.k → IsValueInside l.db l.transition l.choice j
