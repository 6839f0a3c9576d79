use Rattle.std.proofs.Common.{ℕ, ◌<◌}
use Rattle.ras_steps.specs.StepFaults.{IsRowInside}
use Rattle.ras_steps.proofs.refusal.row_outside.Given as goal

abbrev pub invariant-loop-k : goal.invariant-loop-k
invariant-loop-k l = (j : ℕ) → j < l.k → IsRowInside l.state l.transition l.choice j
