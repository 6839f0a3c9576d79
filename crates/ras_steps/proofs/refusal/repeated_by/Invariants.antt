use Rattle.std.proofs.Common.{ℕ, ◌<◌}
use Rattle.ras_steps.specs.StepFaults.{Repeats}
use Rattle.ras_steps.proofs.refusal.repeated_by.Given as goal

abbrev pub invariant-loop-first : goal.invariant-loop-first
invariant-loop-first l = (j : ℕ) → j < l.first → Repeats l.transition l.choice j l.second → ⊥
