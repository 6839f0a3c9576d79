use Rattle.std.proofs.Common.{ℕ, below_more}
use Rattle.ras_steps.specs.StepFaults.{Repeats}
use Rattle.ras_steps.proofs.refusal.row_repeated.Goals as goal

pub loop-second-preserved : goal.loop-second-preserved
loop-second-preserved c = λ i j lt again.
    below_more (λ (k : ℕ). Repeats c.args.transition.now c.args.choice.now i k → ⊥) c.loop-second.second (λ k below. c.loop-second.invariant i k below) (c.in_default.ensures.none i) j lt again
