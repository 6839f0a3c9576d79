use Rattle.std.proofs.Common.{arith}
use Rattle.ras_logic.specs.Truth.{holds as the_truth}
use Rattle.ras_steps.specs.Sights.{seen}
use Rattle.ras_steps.proofs.Lists.{no_disjunct}
use Rattle.ras_steps.proofs.truth.guard_holds.Goals as goal

pub returns : goal.returns
returns c = (
  λ h. absurd (cc),
  λ any. absurd (no_disjunct (the_truth c.args.db.now (seen c.args.sight.now)) c.args.guard.now (λ k lt. c.loop-disjunct.invariant k (omega arith)) any),
)
