use Rattle.std.proofs.Common.{take}
use Rattle.std.specs.Prelude.{unwrap_or}
use Rattle.ras_system.specs.Runs.{IsRun}
use Rattle.ras_steps.proofs.replaying.replay.Given as goal

abbrev pub invariant-loop-at : goal.invariant-loop-at
invariant-loop-at l = IsRun l.system l.db l.run.start (take l.at l.choices) (unwrap_or l.last l.run.start)
