use Rattle.std.proofs.Common.{take}
use Rattle.std.specs.Prelude.{unwrap_or}
use Rattle.ras_violation.specs.ReplayTexts.{AreWritten}
use Rattle.ras_violation.proofs.replayed.put_states.Given as goal

abbrev pub invariant-loop-at : goal.invariant-loop-at
invariant-loop-at l = AreWritten l.system l.db l.run.start (take l.at l.choices) (unwrap_or l.last l.run.start) l.fn.out.items l.out.items
