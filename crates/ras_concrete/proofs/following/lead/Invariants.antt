use Rattle.std.proofs.Common.{All, take}
use Rattle.ras_concrete.specs.Meeting.{CannotMeet}
use Rattle.ras_concrete.proofs.following.lead.Given as goal

abbrev pub invariant-loop-problem : goal.invariant-loop-problem
invariant-loop-problem l = All (CannotMeet l.system.shape l.fn.db l.state) (take l.problem-index l.problem-items)
