use Rattle.std.proofs.Common.{◌≡◌, take}
use Rattle.ras_violation.specs.Violations.{MeetsNone}
use Rattle.ras_violation.proofs.judging.goal_met.Given as goal

abbrev pub invariant-loop-number : goal.invariant-loop-number
invariant-loop-number l = record {
  room : l.found.room ≡ 8;
  none : MeetsNone l.db l.state (take l.number l.system.goals);
}
