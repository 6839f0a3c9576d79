use Rattle.std.proofs.Common.{take}
use Rattle.ras_spent.specs.Entries.{MeetsNoEntry}
use Rattle.ras_spent.proofs.judging.first_met.Given as goal

abbrev pub invariant-loop-number : goal.invariant-loop-number
invariant-loop-number l = MeetsNoEntry l.db l.state (take l.number l.entries)
