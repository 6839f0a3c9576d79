use Rattle.std.proofs.Common.{All, take}
use Rattle.ras_database.specs.DatabaseFaults.{IsEntry}
use Rattle.ras_database.proofs.checking.entry_fault.Given as goal

abbrev pub invariant-loop-k : goal.invariant-loop-k
invariant-loop-k l = All (IsEntry l.raw l.decl) (take l.k l.table)
