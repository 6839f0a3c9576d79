use Rattle.ras_database.specs.DatabaseFaults.{AreTablesBefore}
use Rattle.ras_database.proofs.checking.table_fault.Given as goal

abbrev pub invariant-loop-n : goal.invariant-loop-n
invariant-loop-n l = AreTablesBefore l.schema l.raw l.n
