use Rattle.ras_database.specs.DatabaseFaults.{AreConstantsBefore}
use Rattle.ras_database.proofs.checking.constant_fault.Given as goal

abbrev pub invariant-loop-n : goal.invariant-loop-n
invariant-loop-n l = AreConstantsBefore l.schema l.raw l.n
