use Rattle.ras_database.proofs.Judging.{fault_of}
use Rattle.ras_database.proofs.law.no_database_has_a_fault.Goals as goal

pub returns : goal.returns
returns c = λ s d none. fault_of s d none
