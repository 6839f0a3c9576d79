use Rattle.ras_syntax.proofs.First.{one_fault}
use Rattle.ras_syntax.proofs.law.first_faults_are_one.Goals as goal

pub returns : goal.returns
returns c = one_fault
