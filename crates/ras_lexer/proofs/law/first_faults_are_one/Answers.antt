use Rattle.ras_lexer.proofs.Unique.{one_fault}
use Rattle.ras_lexer.proofs.law.first_faults_are_one.Goals as goal

pub returns : goal.returns
returns c = one_fault
