use Rattle.ras_database.proofs.OneFault.{one_fault}
use Rattle.ras_database.proofs.law.the_first_fault_is_one.Goals as goal

pub returns : goal.returns
returns c = λ s d f g hf hg. one_fault s d f g hf hg
