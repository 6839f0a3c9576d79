use Rattle.ras_steps.proofs.OneFault.{one_fault}
use Rattle.ras_steps.proofs.law.the_first_fault_is_one.Goals as goal

pub returns : goal.returns
returns c = λ system d s c' f g hf hg mf mg. one_fault system d s c' f g hf hg mf mg
