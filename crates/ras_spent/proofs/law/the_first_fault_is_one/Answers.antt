use Rattle.ras_spent.proofs.OneFault.{one_fault}
use Rattle.ras_spent.proofs.law.the_first_fault_is_one.Goals as goal

pub returns : goal.returns
returns c = λ system entries spill f g hf hg.
    one_fault c.a_fault_is_no_database.ensures c.the_first_fault_is_one.ensures c.a_fault_is_no_step.ensures c.the_first_fault_is_one-2.ensures system entries spill f g hf hg
