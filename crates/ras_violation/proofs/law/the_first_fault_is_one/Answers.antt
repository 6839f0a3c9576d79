use Rattle.ras_violation.proofs.OneFault.{one_fault}
use Rattle.ras_violation.proofs.law.the_first_fault_is_one.Goals as goal

pub returns : goal.returns
returns c = λ system d run f g hf hg.
    one_fault c.a_fault_is_no_database.ensures c.a_fault_is_no_step.ensures system d run c.the_first_fault_is_one.ensures c.the_first_fault_is_one-2.ensures f g hf hg
