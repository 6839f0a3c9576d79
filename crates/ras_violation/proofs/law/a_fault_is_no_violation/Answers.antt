use Rattle.ras_violation.proofs.OneFault.{not_good}
use Rattle.ras_violation.proofs.law.a_fault_is_no_violation.Goals as goal

pub returns : goal.returns
returns c = λ system d run f h. not_good c.a_fault_is_no_database.ensures c.a_fault_is_no_step.ensures system d run f h
