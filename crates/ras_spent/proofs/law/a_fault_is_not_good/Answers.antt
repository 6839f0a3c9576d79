use Rattle.ras_spent.proofs.NotGood.{not_good}
use Rattle.ras_spent.proofs.law.a_fault_is_not_good.Goals as goal

pub returns : goal.returns
returns c = λ system entries spill f h. not_good c.a_fault_is_no_database.ensures c.a_fault_is_no_step.ensures system entries spill f h
