use Rattle.ras_safety.proofs.OneFault.{one_fault}
use Rattle.ras_safety.proofs.law.the_first_fault_is_one.Goals as goal

pub returns : goal.returns
returns c = λ system formulas trees f g h k. one_fault c.a_fault_is_no_closing.ensures c.the_first_fault_is_one.ensures system formulas trees f g h k
