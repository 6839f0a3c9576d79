use Rattle.ras_violation.proofs.Judged.{fault_of}
use Rattle.ras_violation.proofs.law.no_violation_has_a_fault.Goals as goal

pub returns : goal.returns
returns c = λ system d run none. fault_of system d (λ other. c.a_fault_is_no_step.ensures other d) run none
