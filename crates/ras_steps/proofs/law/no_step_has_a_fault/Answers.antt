use Rattle.ras_steps.proofs.Judging.{fault_of}
use Rattle.ras_steps.proofs.law.no_step_has_a_fault.Goals as goal

pub returns : goal.returns
returns c = λ system d s c' none. fault_of system d s c' none
