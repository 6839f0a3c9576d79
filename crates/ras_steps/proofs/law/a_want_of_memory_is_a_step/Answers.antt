use Rattle.ras_steps.proofs.Judging.{step_of_want}
use Rattle.ras_steps.proofs.law.a_want_of_memory_is_a_step.Goals as goal

pub returns : goal.returns
returns c = λ system d s c' fault h m. step_of_want system d s c' fault h m
