use Rattle.ras_backwards.proofs.Numbered.{by-number}
use Rattle.ras_backwards.proofs.law.a_problem_gives_its_step.Goals as goal

pub returns : goal.returns
returns c = λ system number t cube p d s place good known fit flat st at m. by-number system number t cube p d s place good known fit flat st at m
