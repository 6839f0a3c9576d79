use Rattle.ras_backwards.proofs.Exact.{exact}
use Rattle.ras_backwards.proofs.Numbered.{exact-numbered}
use Rattle.ras_backwards.proofs.law.a_preimage_is_exact.Goals as goal

pub returns-clause-transition : goal.returns-clause-transition
returns-clause-transition c = λ shape t cube d s good fit flat st. exact shape d t good s st cube fit flat

pub returns-clause-system : goal.returns-clause-system
returns-clause-system c = exact-numbered
