use Rattle.ras_spent.proofs.SomeVerdict.{some_verdict}
use Rattle.ras_spent.proofs.law.no_evidence_is_without_a_verdict.Goals as goal

pub returns : goal.returns
returns c = λ system entries spill neither. some_verdict system entries spill neither
