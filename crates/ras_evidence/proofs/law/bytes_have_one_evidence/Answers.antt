use Rattle.ras_evidence.proofs.TextLaws.{one_evidence}
use Rattle.ras_evidence.proofs.law.bytes_have_one_evidence.Goals as goal

pub returns : goal.returns
returns c = one_evidence
