use Rattle.ras_evidence.proofs.TextLaws.{one_text}
use Rattle.ras_evidence.proofs.law.bytes_have_one_text.Goals as goal

pub returns : goal.returns
returns c = one_text
