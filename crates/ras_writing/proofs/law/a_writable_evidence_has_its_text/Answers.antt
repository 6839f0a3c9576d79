use Rattle.ras_writing.proofs.UnendedLaws.{text_is}
use Rattle.ras_writing.proofs.law.a_writable_evidence_has_its_text.Goals as goal

pub returns : goal.returns
returns c = text_is
