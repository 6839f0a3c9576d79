use Rattle.ras_evidence.proofs.TextLaws.{text_or_fault}
use Rattle.ras_evidence.proofs.law.bytes_are_a_text_or_have_a_fault.Goals as goal

pub returns : goal.returns
returns c = text_or_fault
