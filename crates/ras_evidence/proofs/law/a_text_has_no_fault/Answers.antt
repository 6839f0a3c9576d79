use Rattle.ras_evidence.proofs.TextLaws.{never_fault}
use Rattle.ras_evidence.proofs.law.a_text_has_no_fault.Goals as goal

pub returns : goal.returns
returns c = never_fault
