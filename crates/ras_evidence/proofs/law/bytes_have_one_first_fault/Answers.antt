use Rattle.ras_evidence.proofs.TextLaws.{one_fault}
use Rattle.ras_evidence.proofs.law.bytes_have_one_first_fault.Goals as goal

pub returns : goal.returns
returns c = one_fault
