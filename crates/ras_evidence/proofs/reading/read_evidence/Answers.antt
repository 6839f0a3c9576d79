use Rattle.ras_evidence.proofs.TextLaws.{whole_text, whole_fault}
use Rattle.ras_evidence.proofs.reading.read_evidence.Goals as goal

pub returns-clause-text : goal.returns-clause-text
returns-clause-text c = whole_text c.args.bytes.now c.read_evidence_behind.result c.read_evidence_behind.ensures.text c.read_evidence_behind.ensures.ended

pub returns-clause-fault : goal.returns-clause-fault
returns-clause-fault c = whole_fault c.args.bytes.now c.read_evidence_behind.result c.read_evidence_behind.ensures.fault
