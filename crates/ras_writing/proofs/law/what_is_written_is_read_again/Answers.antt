use Rattle.ras_lines.specs.Lines.{written}
use Rattle.ras_evidence.specs.EvidenceTexts.{text_lines}
use Rattle.ras_evidence.proofs.TextLaws.{one_text, never_fault}
use Rattle.ras_writing.proofs.UnendedLaws.{text_is}
use Rattle.ras_writing.proofs.law.what_is_written_is_read_again.Goals as goal

pub returns-clause-value : goal.returns-clause-value
returns-clause-value c = λ t u w text. one_text (written (text_lines t)) u t text (text_is t w)

pub returns-clause-no_fault : goal.returns-clause-no_fault
returns-clause-no_fault c = λ t f w fault. never_fault (written (text_lines t)) t.0 f (t.1, text_is t w) fault
