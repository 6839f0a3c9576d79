use Rattle.ras_writing.proofs.EventLaws.{written_text}
use Rattle.ras_writing.proofs.UnendedLaws.{text_of}
use Rattle.ras_writing.proofs.evidences.write_evidence.Goals as goal

pub returns-clause-lines : goal.returns-clause-lines
returns-clause-lines c =
    written_text _ c.put_evidence.new.out.items c.put_journal.new.out.items c.args.evidence.now _ c.new-out.ensures.items c.in_ok-put_evidence.ensures c.in_ok-put_journal.ensures

pub returns-clause-text : goal.returns-clause-text
returns-clause-text c = λ writable.
    text_of c.put_journal.new.out.items _
    (written_text _ c.put_evidence.new.out.items c.put_journal.new.out.items c.args.evidence.now _ c.new-out.ensures.items c.in_ok-put_evidence.ensures c.in_ok-put_journal.ensures) writable
