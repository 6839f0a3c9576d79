use Rattle.std.proofs.Common.{◌≤◌, length, sym, ◌∙◌, arith}
use Rattle.ras_lines.specs.Lines.{lines_of}
use Rattle.ras_evidence.specs.EvidenceTexts.{told}
use Rattle.ras_evidence.proofs.LastLaws.{ended, not_ended}
use Rattle.ras_evidence.proofs.TextLaws.{read_all, read_left, evidence_read, evidence_nothing, evidence_fault, unended_fault, left_fault, version_at, on_own_lines}
use Rattle.ras_evidence.proofs.reading.read_evidence_behind.Goals as goal

pub returns-in-Ok-true-clause-fault : goal.returns-in-Ok-true-clause-fault
returns-in-Ok-true-clause-fault c =
    version_at c.args.bytes.now (lines_of c.args.behind.now) c.line_number-line.result (rw c.in-Ok-true.field-0-test at c.in-Ok-true.ensures) c.line_number-line.ensures

pub fault_at-requires : goal.fault_at-requires
fault_at-requires c =
    let less = read_all (lines_of c.args.behind.now) _ (told c.in-Ok.read) c.in-Ok.ensures in
    let within : length (lines_of c.args.behind.now) ≤ length (lines_of c.args.bytes.now) = c.requires in omega (arith, less, within)

pub fault_at-requires-in-Err-Misfit : goal.fault_at-requires-in-Err-Misfit
fault_at-requires-in-Err-Misfit c =
    let less = read_left (lines_of c.args.behind.now) _ (rw c.in-Err-Misfit.field-0-is at c.in-Err-Misfit.ensures) in
    let within : length (lines_of c.args.behind.now) ≤ length (lines_of c.args.bytes.now) = c.requires in omega (arith, less, within)

pub returns-then-is_ended-clause-text : goal.returns-then-is_ended-clause-text
returns-then-is_ended-clause-text c = evidence_read (lines_of c.args.behind.now) _ (told c.in-Ok.read) c.in-Ok.ensures

pub returns-then-is_ended-clause-ended : goal.returns-then-is_ended-clause-ended
returns-then-is_ended-clause-ended c = λ lines rest are. ended c.args.bytes.now rest lines are (sym c.is_ended.ensures ∙ c.if-is_ended.true)

pub returns-else-is_ended-clause-fault : goal.returns-else-is_ended-clause-fault
returns-else-is_ended-clause-fault c =
    let behind = lines_of c.args.behind.now in
    let left = lines_of c.whole_text.new.lines.rest.now in
    on_own_lines c.args.bytes.now behind left c.fault_at.result c.fault_at.ensures.line
    (λ rest are. unended_fault behind left rest c.fault_at.result.kind ((told c.in-Ok.read), evidence_read behind left (told c.in-Ok.read) c.in-Ok.ensures) (evidence_nothing behind left (told c.in-Ok.read) c.in-Ok.ensures)
    (not_ended c.args.bytes.now rest (lines_of c.args.bytes.now) are (sym c.is_ended.ensures ∙ c.if-is_ended.false)) c.fault_at.ensures.kind)

pub returns-in-Err-Misfit-clause-fault : goal.returns-in-Err-Misfit-clause-fault
returns-in-Err-Misfit-clause-fault c =
    let behind = lines_of c.args.behind.now in
    let left = lines_of c.whole_text.new.lines.rest.now in
    on_own_lines c.args.bytes.now behind left c.fault_at-in-Err-Misfit.result c.fault_at-in-Err-Misfit.ensures.line
    (λ rest are. left_fault behind left rest c.fault_at-in-Err-Misfit.result.kind (rw c.in-Ok-false.field-0-test at c.in-Ok-false.ensures)
    (evidence_fault behind left (rw c.in-Err-Misfit.field-0-is at c.in-Err-Misfit.ensures)) c.fault_at-in-Err-Misfit.ensures.kind)
