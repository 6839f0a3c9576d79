use Rattle.ras_lines.specs.Lines.{lines_of}
use Rattle.ras_evidence.specs.EvidenceTexts.{told}
use Rattle.ras_bundles.proofs.BundleLaws.{text_fault, numbers_read, system_left, behind_less, handed_on, bundle_answered, evidence_fault}
use Rattle.ras_bundles.proofs.bundle.read_bundle.Goals as goal

pub line_number-line-requires : goal.line_number-line-requires
line_number-line-requires c = system_left (lines_of c.args.bytes.now) (lines_of c.system.new.lines.rest.now) (rw c.in-Err-Misfit.field-0-is at c.in-Err-Misfit.ensures)

pub returns-in-Err-Misfit-clause-fault : goal.returns-in-Err-Misfit-clause-fault
returns-in-Err-Misfit-clause-fault c =
    text_fault c.args.bytes.now (lines_of c.system.new.lines.rest.now) c.line_number-line.result (rw c.in-Err-Misfit.field-0-is at c.in-Err-Misfit.ensures) c.line_number-line.ensures

pub denoted-requires : goal.denoted-requires
denoted-requires c = (numbers_read (lines_of c.args.bytes.now) (lines_of c.system.new.lines.rest.now) c.in-Ok.numbers c.in-Ok.ensures).1

pub returns-in_err-system-clause-fault : goal.returns-in_err-system-clause-fault
returns-in_err-system-clause-fault c =
    handed_on c.args.bytes.now (lines_of c.system.new.lines.rest.now) c.in-Ok.numbers c.in_err-system.field-0.0 c.from_residual.result
    (numbers_read (lines_of c.args.bytes.now) (lines_of c.system.new.lines.rest.now) c.in-Ok.numbers c.in-Ok.ensures) c.in_err-system.ensures.fault c.from_residual.ensures.1

pub line_number-first-requires : goal.line_number-first-requires
line_number-first-requires c = behind_less (lines_of c.args.bytes.now) (lines_of c.system.new.lines.rest.now) c.in-Ok.numbers c.in-Ok.ensures

pub read_evidence_behind-requires : goal.read_evidence_behind-requires
read_evidence_behind-requires c = behind_less (lines_of c.args.bytes.now) (lines_of c.system.new.lines.rest.now) c.in-Ok.numbers c.in-Ok.ensures

pub returns-in_err-read-clause-fault : goal.returns-in_err-read-clause-fault
returns-in_err-read-clause-fault c =
    evidence_fault c.args.bytes.now (lines_of c.system.new.lines.rest.now) c.in-Ok.numbers c.in_ok-system.system c.in_err-read.field-0.0 c.from_residual-in_err-read.result c.in-Ok.ensures
    c.in_ok-system.ensures.numbers c.in_ok-system.ensures.plain c.in_err-read.ensures.fault c.from_residual-in_err-read.ensures.1

pub returns-clause-bundle : goal.returns-clause-bundle
returns-clause-bundle c =
    bundle_answered c.args.bytes.now (lines_of c.system.new.lines.rest.now) c.in-Ok.numbers c.in_ok-system.system (told c.in_ok-read.read) c.line_number-first.result c.in-Ok.ensures
    c.in_ok-system.ensures.numbers c.in_ok-system.ensures.plain c.line_number-first.ensures c.in_ok-read.ensures.text c.in_ok-read.ensures.ended
