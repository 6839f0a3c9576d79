use Rattle.ras_lines.specs.Lines.{lines_of}
use Rattle.ras_evidence.proofs.TextLaws.{none_other, this_version, that_version}
use Rattle.ras_evidence.proofs.reading.has_other_version.Goals as goal

pub returns-in-Err-Misfit : goal.returns-in-Err-Misfit
returns-in-Err-Misfit c = none_other (lines_of c.args.rest.now) _ (rw c.in-Err-Misfit.field-0-is at c.in-Err-Misfit.ensures)

pub returns-then-header-eq1 : goal.returns-then-header-eq1
returns-then-header-eq1 c = this_version (lines_of c.args.rest.now) _ c.in-Ok.header c.in-Ok.ensures c.if-header-eq1.true

pub returns : goal.returns
returns c = that_version (lines_of c.args.rest.now) _ c.in-Ok.header c.in-Ok.ensures c.if-header-eq1.false
