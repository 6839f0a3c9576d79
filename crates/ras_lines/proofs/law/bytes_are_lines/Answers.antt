use Rattle.ras_lines.specs.Lines.{lines_of}
use Rattle.ras_lines.proofs.LineEnds.{cut, one_cut}
use Rattle.ras_lines.proofs.law.bytes_are_lines.Goals as goal

pub returns-clause-every : goal.returns-clause-every
returns-clause-every c = λ bytes. let k = cut bytes in (lines_of bytes, k.rest, k.are)

pub returns-clause-one : goal.returns-clause-one
returns-clause-one c = one_cut
