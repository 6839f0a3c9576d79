use Rattle.ras_lines.proofs.FormulaLaws.{has_no_fault}
use Rattle.ras_lines.proofs.cubes.CubeSpelled.read.Goals as goal

pub returns-in-Err : goal.returns-in-Err
returns-in-Err c = absurd (has_no_fault c.args.words.now.rest.now c.in_ok-rows.field-0 c.read.new.words.rest.now c.in-Err.field-0 c.in_ok-rows.ensures c.in-Err.ensures.fault)
