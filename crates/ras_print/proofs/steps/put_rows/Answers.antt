use Rattle.std.proofs.Common.{arith}
use Rattle.ras_print.specs.Printed.{row_text}
use Rattle.ras_print.proofs.Loops.{numbered_step}
use Rattle.ras_print.proofs.steps.put_rows.Goals as goal

pub loop-number-preserved : goal.loop-number-preserved
loop-number-preserved c =
    numbered_step (row_text c.args.names.now c.args.rows.now) c.args.relations.now c.loop-number.number (record { n = 0 }) c.args.out.now.items c.loop-number.out.items c.put_row.new.out.items
    (omega arith) c.loop-number.invariant (c.in_ok-put_row.ensures)
