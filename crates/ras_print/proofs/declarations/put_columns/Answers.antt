use Rattle.std.proofs.Common.{◌+◌, get_or, codes, arith}
use Rattle.ras_print.specs.Printed.{behind, relation_column}
use Rattle.ras_print.proofs.Loops.{numbered_step_next, after}
use Rattle.ras_print.proofs.declarations.put_columns.Goals as goal

pub loop-number-preserved : goal.loop-number-preserved
loop-number-preserved c =
    numbered_step_next (behind (codes ", ") (relation_column c.args.names.now c.args.columns.now)) c.in-Some.others.now c.loop-number.number (record { n = 0 })
    c.put_column.new.out.items c.loop-number.out.items c.put_column-in-loop-number.new.out.items
    (omega arith) c.loop-number.invariant
    (after c.loop-number.out.items c.put.new.out.items c.put_column-in-loop-number.new.out.items (codes ", ")
    (relation_column c.args.names.now c.args.columns.now (c.loop-number.number + 1) (get_or c.in-Some.others.now c.loop-number.number (record { n = 0 })))
    c.in_ok-put.ensures c.in_ok-put_column-2.ensures)
