use Rattle.std.proofs.Common.{arith}
use Rattle.ras_print.specs.Printed.{constant_text}
use Rattle.ras_print.proofs.Loops.{numbered_step}
use Rattle.ras_print.proofs.declarations.put_constants.Goals as goal

pub loop-number-preserved : goal.loop-number-preserved
loop-number-preserved c =
    numbered_step (constant_text c.args.names.now) c.args.constants.now c.loop-number.number (record { n = 0 }) c.args.out.now.items c.loop-number.out.items c.put_constant.new.out.items
    (omega arith) c.loop-number.invariant (c.in_ok-put_constant.ensures)
