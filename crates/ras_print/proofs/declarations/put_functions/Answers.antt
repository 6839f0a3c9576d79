use Rattle.std.proofs.Common.{false, arith}
use Rattle.ras_print.specs.Printed.{function_text}
use Rattle.ras_print.proofs.Loops.{numbered_step}
use Rattle.ras_print.proofs.declarations.put_functions.Goals as goal

pub loop-number-preserved : goal.loop-number-preserved
loop-number-preserved c =
    numbered_step (function_text c.args.names.now) c.args.functions.now c.loop-number.number (record { source = record { n = 0 }; target = record { n = 0 }; total = false }) c.args.out.now.items c.loop-number.out.items c.put_function.new.out.items
    (omega arith) c.loop-number.invariant (c.in_ok-put_function.ensures)
