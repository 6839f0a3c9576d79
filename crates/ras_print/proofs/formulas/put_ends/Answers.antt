use Rattle.std.proofs.Common.{arith}
use Rattle.ras_print.proofs.Loops.{ends_step}
use Rattle.ras_print.proofs.formulas.put_ends.Goals as goal

pub loop-function-preserved : goal.loop-function-preserved
loop-function-preserved c =
    ends_step c.args.path.now c.loop-function._function-index c.args.out.now.items c.loop-function.out.items c.put.new.out.items
    (omega arith) c.loop-function.invariant (c.in_ok-put.ensures)
