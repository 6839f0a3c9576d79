use Rattle.ras_closure.proofs.Gaps.{spared-more}
use Rattle.ras_closure.proofs.spares.next_spare.Goals as goal

pub loop-k-preserved : goal.loop-k-preserved
loop-k-preserved c =
    spared-more c.args.table.now.shape.schema.functions c.args.lacking.now c.args.spares.now c.loop-k.k c.function-decl.result c.function-decl.ensures.known c.loop-k.invariant
    c.if-lacks_spare.ensures.spared
