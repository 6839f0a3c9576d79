use Rattle.std.proofs.Common.{refl}
use Rattle.ras_database.proofs.Passing.{constants_more}
use Rattle.ras_database.proofs.checking.constant_fault.Goals as goal

pub loop-n-preserved : goal.loop-n-preserved
loop-n-preserved c =
    constants_more c.args.schema.now c.args.raw.now c.loop-n.n c.constant-sort.result c.loop-n.invariant c.constant-sort.ensures
    (rw c.as_slice.ensures.items at (c.if-not-is_constant.ensures.0 refl)) c.in_default.ensures.none
