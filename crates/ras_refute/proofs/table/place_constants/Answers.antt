use Rattle.ras_refute.proofs.Tables.{adds-no_constants, adds-constant}
use Rattle.ras_refute.proofs.table.place_constants.Goals as goal

pub loop-n-init : goal.loop-n-init
loop-n-init c = adds-no_constants c.args.sorts c.args.entries.now c.requires

pub loop-n-preserved : goal.loop-n-preserved
loop-n-preserved c =
    rw c.in_ok-push.ensures.ok
    (adds-constant c.args.sorts c.loop-n.n c.args.entries.now c.loop-n.entries c.requires c.loop-n.invariant)
