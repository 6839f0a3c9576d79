use Rattle.ras_refute.proofs.Entries.{adds-pushed}
use Rattle.ras_refute.proofs.table.place.Goals as goal

pub returns : goal.returns
returns c =
    rw (c.in_ok-push.ensures.ok, c.len-i.ensures.count)
    (adds-pushed c.args.entries.now c.requires.table c.args.entry c.requires.fits (rw c.as_slice.ensures.items at c.in_default.ensures))
