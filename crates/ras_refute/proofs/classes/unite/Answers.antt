use Rattle.ras_refute.proofs.Uniting.{relabelled-unites}
use Rattle.ras_refute.proofs.classes.unite.Goals as goal

pub returns : goal.returns
returns c = rw (c.relabel.ensures, c.max-from.ensures, c.min-to.ensures) (relabelled-unites c.args.classes.now c.args.left c.args.right c.requires.left c.requires.right)
