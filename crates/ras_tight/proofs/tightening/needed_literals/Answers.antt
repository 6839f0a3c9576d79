use Rattle.ras_tight.proofs.LeftOut.{tight-start}
use Rattle.ras_tight.proofs.tightening.needed_literals.Goals as goal

pub loop-place-init : goal.loop-place-init
loop-place-init c = rw c.new-kept.ensures (tight-start c.args.shape.now c.args.whole.now c.args.list.now c.requires.among)
