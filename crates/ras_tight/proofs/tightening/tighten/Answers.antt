use Rattle.ras_tight.proofs.LeftOut.{tight-cube, no-fault}
use Rattle.ras_tight.proofs.tightening.tighten.Goals as goal

pub unreachable-requires : goal.unreachable-requires
unreachable-requires c =
    no-fault c.args.shape.now c.args.cube.now c.in_ok-whole.whole c.args.list.now c.in_ok-whole.ensures c.known.ensures.cube c.requires.fits c.in_ok-literals.literals c.in_ok-literals.ensures
    c.in-Err.field-0 c.in-Err.ensures.fault

pub returns : goal.returns
returns c =
    tight-cube c.args.shape.now c.args.cube.now c.in_ok-whole.whole c.args.list.now c.in_ok-whole.ensures c.known.ensures.cube c.requires.fits c.in_ok-literals.literals c.in_ok-literals.ensures
    c.in-Ok.tight c.in-Ok.ensures.value
