use Rattle.std.proofs.Common.{◌≤◌, length, arith}
use Rattle.ras_refute.proofs.Choices.{rows-small}
use Rattle.ras_entail.proofs.FailingLiterals.{under-fits}
use Rattle.ras_entail.proofs.judging.truth_under.Goals as goal

pub with_rows-requires : goal.with_rows-requires
with_rows-requires c =
    let few : length c.args.known.now.premise.now.rows ≤ 65535 = omega (arith, c.len-rows.ensures.room, c.len-rows.ensures.count) in
    rows-small c.args.known.now.premise.now.rows c.args.cube.now.rows c.args.rows.now few c.requires.rows

pub returns : goal.returns
returns c =
    rw (← c.in_ok-literal.ensures)
    (c.truth_of.ensures
    (rw c.in_ok-literal.ensures
    (under-fits c.args.known.now.shape.now c.args.known.now.premise.now.rows c.args.cube.now.rows c.args.known.now.premise.now.params c.args.rows.now c.requires.rows c.args.literal.now c.requires.fits)))
