use Rattle.ras_known.proofs.KnownTruth.{same-truth}
use Rattle.ras_known.proofs.known.truth_of.Goals as goal

pub returns-then-sides : goal.returns-then-sides
returns-then-sides c fits =
    let k = c.args.known.now in
    rw c.says_same.ensures
    (same-truth k.shape.now k.premise.now k.closure.now c.requires.closure c.known.ensures.table c.known.ensures.closure c.args.literal.now c.in_ok-sides.sides c.in_ok-sides.ensures c.if-sides.true)
