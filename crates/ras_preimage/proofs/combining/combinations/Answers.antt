use Rattle.ras_preimage.proofs.Combos.{combinations-more, combinations-all}
use Rattle.ras_preimage.proofs.combining.combinations.Goals as goal

pub loop-row-preserved : goal.loop-row-preserved
loop-row-preserved c =
    combinations-more c.args.updated c.args.bulk.now c.args.unmatched.now c.loop-row.row-index (record { number = 0; relation = record { n = 0 } }) _ _ _ _ _ _
    c.loop-row-test.true c.in_ok-ways_of.ensures c.in_ok-ways.ensures c.as_slice.ensures.items c.in_ok-all.ensures c.loop-row.invariant

pub returns : goal.returns
returns c = combinations-all c.args.updated c.args.bulk.now c.args.unmatched.now c.loop-row.row-index _ _ c.loop-row-test.false c.loop-row.invariant
