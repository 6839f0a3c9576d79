use Rattle.ras_preimage.proofs.OneProblem.{combination-more, combinations-done}
use Rattle.ras_preimage.proofs.problems.add_of_disjunct.Goals as goal

pub loop-ways-preserved : goal.loop-ways-preserved
loop-ways-preserved c = λ choices e.
    combination-more c.args.transition.now c.args.cube.now c.args.matched.now c.args.disjunct.now c.args.unmatched.now c.requires.unmatched
    c.args.combinations.now choices c.loop-ways.ways-index c.ways-item.result _ _ _ _ _ _ _ _
    c.loop-ways-test.true c.ways-item.is c.as_slice.ensures.items c.as_slice-in-loop-ways.ensures.items
    (c.in_ok-sources.ensures c.args.transition.now) c.as_slice-in-loop-ways-2.ensures.items e c.in_ok-problem.ensures c.in_ok-push.ensures.ok (c.loop-ways.invariant choices e)

pub returns : goal.returns
returns c = λ choices e.
    combinations-done c.args.transition.now c.args.cube.now c.args.matched.now c.args.disjunct.now c.args.unmatched.now c.requires.unmatched
    c.args.combinations.now choices c.loop-ways.ways-index _ _ c.loop-ways-test.false e (c.loop-ways.invariant choices e)
