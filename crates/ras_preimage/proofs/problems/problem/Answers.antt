use Rattle.ras_preimage.proofs.OneProblem.{problem-parts}
use Rattle.ras_preimage.proofs.problems.problem.Goals as goal

pub returns : goal.returns
returns c =
    problem-parts c.args.transition.now c.args.cube.now c.args.unmatched.now c.args.disjunct.now c.args.ways.now c.args.sources.now c.len-updated.result c.loop-literal.literal-index
    c.literals-literal-items.result.now c.in_ok-literals.literals c.loop-literal.literals c.in_ok-rows.rows c.in_ok-params.params
    c.in_ok-rows.ensures c.in_ok-params.ensures c.in_ok-literals.ensures c.len-updated.ensures.count c.literals-literal-items.ensures c.loop-literal-test.false c.loop-literal.invariant
