use Rattle.ras_bundles.specs.Checks.{cube_checks}
use Rattle.ras_bundles.proofs.LineLaws.{passed_stop, passed_more, cube_same}
use Rattle.ras_bundles.proofs.step_lines.disjunct_lines.Goals as goal

pub returns-in_err-judged-clause-judges : goal.returns-in_err-judged-clause-judges
returns-in_err-judged-clause-judges c =
    let x = c.index-cubes-n.result in
    passed_stop (λ _. cube_checks c.args.shape.now) c.args.cubes.now c.args.first c.loop-n.n x x c.in_err-judged.field-0.0 c.from_residual.result c.loop-n-test.true c.index-cubes-n.is c.loop-n.invariant
    (c.in_err-judged.ensures.judges (cube_checks c.args.shape.now x) (cube_same c.args.shape.now x _ _ _ c.as_slice.ensures.items c.as_slice-in-loop-n.ensures.items c.cube_fault-fault.ensures)) c.from_residual.ensures.1

pub loop-n-preserved : goal.loop-n-preserved
loop-n-preserved c =
    let x = c.index-cubes-n.result in
    passed_more (λ _. cube_checks c.args.shape.now) c.args.cubes.now c.args.first c.loop-n.n c.in_ok-judged.field-0 x x c.loop-n-test.true c.index-cubes-n.is c.loop-n.invariant
    (c.in_ok-judged.ensures.judges (cube_checks c.args.shape.now x) (cube_same c.args.shape.now x _ _ _ c.as_slice.ensures.items c.as_slice-in-loop-n.ensures.items c.cube_fault-fault.ensures)) c.in_ok-judged.ensures.next
