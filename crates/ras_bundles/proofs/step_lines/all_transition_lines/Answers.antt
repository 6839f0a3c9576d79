use Rattle.std.proofs.Common.{arith}
use Rattle.ras_bundles.specs.Checks.{transition_checks}
use Rattle.ras_bundles.proofs.LineLaws.{went_stop, went_more}
use Rattle.ras_bundles.proofs.step_lines.all_transition_lines.Goals as goal

pub returns-in_err-next-clause-judges : goal.returns-in_err-next-clause-judges
returns-in_err-next-clause-judges c =
    let x = c.transition-item.result in
    went_stop (transition_checks c.args.shape.now) c.args.transitions.now c.args.first c.loop-transition.next c.loop-transition.transition-index x x c.in_err-next.field-0.0 c.from_residual.result
    c.loop-transition-test.true c.transition-item.is c.loop-transition.invariant.went c.in_err-next.ensures.judges c.from_residual.ensures.1

pub loop-transition-preserved : goal.loop-transition-preserved
loop-transition-preserved c =
    let x = c.transition-item.result in
    record {
      went = went_more (transition_checks c.args.shape.now) c.args.transitions.now c.args.first c.loop-transition.next c.in_ok-next.next c.loop-transition.transition-index x x
          c.loop-transition-test.true c.transition-item.is c.loop-transition.invariant.went c.in_ok-next.ensures.judges;
      few = omega (arith, c.loop-transition.invariant.few, c.in_ok-next.ensures.next);
    }
