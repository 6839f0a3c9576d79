use Rattle.std.proofs.Common.{refl, arith}
use Rattle.ras_system.specs.SystemFaults.{transition_checks, for_each}
use Rattle.ras_system.proofs.FirstFaults.{passed_more, passed_fault, fault_answer}
use Rattle.ras_system.proofs.checks.transitions.check_transitions.Goals as goal

pub returns-in_err-check_transition : goal.returns-in_err-check_transition
returns-in_err-check_transition c =
    fault_answer (for_each (transition_checks c.args.shape.now) c.args.transitions.now) c.from_residual.result c.in_err-check_transition.field-0.0 c.from_residual.ensures.1
    (passed_fault (transition_checks c.args.shape.now) c.args.transitions.now c.args.transitions.now c.loop-n.n c.index-transitions-n.result c.in_err-check_transition.field-0.0
    refl c.loop-n-test.true c.index-transitions-n.is c.loop-n.invariant.passed c.in_err-check_transition.ensures.first)

pub loop-n-preserved : goal.loop-n-preserved
loop-n-preserved c = record {
  passed = passed_more (transition_checks c.args.shape.now) c.args.transitions.now c.args.transitions.now c.loop-n.n c.index-transitions-n.result refl c.loop-n-test.true c.index-transitions-n.is
      c.loop-n.invariant.passed c.in_ok-check_transition.ensures.first;
  few = let few = c.in_ok-check_transition.ensures.few in omega (arith, few);
}
