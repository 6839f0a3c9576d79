use Rattle.std.proofs.Common.{refl, arith}
use Rattle.ras_logic.specs.Formulas.{IsCube}
use Rattle.ras_logic.proofs.AllSteps.{all_step, all_done}
use Rattle.ras_system.specs.SystemFaults.{goal_checks, for_each}
use Rattle.ras_system.proofs.FirstFaults.{passed_more, passed_fault, fault_answer}
use Rattle.ras_system.proofs.checks.goals.check_goals.Goals as goal

pub returns-in_err-check_goal-clause-first : goal.returns-in_err-check_goal-clause-first
returns-in_err-check_goal-clause-first c =
    fault_answer (for_each (goal_checks c.args.shape.now) c.args.goals.now) c.from_residual.result c.in_err-check_goal.field-0.0 c.from_residual.ensures.1
    (passed_fault (goal_checks c.args.shape.now) c.args.goals.now c.args.goals.now c.loop-n.n c.index-goals-n.result c.in_err-check_goal.field-0.0 refl c.loop-n-test.true c.index-goals-n.is
    c.loop-n.invariant.passed c.in_err-check_goal.ensures.first)

pub loop-n-preserved : goal.loop-n-preserved
loop-n-preserved c = record {
  passed = passed_more (goal_checks c.args.shape.now) c.args.goals.now c.args.goals.now c.loop-n.n c.index-goals-n.result refl c.loop-n-test.true c.index-goals-n.is
      c.loop-n.invariant.passed c.in_ok-check_goal.ensures.first;
  few = let few = c.in_ok-check_goal.ensures.few in omega (arith, few);
  cubes = all_step IsCube c.args.goals.now c.loop-n.n c.index-goals-n.result c.loop-n-test.true c.index-goals-n.is c.loop-n.invariant.cubes c.known.ensures.cube;
}

pub returns-clause-cubes : goal.returns-clause-cubes
returns-clause-cubes c = all_done IsCube c.args.goals.now c.loop-n.n c.loop-n-test.false c.loop-n.invariant.cubes
