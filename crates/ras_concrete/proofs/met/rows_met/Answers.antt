use Rattle.ras_logic.proofs.AllSteps.{all_step, all_done}
use Rattle.ras_logic.specs.declared.problem.Problem.{Problem}
use Rattle.ras_system.specs.States.{Meets}
use Rattle.ras_concrete.proofs.met.rows_met.Goals as goal

pub loop-cube-preserved : goal.loop-cube-preserved
loop-cube-preserved c =
    all_step (λ (q : Problem). ¬ Meets c.args.db.now c.args.state.now q) c.args.cubes.now c.loop-cube.cube-index c.cube-item.result c.loop-cube-test.true c.cube-item.is c.loop-cube.invariant
    (λ met. let told = c.meets.ensures.met.1 met in let not_met = c.if-meets.false in cc)

pub returns-clause-none : goal.returns-clause-none
returns-clause-none c = all_done (λ (q : Problem). ¬ Meets c.args.db.now c.args.state.now q) c.args.cubes.now c.loop-cube.cube-index c.loop-cube-test.false c.loop-cube.invariant
