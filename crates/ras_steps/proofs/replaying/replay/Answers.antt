use Rattle.std.proofs.Common.{subst}
use Rattle.std.specs.Prelude.{unwrap_or}
use Rattle.ras_system.specs.declared.state.State.{State}
use Rattle.ras_system.specs.Steps.{IsStep}
use Rattle.ras_steps.proofs.Replays.{run_more}
use Rattle.ras_steps.proofs.replaying.replay.Goals as goal

pub loop-at-preserved : goal.loop-at-preserved
loop-at-preserved c =
    run_more c.args.system.now c.args.db.now c.args.run.now.start c.as_slice-choices.result.now c.loop-at.at (unwrap_or c.loop-at.last c.args.run.now.start) c.index-choices-at.result c.in-Ok.state
    c.loop-at-test.true c.index-choices-at.is c.loop-at.invariant
    (subst (λ (s : State). IsStep c.args.system.now c.args.db.now s c.index-choices-at.result c.in-Ok.state) c.reached.ensures c.in-Ok.ensures.step)
