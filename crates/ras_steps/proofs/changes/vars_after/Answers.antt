use Rattle.ras_system.specs.Steps.{term_for_var}
use Rattle.ras_steps.specs.Sights.{seen}
use Rattle.ras_steps.proofs.Assigned.{written_more}
use Rattle.ras_steps.proofs.changes.vars_after.Goals as goal

pub loop-number-preserved : goal.loop-number-preserved
loop-number-preserved c =
    let more = written_more c.args.db.now (seen c.args.sight.now) (term_for_var c.args.updates.now) c.args.vars.now c.loop-number.number c.loop-number-test.true in
    cc (c.in_ok-push.ensures.ok, c.loop-number.invariant, c.var_after.ensures)
