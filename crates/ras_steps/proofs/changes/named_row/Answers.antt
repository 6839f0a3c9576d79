use Rattle.ras_system.specs.Steps.{term_for_cell}
use Rattle.ras_steps.specs.Sights.{seen}
use Rattle.ras_steps.proofs.Assigned.{written_more}
use Rattle.ras_steps.proofs.changes.named_row.Goals as goal

pub loop-column-preserved : goal.loop-column-preserved
loop-column-preserved c =
    let more = written_more c.args.db.now (seen c.args.sight.now) (term_for_cell c.args.updates.now c.args.row) c.args.cells.now c.loop-column.column c.loop-column-test.true in
    cc (c.in_ok-push.ensures.ok, c.loop-column.invariant, c.cell_after.ensures)
