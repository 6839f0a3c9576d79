use Rattle.std.proofs.Common.{◌∙◌}
use Rattle.ras_concrete.proofs.Cells.{row-copied}
use Rattle.ras_concrete.proofs.values.cells_of_rows.Goals as goal

pub loop-at-preserved : goal.loop-at-preserved
loop-at-preserved c =
    row-copied c.args.state.now c.args.relations.now c.args.chosen.now _ _ c.loop-at.at c.loop-at.rows c.push.new.self c.in_ok-listed.field-0 c.loop-at-test.true c.requires c.loop-at.invariant
    (c.in_ok-listed.ensures ∙ c.cells_of.ensures) c.in_ok-push.ensures.ok
