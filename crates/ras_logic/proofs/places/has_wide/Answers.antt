use Rattle.std.proofs.Common.{◌≤◌, List, length, arith}
use Rattle.ras_logic.specs.declared.ids.SortId.{SortId}
use Rattle.ras_logic.proofs.AllSteps.{all_step, all_done}
use Rattle.ras_logic.proofs.places.has_wide.Goals as goal

pub loop-columns-preserved : goal.loop-columns-preserved
loop-columns-preserved c =
    all_step (λ (columns : List SortId). length columns ≤ 32) c.args.relations.now c.loop-columns.columns-index c.columns-item.result c.loop-columns-test.true
    c.columns-item.is c.loop-columns.invariant (omega arith)

pub returns-clause-narrow : goal.returns-clause-narrow
returns-clause-narrow c =
    all_done (λ (columns : List SortId). length columns ≤ 32) c.args.relations.now c.loop-columns.columns-index c.loop-columns-test.false c.loop-columns.invariant
