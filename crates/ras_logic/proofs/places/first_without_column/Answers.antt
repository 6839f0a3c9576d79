use Rattle.std.proofs.Common.{◌<◌, List, length, arith}
use Rattle.ras_logic.specs.declared.ids.SortId.{SortId}
use Rattle.ras_logic.proofs.AllSteps.{all_step, all_done}
use Rattle.ras_logic.proofs.places.first_without_column.Goals as goal

pub loop-n-preserved : goal.loop-n-preserved
loop-n-preserved c =
    all_step (λ (columns : List SortId). 0 < length columns) c.args.relations.now c.loop-n.n c.index-relations-n.result c.loop-n-test.true c.index-relations-n.is
    c.loop-n.invariant (omega arith)

pub returns-clause-none : goal.returns-clause-none
returns-clause-none c = all_done (λ (columns : List SortId). 0 < length columns) c.args.relations.now c.loop-n.n c.loop-n-test.false c.loop-n.invariant
