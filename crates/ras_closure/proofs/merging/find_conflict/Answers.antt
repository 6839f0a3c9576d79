use Rattle.std.proofs.Common.{◌≤◌, arith}
use Rattle.ras_closure.specs.Numbered.{rigid_count}
use Rattle.ras_closure.proofs.Verdicts.{looked_forth, looked_back}
use Rattle.ras_closure.proofs.merging.find_conflict.Goals as goal

pub returns-then-to_size-from_size : goal.returns-then-to_size-from_size
returns-then-to_size-from_size c =
    let above : rigid_count c.args.table.now ≤ c.args.from = omega (arith, c.rigid_count.ensures) in
    looked_forth c.args.table.now c.args.marks.now c.args.classes.now c.args.to c.args.from above c.find_disequality.result c.find_disequality.ensures

pub returns-else-to_size-from_size : goal.returns-else-to_size-from_size
returns-else-to_size-from_size c =
    let above : rigid_count c.args.table.now ≤ c.args.from = omega (arith, c.rigid_count.ensures) in
    looked_back c.args.table.now c.args.marks.now c.args.classes.now c.args.to c.args.from above c.find_disequality-else-to_size-from_size.result c.find_disequality-else-to_size-from_size.ensures
