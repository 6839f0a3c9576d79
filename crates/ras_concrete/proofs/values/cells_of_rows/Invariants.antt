use Rattle.std.proofs.Common.{◌≡◌, take}
use Rattle.ras_system.specs.States.{cells_of}
use Rattle.ras_concrete.proofs.values.cells_of_rows.Given as goal

abbrev pub invariant-loop-at : goal.invariant-loop-at
invariant-loop-at l = l.rows ≡ cells_of l.state (take l.at l.relations) (take l.at l.chosen)
