use Rattle.std.proofs.Common.{◌≡◌, take}
use Rattle.ras_system.specs.Steps.{written, term_for_cell}
use Rattle.ras_steps.specs.Sights.{seen}
use Rattle.ras_steps.proofs.changes.named_row.Given as goal

abbrev pub invariant-loop-column : goal.invariant-loop-column
invariant-loop-column l = l.after ≡ written l.db (seen l.sight) (term_for_cell l.updates l.row) (take l.column l.cells)
