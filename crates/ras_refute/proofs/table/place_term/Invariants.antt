use Rattle.ras_refute.specs.Tables.{AddsTerm}
use Rattle.ras_refute.proofs.Entries.{prefix_at}
use Rattle.ras_refute.proofs.table.place_term.Given as goal

abbrev pub invariant-loop-function : goal.invariant-loop-function
invariant-loop-function l = AddsTerm l.fn.entries l.entries (prefix_at l.term l.function-index) l.at
