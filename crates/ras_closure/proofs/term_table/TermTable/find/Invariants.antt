use Rattle.ras_closure.specs.Numbered.{IsAt}
use Rattle.ras_closure.specs.Building.{prefix_at}
use Rattle.ras_closure.proofs.term_table.TermTable.find.Given as goal

abbrev pub invariant-loop-function : goal.invariant-loop-function
invariant-loop-function l = IsAt l.self.terms l.at (prefix_at l.term l.function-index)
