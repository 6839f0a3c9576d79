use Rattle.ras_subsumption.specs.Widened.{AddsTrivial}
use Rattle.ras_subsumption.proofs.Adding.{HasOverBelow}
use Rattle.ras_subsumption.proofs.widening.add_term.Given as goal

abbrev pub invariant-loop-row : goal.invariant-loop-row
invariant-loop-row l = AddsTrivial l.shape l.rows l.fn.literals l.literals × HasOverBelow l.shape l.rows l.literals l.term l.row
