use Rattle.ras_entail.specs.EscapeStates.{AreRowsBelow}
use Rattle.ras_entail.proofs.states.rows_in.Given as goal

abbrev pub invariant-loop-row : goal.invariant-loop-row
invariant-loop-row l = AreRowsBelow l.rows l.cells l.relation l.row l.found
