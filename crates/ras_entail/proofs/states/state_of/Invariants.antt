use Rattle.ras_entail.proofs.StateRows.{AreFirstRelations}
use Rattle.ras_entail.proofs.states.state_of.Given as goal

abbrev pub invariant-loop-n : goal.invariant-loop-n
invariant-loop-n l = AreFirstRelations l.rows l.values.rows l.n l.relations
