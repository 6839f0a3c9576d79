use Rattle.ras_refute.proofs.Passing.{HasCome}
use Rattle.ras_refute.proofs.closing.closes.Given as goal

abbrev pub invariant-loop-number : goal.invariant-loop-number
invariant-loop-number l = HasCome l.shape.schema l.formulas l.premise.rows l.premise.literals l.tree.nodes l.number l.facts.items l.splits.items
