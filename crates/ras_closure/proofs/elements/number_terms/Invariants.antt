use Rattle.ras_closure.specs.Elements.{AreNumbered}
use Rattle.ras_closure.proofs.elements.number_terms.Given as goal

abbrev pub invariant-loop-i : goal.invariant-loop-i
invariant-loop-i l = AreNumbered l.table l.classes l.numbers.items l.counts.items l.i
