use Rattle.ras_enlarge.specs.Numbers.{AreNumberedTo}
use Rattle.ras_enlarge.proofs.numbering.number_terms.Given as goal

abbrev pub invariant-loop-i : goal.invariant-loop-i
invariant-loop-i l = AreNumberedTo l.case l.db l.values l.i l.numbers.items l.sizes.items
