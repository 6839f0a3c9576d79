use Rattle.ras_reasons.specs.Marking.{AreMarked}
use Rattle.ras_reasons.proofs.named.named_formulas.Given as goal

abbrev pub invariant-loop-number : goal.invariant-loop-number
invariant-loop-number l = AreMarked l.marks.items l.number l.numbers.items
