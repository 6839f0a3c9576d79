use Rattle.ras_split.specs.Standing.{Fills}
use Rattle.ras_split.proofs.standing.fill.Given as goal

abbrev pub invariant-loop-gap : goal.invariant-loop-gap
invariant-loop-gap l = Fills l.fn.terms.items l.yielded l.terms.items
