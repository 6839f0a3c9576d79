use Rattle.ras_split.specs.Standing.{AreGapsTo}
use Rattle.ras_split.proofs.standing.gaps_of.Given as goal

abbrev pub invariant-loop-i : goal.invariant-loop-i
invariant-loop-i l = AreGapsTo l.closure l.terms l.i l.gaps.items
