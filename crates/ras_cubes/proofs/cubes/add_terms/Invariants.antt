use Rattle.ras_cubes.specs.Dues.{AddsDue, IsDueTo, IsTermDue}
use Rattle.ras_cubes.proofs.cubes.add_terms.Given as goal

abbrev pub invariant-loop-i : goal.invariant-loop-i
invariant-loop-i l = AddsDue (IsDueTo (IsTermDue l.closure l.terms) l.i) l.fn.literals l.literals
