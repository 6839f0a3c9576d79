use Rattle.ras_cubes.specs.Dues.{AddsDue, IsDueTo, IsFactDue}
use Rattle.ras_cubes.proofs.cubes.add_facts.Given as goal

abbrev pub invariant-loop-fact : goal.invariant-loop-fact
invariant-loop-fact l = AddsDue (IsDueTo (IsFactDue l.closure l.terms) l.fact-index) l.fn.literals l.literals
