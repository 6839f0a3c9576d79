use Rattle.ras_cubes.specs.Dues.{AddsDue, IsDueTo, IsImageDue}
use Rattle.ras_cubes.proofs.cubes.add_images.Given as goal

abbrev pub invariant-loop-i : goal.invariant-loop-i
invariant-loop-i l = AddsDue (IsDueTo (IsImageDue l.closure l.terms) l.i) l.fn.literals l.literals
