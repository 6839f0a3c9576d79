use Rattle.ras_closure.specs.Merging.{HaveNoDisequality}
use Rattle.ras_closure.proofs.merging.find_disequality.Given as goal

abbrev pub invariant-loop-i : goal.invariant-loop-i
invariant-loop-i l = HaveNoDisequality l.marks l.classes l.a l.b l.i
