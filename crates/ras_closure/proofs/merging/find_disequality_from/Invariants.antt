use Rattle.ras_closure.specs.Merging.{HasNoDisequality}
use Rattle.ras_closure.proofs.merging.find_disequality_from.Given as goal

abbrev pub invariant-loop-j : goal.invariant-loop-j
invariant-loop-j l = HasNoDisequality l.marks l.classes l.i l.other l.j
