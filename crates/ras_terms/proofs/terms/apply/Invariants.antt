use Rattle.ras_terms.proofs.InsideOut.{AreApplied}
use Rattle.ras_terms.proofs.terms.apply.Given as goal

abbrev pub invariant-loop-i : goal.invariant-loop-i
invariant-loop-i l = AreApplied l.fn.start l.called l.i l.path l.sort
