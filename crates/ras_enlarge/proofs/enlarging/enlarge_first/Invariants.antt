use Rattle.ras_enlarge.specs.Enlarged.{AreMissed}
use Rattle.ras_enlarge.proofs.enlarging.enlarge_first.Given as goal

abbrev pub invariant-loop-case : goal.invariant-loop-case
invariant-loop-case l = AreMissed l.cases l.case-index l.db l.values
