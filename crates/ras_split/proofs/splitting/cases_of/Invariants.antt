use Rattle.ras_split.specs.Splits.{AreCasesTo}
use Rattle.ras_split.proofs.splitting.cases_of.Given as goal

abbrev pub invariant-loop-i : goal.invariant-loop-i
invariant-loop-i l = AreCasesTo l.fn.closure l.i l.cases
