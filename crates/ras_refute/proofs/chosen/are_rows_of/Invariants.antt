use Rattle.ras_refute.proofs.Choices.{AreChosen}
use Rattle.ras_refute.proofs.chosen.are_rows_of.Given as goal

abbrev pub invariant-loop-k : goal.invariant-loop-k
invariant-loop-k l = AreChosen l.premise l.formula l.chosen l.k
