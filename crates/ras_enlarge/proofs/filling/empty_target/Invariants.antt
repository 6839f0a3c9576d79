use Rattle.ras_enlarge.specs.Numbers.{size_in}
use Rattle.ras_enlarge.proofs.Zeros.{AreFilledTo}
use Rattle.ras_enlarge.proofs.filling.empty_target.Given as goal

abbrev pub invariant-loop-k : goal.invariant-loop-k
invariant-loop-k l = AreFilledTo l.table l.k (size_in l.sizes)
