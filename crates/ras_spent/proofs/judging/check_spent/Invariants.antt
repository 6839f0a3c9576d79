use Rattle.ras_spent.proofs.GoodBelow.{AreGoodBelow}
use Rattle.ras_spent.proofs.judging.check_spent.Given as goal

abbrev pub invariant-loop-number : goal.invariant-loop-number
invariant-loop-number l = AreGoodBelow l.system l.entries l.number
