use Rattle.ras_sat.proofs.Choosing.{IsBest}
use Rattle.ras_sat.proofs.choice.choose.Given as goal

abbrev pub invariant-loop-instance : goal.invariant-loop-instance
invariant-loop-instance l = IsBest l.model l.task.opposites.now l.instance l.best
