use Rattle.ras_sat.specs.Searches.{Stands}
use Rattle.ras_sat.specs.Efforts.{effort_of}
use Rattle.ras_sat.proofs.deciding.decide.Given as goal

abbrev pub invariant-loop-step : goal.invariant-loop-step
invariant-loop-step l = Stands l.task l.search l.step

abbrev pub decreases-loop-step : goal.decreases-loop-step
decreases-loop-step l = effort_of l.task l.search l.step
