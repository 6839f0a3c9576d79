use Rattle.ras_steps.specs.StepFaults.{AreApartBefore}
use Rattle.ras_steps.proofs.refusal.row_repeated.Given as goal

abbrev pub invariant-loop-second : goal.invariant-loop-second
invariant-loop-second l = AreApartBefore l.transition l.choice l.second
