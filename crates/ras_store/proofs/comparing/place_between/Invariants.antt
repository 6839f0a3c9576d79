use Rattle.ras_store.specs.Comparing.{IsNotAmong}
use Rattle.ras_store.proofs.comparing.place_between.Given as goal

abbrev pub invariant-loop-at : goal.invariant-loop-at
invariant-loop-at l = IsNotAmong l.submissions l.from l.at l.cube
