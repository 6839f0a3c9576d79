use Rattle.ras_cubes.specs.Reduced.{IsReducedTo}
use Rattle.ras_cubes.proofs.reducing.reduce.Given as goal

abbrev pub invariant-loop-place : goal.invariant-loop-place
invariant-loop-place l = IsReducedTo l.shape l.problem l.place l.kept
