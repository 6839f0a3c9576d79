use Rattle.ras_cubes.proofs.Needed.{AddsTo}
use Rattle.ras_cubes.proofs.reducing.add_from.Given as goal

abbrev pub invariant-loop-k : goal.invariant-loop-k
invariant-loop-k l = AddsTo l.fn.facts l.literals l.fn.from l.k l.facts
