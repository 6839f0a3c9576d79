use Rattle.ras_tight.specs.Tightening.{IsTightUpTo}
use Rattle.ras_tight.proofs.tightening.needed_literals.Given as goal

abbrev pub invariant-loop-place : goal.invariant-loop-place
invariant-loop-place l = IsTightUpTo l.shape l.whole l.list l.place l.kept
