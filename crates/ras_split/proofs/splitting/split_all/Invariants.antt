use Rattle.ras_split.specs.Splits.{AreSplits}
use Rattle.ras_split.proofs.splitting.split_all.Given as goal

abbrev pub invariant-loop-case : goal.invariant-loop-case
invariant-loop-case l = AreSplits l.yielded l.fn.term.n l.next
