use Rattle.ras_cover.specs.Within.{AreOthers}
use Rattle.ras_cover.proofs.admitting.others.Given as goal

abbrev pub invariant-loop-other : goal.invariant-loop-other
invariant-loop-other l = AreOthers l.yielded l.cube l.kept
