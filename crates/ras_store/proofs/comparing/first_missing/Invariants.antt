use Rattle.std.proofs.Common.{◌≤◌, length, take}
use Rattle.std.specs.Prelude.{All, Contains}
use Rattle.ras_store.proofs.comparing.first_missing.Given as goal

abbrev pub invariant-loop-index : goal.invariant-loop-index
invariant-loop-index l = (l.from ≤ length l.submissions) × All (Contains l.submissions) (take l.index l.all)
