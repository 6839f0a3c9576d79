use Rattle.std.proofs.Common.{◌≡◌, map, take}
use Rattle.ras_bundles.specs.Numbers.{literals_of}
use Rattle.ras_bundles.proofs.denoted.guard_of.Given as goal

abbrev pub invariant-loop-cube : goal.invariant-loop-cube
invariant-loop-cube l = l.guard ≡ map literals_of (take l.cube-index l.cubes)
