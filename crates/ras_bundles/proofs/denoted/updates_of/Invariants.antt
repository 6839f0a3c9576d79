use Rattle.std.proofs.Common.{◌≡◌, map, take}
use Rattle.ras_bundles.specs.Numbers.{update_named}
use Rattle.ras_bundles.proofs.denoted.updates_of.Given as goal

abbrev pub invariant-loop-line : goal.invariant-loop-line
invariant-loop-line l = l.updates ≡ map update_named (take l.line-index l.lines)
