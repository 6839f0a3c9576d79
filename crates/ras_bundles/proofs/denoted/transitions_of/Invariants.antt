use Rattle.std.proofs.Common.{◌≡◌, map, take}
use Rattle.ras_bundles.specs.Numbers.{transition_named}
use Rattle.ras_bundles.proofs.denoted.transitions_of.Given as goal

abbrev pub invariant-loop-line : goal.invariant-loop-line
invariant-loop-line l = l.transitions ≡ map transition_named (take l.line-index l.lines)
