use Rattle.std.proofs.Common.{◌≡◌, map, take}
use Rattle.ras_bundles.specs.Numbers.{variable_initial}
use Rattle.ras_bundles.proofs.denoted.initial_constants.Given as goal

abbrev pub invariant-loop-line : goal.invariant-loop-line
invariant-loop-line l = l.constants ≡ map variable_initial (take l.line-index l.lines)
