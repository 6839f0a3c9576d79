use Rattle.std.proofs.Common.{◌≡◌, map, take}
use Rattle.ras_bundles.specs.Numbers.{variable_sort}
use Rattle.ras_bundles.proofs.denoted.variable_sorts.Given as goal

abbrev pub invariant-loop-line : goal.invariant-loop-line
invariant-loop-line l = l.sorts ≡ map variable_sort (take l.line-index l.lines)
