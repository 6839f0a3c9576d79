use Rattle.std.proofs.Common.{◌≡◌, map, take}
use Rattle.ras_bundles.specs.Numbers.{sort_named}
use Rattle.ras_bundles.proofs.denoted.sorts_of.Given as goal

abbrev pub invariant-loop-number : goal.invariant-loop-number
invariant-loop-number l = l.sorts ≡ map sort_named (take l.number-index l.numbers)
