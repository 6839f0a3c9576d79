use Rattle.std.proofs.Common.{◌≡◌, map, take}
use Rattle.ras_bundles.specs.Numbers.{function_named}
use Rattle.ras_bundles.proofs.denoted.functions_of.Given as goal

abbrev pub invariant-loop-line : goal.invariant-loop-line
invariant-loop-line l = l.functions ≡ map function_named (take l.line-index l.lines)
