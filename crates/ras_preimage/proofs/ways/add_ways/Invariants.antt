use Rattle.std.proofs.Common.{◌≡◌, ◌++◌, map, take}
use Rattle.ras_preimage.specs.Parts.{taken}
use Rattle.ras_preimage.proofs.ways.add_ways.Given as goal

abbrev pub invariant-loop-literals : goal.invariant-loop-literals
invariant-loop-literals l = l.ways ≡ l.fn.ways ++ map (taken l.updated l.number l.case l.condition) (take l.literals-index l.before)
