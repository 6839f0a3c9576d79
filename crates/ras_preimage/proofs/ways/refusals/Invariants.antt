use Rattle.std.proofs.Common.{◌≡◌, take}
use Rattle.std.specs.List.{flat_map}
use Rattle.ras_preimage.specs.Parts.{refused_too}
use Rattle.ras_preimage.proofs.ways.refusals.Given as goal

abbrev pub invariant-loop-literals : goal.invariant-loop-literals
invariant-loop-literals l = l.all ≡ flat_map (refused_too l.updated l.number l.condition) (take l.literals-index l.before)
