use Rattle.std.proofs.Common.{◌≡◌, ◌++◌, take}
use Rattle.ras_preimage.specs.Parts.{refused_too}
use Rattle.ras_preimage.proofs.ways.add_refusals.Given as goal

abbrev pub invariant-loop-literal : goal.invariant-loop-literal
invariant-loop-literal l = l.all ≡ l.fn.all ++ refused_too l.updated l.number (take l.literal-index l.condition) l.literals
