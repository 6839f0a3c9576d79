use Rattle.std.proofs.Common.{◌≡◌, ◌++◌, take}
use Rattle.ras_tight.proofs.tightening.add_from.Given as goal

abbrev pub invariant-loop-literal : goal.invariant-loop-literal
invariant-loop-literal l = l.all ≡ l.fn.all ++ take l.literal-index l.literal-items
