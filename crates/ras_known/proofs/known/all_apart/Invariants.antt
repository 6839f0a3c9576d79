use Rattle.std.specs.Prelude.{All}
use Rattle.ras_known.specs.Knowledge.{AreApart}
use Rattle.ras_known.proofs.known.all_apart.Given as goal

abbrev pub invariant-loop-literal : goal.invariant-loop-literal
invariant-loop-literal l = All (AreApart l.shape l.premise l.closure) l.all.items
