use Rattle.std.proofs.Common.{arith}
use Rattle.std.proofs.lemmas.List.{length-take, length-drop}
use Rattle.ras_outside.proofs.Taking.{Appends-take}
use Rattle.ras_outside.proofs.std_sink.write_whole.Goals as goal

pub loop-taken-preserved : goal.loop-taken-preserved
loop-taken-preserved g c = (
  omega (arith, simp (length-take, length-drop) at c.in-Ok.ensures.bound, c.loop-taken.invariant.0),
  Appends-take _ _ _ _ _ _ c.loop-taken.invariant.1 c.in-Ok.ensures.bytes,
)
