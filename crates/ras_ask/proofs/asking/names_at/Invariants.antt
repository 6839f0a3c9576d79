use Rattle.std.proofs.Common.{take}
use Rattle.ras_ask.specs.Asking.{ArePlaces}
use Rattle.ras_ask.proofs.asking.names_at.Given as goal

abbrev pub invariant-loop-place : goal.invariant-loop-place
invariant-loop-place l = ArePlaces l.names (take l.place-index l.places) l.picked.items
