use Rattle.std.proofs.Common.{take}
use Rattle.ras_subsumption.specs.Places.{HasNoPlace}
use Rattle.ras_subsumption.proofs.subsuming.first_place.Given as goal

abbrev pub invariant-loop-place : goal.invariant-loop-place
invariant-loop-place l = HasNoPlace l.known.shape.now l.cube l.other (take l.place l.maps)
