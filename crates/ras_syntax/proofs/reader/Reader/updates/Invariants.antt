use Rattle.std.proofs.Common.{◌≡◌, ◌∷◌, ◌++◌, List, length}
use Rattle.std.specs.List.{flat_map}
use Rattle.ras_syntax.specs.Machine as m
use Rattle.ras_syntax.specs.Places as places
use Rattle.ras_syntax.specs.Places.{words}
use Rattle.ras_syntax.proofs.reader.Reader.updates.Given as goal

abbrev pub invariant-loop-target : goal.invariant-loop-target
invariant-loop-target l = record {
  reads : (K : List m.Sym) → m.fault (m.updates ∷ K) (words l.fn.self.rest.now) ≡ m.fault (m.updates ∷ K) (words l.self.rest.now);
  spells : l.fn.self.rest.now ≡ flat_map places.of_update l.updates.items ++ l.self.rest.now;
}

abbrev pub decreases-loop-target : goal.decreases-loop-target
decreases-loop-target l = length l.self.rest.now
