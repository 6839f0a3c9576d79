use Rattle.std.proofs.Common.{◌≡◌, ◌∷◌, ◌++◌, List, length}
use Rattle.std.specs.List.{flat_map}
use Rattle.ras_syntax.specs.Machine as m
use Rattle.ras_syntax.specs.Places as places
use Rattle.ras_syntax.specs.Places.{words}
use Rattle.ras_syntax.proofs.reader.Reader.ors.Given as goal

abbrev pub invariant-loop-at : goal.invariant-loop-at
invariant-loop-at l = record {
  reads : (K : List m.Sym) → m.fault (m.ors ∷ K) (words l.fn.self.rest.now) ≡ m.fault (m.ors ∷ K) (words l.self.rest.now);
  spells : l.fn.self.rest.now ≡ flat_map places.of_or l.ors.items ++ l.self.rest.now;
}

abbrev pub decreases-loop-at : goal.decreases-loop-at
decreases-loop-at l = length l.self.rest.now
