use Rattle.std.proofs.Common.{◌≡◌, ◌∷◌, ◌++◌, List, length}
use Rattle.std.specs.List.{flat_map}
use Rattle.ras_syntax.specs.Machine as m
use Rattle.ras_syntax.specs.Places as places
use Rattle.ras_syntax.specs.Places.{words}
use Rattle.ras_syntax.proofs.reader.Reader.columns.Given as goal

abbrev pub invariant-loop-comma : goal.invariant-loop-comma
invariant-loop-comma l = record {
  reads : (K : List m.Sym) → m.fault (m.columns ∷ K) (words l.fn.self.rest.now) ≡ m.fault (m.columns ∷ K) (words l.self.rest.now);
  spells : l.fn.self.rest.now ≡ flat_map places.of_comma l.columns.items ++ l.self.rest.now;
}

abbrev pub decreases-loop-comma : goal.decreases-loop-comma
decreases-loop-comma l = length l.self.rest.now
