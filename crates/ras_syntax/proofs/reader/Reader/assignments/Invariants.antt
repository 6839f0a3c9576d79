use Rattle.std.proofs.Common.{◌≡◌, ◌∷◌, ◌++◌, List, length}
use Rattle.std.specs.List.{flat_map}
use Rattle.ras_syntax.specs.Machine as m
use Rattle.ras_syntax.specs.Places as places
use Rattle.ras_syntax.specs.Places.{words}
use Rattle.ras_syntax.proofs.reader.Reader.assignments.Given as goal

abbrev pub invariant-loop-row : goal.invariant-loop-row
invariant-loop-row l = record {
  reads : (K : List m.Sym) → m.fault (m.assignments ∷ K) (words l.fn.self.rest.now) ≡ m.fault (m.assignments ∷ K) (words l.self.rest.now);
  spells : l.fn.self.rest.now ≡ flat_map places.of_assignment l.assignments.items ++ l.self.rest.now;
}

abbrev pub decreases-loop-row : goal.decreases-loop-row
decreases-loop-row l = length l.self.rest.now
