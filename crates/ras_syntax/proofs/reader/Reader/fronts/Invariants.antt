use Rattle.std.proofs.Common.{◌≡◌, ◌∷◌, ◌++◌, List, length}
use Rattle.std.specs.List.{flat_map}
use Rattle.ras_syntax.specs.Machine as m
use Rattle.ras_syntax.specs.Places as places
use Rattle.ras_syntax.specs.Places.{words}
use Rattle.ras_syntax.proofs.reader.Reader.fronts.Given as goal

abbrev pub invariant-loop-calls : goal.invariant-loop-calls
invariant-loop-calls l = record {
  reads : (K : List m.Sym) → m.fault (m.term ∷ K) (words l.fn.self.rest.now) ≡ m.fault (m.term ∷ (m.closes (length l.calls.items) ++ K)) (words l.self.rest.now);
  spells : l.fn.self.rest.now ≡ flat_map places.of_call l.calls.items ++ l.self.rest.now;
}

abbrev pub decreases-loop-calls : goal.decreases-loop-calls
decreases-loop-calls l = length l.self.rest.now
