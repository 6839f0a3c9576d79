use Rattle.std.proofs.Common.{◌≡◌, ◌++◌, ◌-◌, List}
use Rattle.std.specs.List.{flat_map}
use Rattle.ras_syntax.specs.Machine as m
use Rattle.ras_syntax.specs.Places as places
use Rattle.ras_syntax.specs.Places.{words}
use Rattle.ras_syntax.proofs.reader.Reader.closes.Given as goal

abbrev pub invariant-loop : goal.invariant-loop
invariant-loop l = record {
  reads : (K : List m.Sym) → m.fault (m.closes l.count ++ K) (words l.fn.self.rest.now) ≡ m.fault (m.closes (l.count - l.counter) ++ K) (words l.self.rest.now);
  spells : l.fn.self.rest.now ≡ flat_map places.of_close l.places.items ++ l.self.rest.now;
}
