use Rattle.std.proofs.Common.{[], get_or, subst, sym}
use Rattle.std.specs.Prelude.{All}
use Rattle.std.proofs.lemmas.List.Elements.{All-nil}
use Rattle.ras_logic.specs.Clashes.{FactsClash}
use Rattle.ras_known.specs.Knowledge.{AreApart}
use Rattle.ras_subsumption.specs.Subsumption.{EntailsBy}
use Rattle.ras_subsumption.proofs.WidenedCubes.{widened-fits, entails-empty}
use Rattle.ras_subsumption.proofs.subsuming.find_place.Goals as goal

pub returns-in-None : goal.returns-in-None
returns-in-None c =
    let shape = c.args.shape.now in
    let cube = c.args.cube.now in
    let other = c.args.other.now in
    let premise = c.in_ok-premise.premise in
    let clash : FactsClash shape.schema premise.literals = rw c.in-None.is at c.in_ok-of.ensures in
    record {
      within = c.requires.some;
      entails = entails-empty shape cube other premise c.requires.cube c.known-2.ensures.cube c.in_ok-premise.ensures c.known.ensures.shape.schema clash (get_or c.args.maps.now 0 [])
          (c.requires.maps.each 0 [] c.requires.some);
      before = All-nil (λ map. ¬ EntailsBy shape cube other map);
    }

pub first_place-requires-clause-known : goal.first_place-requires-clause-known
first_place-requires-clause-known c = record {
  fits = widened-fits c.args.shape.now c.args.cube.now c.args.other.now c.in_ok-premise.premise c.requires.cube c.known-2.ensures.cube c.in_ok-premise.ensures;
  closure = rw c.in-Some.is at c.in_ok-of.ensures;
  apart = subst (All (AreApart c.args.shape.now c.in_ok-premise.premise c.in-Some.closure)) (sym c.deref.ensures.value) c.in_ok-apart-in-Some.ensures;
}
