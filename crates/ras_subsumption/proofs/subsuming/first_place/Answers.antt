use Rattle.std.proofs.Common.{◌<◌, ◌^◌, ℕ, List, [], sym, ◌∙◌, subst}
use Rattle.std.specs.Prelude.{All}
use Rattle.std.proofs.lemmas.List.{get_or_default}
use Rattle.ras_logic.specs.declared.literal.Literal.{Literal}
use Rattle.ras_logic.specs.Formulas.{replace}
use Rattle.ras_logic.specs.Refutations.{AreRowsOf, chosen_row}
use Rattle.ras_logic.proofs.AllSteps.{all_step, all_done}
use Rattle.ras_logic.proofs.ByPlace.{no_true}
use Rattle.ras_closure.specs.Closings.{IsOfTable}
use Rattle.ras_refute.proofs.Choices.{rows-small}
use Rattle.ras_subsumption.specs.Subsumption.{AllHoldUnder, EntailsBy}
use Rattle.ras_subsumption.proofs.WidenedCubes.{entails-from, entails-to, literals-known}
use Rattle.ras_subsumption.proofs.subsuming.first_place.Goals as goal

pub all_hold_under-requires-clause-small : goal.all_hold_under-requires-clause-small
all_hold_under-requires-clause-small c =
    let of : AreRowsOf c.args.cube.now.rows c.args.other.now.rows c.index-maps-place.result =
    subst (AreRowsOf c.args.cube.now.rows c.args.other.now.rows) (sym c.index-maps-place.is) (c.requires.maps.each c.loop-place.place c.index-maps-place.result c.loop-place-test.true) in
    subst (All (λ (k : ℕ). k < 2 ^ 16)) (sym c.as_slice.ensures.items) (rows-small c.args.cube.now.rows c.args.other.now.rows c.index-maps-place.result c.known.ensures.rows of)

pub all_hold_under-requires-clause-of_table : goal.all_hold_under-requires-clause-of_table
all_hold_under-requires-clause-of_table c =
    let k = c.args.known.now in
    let of : AreRowsOf c.args.cube.now.rows c.args.other.now.rows c.index-maps-place.result =
    subst (AreRowsOf c.args.cube.now.rows c.args.other.now.rows) (sym c.index-maps-place.is) (c.requires.maps.each c.loop-place.place c.index-maps-place.result c.loop-place-test.true) in
    subst (λ (map : List ℕ). All (λ (l : Literal). IsOfTable k.closure.now.table (replace (chosen_row map) l)) c.args.other.now.literals) (sym c.as_slice.ensures.items)
    (literals-known k.shape.now c.args.cube.now c.args.other.now k.premise.now c.requires.cube c.known.ensures.cube c.requires.widened c.index-maps-place.result of k.closure.now.table
    c.requires.known.closure.shape_is c.requires.known.closure.problem_is c.requires.other c.known-2.ensures.cube)

pub returns-then-branch : goal.returns-then-branch
returns-then-branch c =
    let k = c.args.known.now in
    let map : List ℕ = c.index-maps-place.result in
    let of : AreRowsOf c.args.cube.now.rows c.args.other.now.rows map =
    subst (AreRowsOf c.args.cube.now.rows c.args.other.now.rows) (sym c.index-maps-place.is) (c.requires.maps.each c.loop-place.place map c.loop-place-test.true) in
    record {
      within = c.loop-place-test.true;
      entails = subst (EntailsBy k.shape.now c.args.cube.now c.args.other.now) (c.index-maps-place.is ∙ get_or_default c.args.maps.now c.loop-place.place map [] c.loop-place-test.true)
          (entails-from k.shape.now c.args.cube.now c.args.other.now k.premise.now c.requires.cube c.known.ensures.cube c.requires.widened map of
          (subst (λ (m : List ℕ). AllHoldUnder k.shape.now k.premise.now m c.args.other.now.literals) c.as_slice.ensures.items (c.in_ok-all_hold_under.ensures.0 c.if-branch.true)));
      before = c.loop-place.invariant;
    }

pub loop-place-preserved : goal.loop-place-preserved
loop-place-preserved c =
    let k = c.args.known.now in
    all_step (λ (map : List ℕ). ¬ EntailsBy k.shape.now c.args.cube.now c.args.other.now map) c.args.maps.now c.loop-place.place c.index-maps-place.result c.loop-place-test.true c.index-maps-place.is
    c.loop-place.invariant
    (λ by. no_true c.in_ok-all_hold_under.field-0
    (c.in_ok-all_hold_under.ensures.1 (subst (λ (m : List ℕ). AllHoldUnder k.shape.now k.premise.now m c.args.other.now.literals) (sym c.as_slice.ensures.items)
    (entails-to k.shape.now c.args.cube.now c.args.other.now k.premise.now c.requires.cube c.known.ensures.cube c.requires.widened c.index-maps-place.result by)))
    c.if-branch.false)

pub returns : goal.returns
returns c =
    let k = c.args.known.now in
    all_done (λ (map : List ℕ). ¬ EntailsBy k.shape.now c.args.cube.now c.args.other.now map) c.args.maps.now c.loop-place.place c.loop-place-test.false c.loop-place.invariant
