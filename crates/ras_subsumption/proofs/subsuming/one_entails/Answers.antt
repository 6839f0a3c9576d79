use Rattle.std.proofs.Common.{List, ℕ, subst}
use Rattle.ras_logic.specs.declared.ids.RelId.{RelId}
use Rattle.ras_row_maps.specs.RowMaps.{AreRowMaps}
use Rattle.ras_subsumption.specs.Places.{IsFirstPlace}
use Rattle.ras_subsumption.proofs.FirstMaps.{place-first}
use Rattle.ras_subsumption.proofs.subsuming.one_entails.Goals as goal

pub returns-in-Some-clause-some : goal.returns-in-Some-clause-some
returns-in-Some-clause-some c =
    let maps : List (List ℕ) = c.in_ok-maps.maps in
    let are : AreRowMaps c.args.other.now.rows c.args.cube.now.rows maps =
    subst (λ (rows : List RelId). AreRowMaps c.args.other.now.rows rows maps) c.rows-2.ensures
    (subst (λ (rows : List RelId). AreRowMaps rows c.rows-2.result.now maps) c.rows.ensures c.in_ok-maps.ensures) in
    let place : IsFirstPlace c.args.shape.now c.args.cube.now c.args.other.now c.as_slice.result.now c.in-Some.place = rw c.in-Some.is at c.in_ok-find_place.ensures in
    place-first c.args.shape.now c.args.cube.now c.args.other.now maps are c.in-Some.place c.map_at.result c.map_at.ensures
    (subst (λ (ms : List (List ℕ)). IsFirstPlace c.args.shape.now c.args.cube.now c.args.other.now ms c.in-Some.place) c.as_slice.ensures.items place)
