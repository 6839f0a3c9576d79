-- The first of all row maps under which a cube holds.
use Rattle.std.proofs.Common.{◌≡◌, ℕ, ◌<◌, List, [], get_or, take, sym, ◌∙◌, subst, ⊎_elim}
use Rattle.std.specs.Prelude.{slice_get, Some}
use Rattle.std.proofs.lemmas.List.Elements.{All-contains}
use Rattle.std.proofs.lemmas.Option.{get_or_from_slice_get, same_Some}
use Rattle.ras_logic.specs.declared.problem.Problem.{Problem}
use Rattle.ras_logic.specs.Shapes.{ShapeParts}
use Rattle.ras_logic.proofs.Elements.{from_known, at-contains}
use Rattle.ras_logic.proofs.ByPlace.{at_take}
use Rattle.ras_steps.specs.Choosing.{ComesBefore}
use Rattle.ras_row_maps.specs.RowMaps.{AreRowMaps}
use Rattle.ras_row_maps.proofs.ListPairs.{place_order, before-one_way}
use Rattle.ras_subsumption.specs.Subsumption.{EntailsBy, IsFirstMap, NoneEntails}
use Rattle.ras_subsumption.specs.Places.{HasNoPlace, IsFirstPlace}

module _ (shape : ShapeParts) (cube other : Problem) (maps : List (List ℕ)) (are : AreRowMaps other.rows cube.rows maps) where
  pub place-first : (place : ℕ) (map : List ℕ) → slice_get maps place ≡ Some map → IsFirstPlace shape cube other maps place → IsFirstMap shape cube other map
  place-first place map at found = record { entails = subst (EntailsBy shape cube other) (get_or_from_slice_get maps place map [] at) found.entails; first = first }
    where
      first : (earlier : List ℕ) → EntailsBy shape cube other earlier → ComesBefore earlier map → ⊥
      first earlier by before =
          let known = at-contains maps earlier (are.every earlier by.rows_of) in
          ⊎_elim
          (λ (e : known.0 ≡ place).
          let same : map ≡ earlier = same_Some map earlier (sym at ∙ subst (λ (k : ℕ). slice_get maps k ≡ Some earlier) e known.2) in
          let again : ComesBefore earlier earlier = subst (ComesBefore earlier) same before in
          before-one_way earlier earlier again again)
          (⊎_elim
          (λ (lt : known.0 < place). from_known (λ (m : List ℕ). ¬ EntailsBy shape cube other m) (take place maps) found.before known.0 earlier (at_take place maps known.0 earlier lt known.2) by)
          (λ (gt : place < known.0).
          let after : ComesBefore (get_or maps place []) (get_or maps known.0 []) = are.ordered place known.0 [] gt known.1 in
          before-one_way map earlier
          (subst (λ (m : List ℕ). ComesBefore m earlier) (get_or_from_slice_get maps place map [] at) (subst (ComesBefore (get_or maps place [])) (get_or_from_slice_get maps known.0 earlier [] known.2) after)) before))
          (place_order known.0 place)

  pub none-entails : HasNoPlace shape cube other maps → NoneEntails shape cube other
  none-entails none map by = All-contains (λ (m : List ℕ). ¬ EntailsBy shape cube other m) maps map none (are.every map by.rows_of) by
