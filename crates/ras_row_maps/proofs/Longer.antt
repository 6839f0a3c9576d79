-- Row maps that are one row longer.
use Rattle.std.proofs.Common.{◌≡◌, ℕ, ◌+◌, ◌<◌, List, [], ◌∷◌, ◌++◌, length, get_or, refl, sym, ◌∙◌, ap, subst, arith, ⊎_elim, length-append}
use Rattle.std.specs.Prelude.{slice_get, Some, All, AllPairs, Contains}
use Rattle.std.specs.List.{AllZip}
use Rattle.std.proofs.lemmas.List.{get_or_append_left, get_or_push, get_or_default}
use Rattle.std.proofs.lemmas.List.Elements.{All-nil, All-cons, All-push, All-append, All-weaker, Contains-push, Contains-append_left, Contains-append_right}
use Rattle.std.proofs.lemmas.List.Quantifiers.{all_pairs_push}
use Rattle.std.proofs.lemmas.Option.{slice_get_within}
use Rattle.ras_steps.specs.Choosing.{ComesBefore}
use Rattle.ras_row_maps.proofs.ListPairs.{pairs-append, before-longer, before-last, place_cases}
use Rattle.ras_logic.specs.declared.ids.RelId.{RelId}
use Rattle.ras_logic.specs.Refutations.{AreRowsOf}
use Rattle.ras_row_maps.specs.RowMaps.{AreRowMaps, IsFree, IsLongerBelow, AreLongerBelow}

abbrev Of : List RelId → RelId → ℕ → Type 0
Of to r k = slice_get to k ≡ Some r

zip-push : (to from : List RelId) (map : List ℕ) (r : RelId) (k : ℕ) → AllZip (Of to) from map → Of to r k → AllZip (Of to) (from ++ r ∷ []) (map ++ k ∷ [])
zip-push to [] [] r k h here = (here, tt)
zip-push to [] (l ∷ map) r k h here = absurd h
zip-push to (q ∷ from) [] r k h here = absurd h
zip-push to (q ∷ from) (l ∷ map) r k h here = (h.0, zip-push to from map r k h.1 here)

record IsPushed (to from : List RelId) (r : RelId) (longer : List ℕ) : Type 0 where
  map : List ℕ
  row : ℕ
  longer_is : longer ≡ map ++ row ∷ []
  rows : AllZip (Of to) from map
  last : Of to r row

zip-pushed : (to from : List RelId) (r : RelId) (longer : List ℕ) → AllZip (Of to) (from ++ r ∷ []) longer → IsPushed to from r longer
zip-pushed to [] r [] h = absurd h
zip-pushed to [] r (k ∷ []) h = record { map = []; row = k; longer_is = refl; rows = tt; last = h.0 }
zip-pushed to [] r (k ∷ l ∷ longer) h = absurd h.1
zip-pushed to (q ∷ from) r [] h = absurd h
zip-pushed to (q ∷ from) r (k ∷ longer) h =
    let p = zip-pushed to from r longer h.1 in
    record { map = k ∷ p.map; row = p.row; longer_is = ap (λ (ks : List ℕ). k ∷ ks) p.longer_is; rows = (h.0, p.rows); last = p.last }

abbrev pub Differ : List ℕ → Type 0
Differ map = (i j : ℕ) → i < length map → j < length map → get_or map i 0 ≡ get_or map j 0 → i ≡ j

at-left : (map : List ℕ) (k i : ℕ) → i < length map → get_or (map ++ k ∷ []) i 0 ≡ get_or map i 0
at-left map k i lt = get_or_append_left map (k ∷ []) 0 i lt

at-last : (map : List ℕ) (k i : ℕ) → i ≡ length map → get_or (map ++ k ∷ []) i 0 ≡ k
at-last map k i e = get_or_push map k 0 i (sym e)

is-member : (map : List ℕ) (i k : ℕ) → i < length map → get_or map i 0 ≡ k → Contains map k
is-member map i k lt e = (i, lt, get_or_default map i k 0 lt ∙ e)

differ-push : (map : List ℕ) (k : ℕ) → Differ map → ¬ Contains map k → Differ (map ++ k ∷ [])
differ-push map k h fresh i j lt_i lt_j e =
    ⊎_elim
    (λ (li : i < length map). ⊎_elim
    (λ (lj : j < length map). h i j li lj (sym (at-left map k i li) ∙ e ∙ at-left map k j lj))
    (λ (ej : j ≡ length map). absurd (fresh (is-member map i k li (sym (at-left map k i li) ∙ e ∙ at-last map k j ej))))
    (place_cases j (length map) (omega (arith, lt_j, length-append map (k ∷ [])))))
    (λ (ei : i ≡ length map). ⊎_elim
    (λ (lj : j < length map). absurd (fresh (is-member map j k lj (sym (at-left map k j lj) ∙ sym e ∙ at-last map k i ei))))
    (λ (ej : j ≡ length map). ei ∙ sym ej)
    (place_cases j (length map) (omega (arith, lt_j, length-append map (k ∷ [])))))
    (place_cases i (length map) (omega (arith, lt_i, length-append map (k ∷ []))))

differ-pushed : (map : List ℕ) (k : ℕ) → Differ (map ++ k ∷ []) → Differ map
differ-pushed map k h i j lt_i lt_j e =
    h i j (omega (arith, lt_i, length-append map (k ∷ []))) (omega (arith, lt_j, length-append map (k ∷ []))) (at-left map k i lt_i ∙ e ∙ sym (at-left map k j lt_j))

fresh-pushed : (map : List ℕ) (k : ℕ) → Differ (map ++ k ∷ []) → ¬ Contains map k
fresh-pushed map k h (i, lt, e) =
    let same : i ≡ length map = h i (length map) (omega (arith, lt, length-append map (k ∷ []))) (omega (arith, length-append map (k ∷ [])))
    (at-left map k i lt ∙ get_or_default map i 0 k lt ∙ e ∙ sym (at-last map k (length map) refl)) in
    omega (arith, lt, same)

-- a row map and a free row give a longer one
pub rows-push : (to from : List RelId) (r : RelId) (map : List ℕ) (k : ℕ) → AreRowsOf to from map → IsFree to r map k → AreRowsOf to (from ++ r ∷ []) (map ++ k ∷ [])
rows-push to from r map k of free = record {
  relations = zip-push to from map r k of.relations free.of_relation;
  different = differ-push map k of.different free.fresh;
}

-- a longer row map is one and a free row
pub record IsSplit (to from : List RelId) (r : RelId) (longer : List ℕ) : Type 0 where
  pub map : List ℕ
  pub row : ℕ
  pub longer_is : longer ≡ map ++ row ∷ []
  pub rows_of : AreRowsOf to from map
  pub free : IsFree to r map row

pub rows-split : (to from : List RelId) (r : RelId) (longer : List ℕ) → AreRowsOf to (from ++ r ∷ []) longer → IsSplit to from r longer
rows-split to from r longer of =
    let p = zip-pushed to from r longer of.relations in
    let differ : Differ (p.map ++ p.row ∷ []) = subst Differ p.longer_is of.different in
    record {
      map = p.map;
      row = p.row;
      longer_is = p.longer_is;
      rows_of = record { relations = p.rows; different = differ-pushed p.map p.row differ };
      free = record { of_relation = p.last; fresh = fresh-pushed p.map p.row differ };
    }

-- one row more is looked at, which is free
pub below-free : (to : List RelId) (r : RelId) (map : List ℕ) (row : ℕ) (longer : List (List ℕ)) (new : List ℕ) → AreLongerBelow to r map row longer → IsFree to r map row
    → new ≡ map ++ row ∷ [] → AreLongerBelow to r map (row + 1) (longer ++ new ∷ [])
below-free to r map row longer new are free is = record {
  each = All-push (IsLongerBelow to r map (row + 1)) longer new
      (All-weaker (IsLongerBelow to r map row) (IsLongerBelow to r map (row + 1)) (λ x h. further x h) longer are.each)
      (record { row = row; within = omega arith; free = free; longer_is = is });
  every = λ k lt f. ⊎_elim (λ (below : k < row). Contains-append_left longer (new ∷ []) (map ++ k ∷ []) (are.every k below f))
      (λ (e : k ≡ row). subst (λ (q : List ℕ). Contains (longer ++ new ∷ []) q) (is ∙ ap (λ (j : ℕ). map ++ j ∷ []) (sym e)) (Contains-push longer new))
      (place_cases k row lt);
  ordered = all_pairs_push ComesBefore longer new are.ordered (λ k d lt. before k d lt);
}
  where
    further : (x : List ℕ) → IsLongerBelow to r map row x → IsLongerBelow to r map (row + 1) x
    further x h = record { row = h.row; within = omega (arith, h.within); free = h.free; longer_is = h.longer_is }

    before : (k : ℕ) (d : List ℕ) → k < length longer → ComesBefore (get_or longer k d) new
    before k d lt =
        let h = are.each k d lt in
        subst (λ (x : List ℕ). ComesBefore x new) (sym h.longer_is) (subst (λ (y : List ℕ). ComesBefore (map ++ h.row ∷ []) y) (sym is) (before-last map h.row row h.within))

-- one row more is looked at, which is not free
pub below-taken : (to : List RelId) (r : RelId) (map : List ℕ) (row : ℕ) (longer : List (List ℕ)) → AreLongerBelow to r map row longer → ¬ IsFree to r map row → AreLongerBelow to r map (row + 1) longer
below-taken to r map row longer are taken = record {
  each = All-weaker (IsLongerBelow to r map row) (IsLongerBelow to r map (row + 1)) (λ x h. record { row = h.row; within = omega (arith, h.within); free = h.free; longer_is = h.longer_is }) longer are.each;
  every = λ k lt f. ⊎_elim (λ (below : k < row). are.every k below f) (λ (e : k ≡ row). absurd (taken (subst (IsFree to r map) e f))) (place_cases k row lt);
  ordered = are.ordered;
}

-- the maps that are one row longer than the first of these maps
pub record AreLongerOf (to : List RelId) (r : RelId) (maps : List (List ℕ)) (count : ℕ) (all : List (List ℕ)) : Type 0 where
  pub each : All (λ (longer : List ℕ). (j : ℕ) × (j < count) × IsLongerBelow to r (get_or maps j []) (length to) longer) all
  pub every : (j row : ℕ) → j < count → IsFree to r (get_or maps j []) row → Contains all (get_or maps j [] ++ row ∷ [])
  pub ordered : AllPairs ComesBefore all

pub longer-none : (to : List RelId) (r : RelId) (maps : List (List ℕ)) → AreLongerOf to r maps 0 []
longer-none to r maps = record {
  each = λ k d lt. absurd (omega (arith, lt));
  every = λ j row lt free. absurd (omega (arith, lt));
  ordered = λ i j d lt within. absurd (omega (arith, within));
}

-- one map more is looked at
pub longer-more : (to : List RelId) (r : RelId) (maps : List (List ℕ)) (n count : ℕ) (all more : List (List ℕ)) → count < length maps → All (λ (map : List ℕ). length map ≡ n) maps
    → AllPairs ComesBefore maps → AreLongerOf to r maps count all → AreLongerBelow to r (get_or maps count []) (length to) more → AreLongerOf to r maps (count + 1) (all ++ more)
longer-more to r maps n count all more within long ordered are new = record {
  each = All-append (λ (longer : List ℕ). (j : ℕ) × (j < count + 1) × IsLongerBelow to r (get_or maps j []) (length to) longer) all more
      (All-weaker (λ (longer : List ℕ). (j : ℕ) × (j < count) × IsLongerBelow to r (get_or maps j []) (length to) longer)
      (λ (longer : List ℕ). (j : ℕ) × (j < count + 1) × IsLongerBelow to r (get_or maps j []) (length to) longer) (λ x h. (h.0, omega (arith, h.1), h.2)) all are.each)
      (All-weaker (IsLongerBelow to r (get_or maps count []) (length to))
      (λ (longer : List ℕ). (j : ℕ) × (j < count + 1) × IsLongerBelow to r (get_or maps j []) (length to) longer) (λ x h. (count, omega arith, h)) more new.each);
  every = λ j row lt free. ⊎_elim (λ (below : j < count). Contains-append_left all more (get_or maps j [] ++ row ∷ []) (are.every j row below free))
      (λ (e : j ≡ count). Contains-append_right all more (get_or maps j [] ++ row ∷ []) (here j row e free))
      (place_cases j count lt);
  ordered = pairs-append ComesBefore all more are.ordered new.ordered (λ k d lt l e lt_l. across (get_or all k d) (get_or more l e) (are.each k d lt) (new.each l e lt_l));
}
  where
    here : (j row : ℕ) → j ≡ count → IsFree to r (get_or maps j []) row → Contains more (get_or maps j [] ++ row ∷ [])
    here j row e free =
        let at : get_or maps j [] ≡ get_or maps count [] = ap (λ (k : ℕ). get_or maps k []) e in
        let f : IsFree to r (get_or maps count []) row = subst (λ (map : List ℕ). IsFree to r map row) at free in
        subst (λ (map : List ℕ). Contains more (map ++ row ∷ [])) (sym at) (new.every row (slice_get_within to row r f.of_relation) f)

    across : (x y : List ℕ) → (j : ℕ) × (j < count) × IsLongerBelow to r (get_or maps j []) (length to) x → IsLongerBelow to r (get_or maps count []) (length to) y → ComesBefore x y
    across x y h k =
        let b : ComesBefore (get_or maps h.0 [] ++ h.2.row ∷ []) (get_or maps count [] ++ k.row ∷ []) =
        before-longer (get_or maps h.0 []) (get_or maps count []) (h.2.row ∷ []) (k.row ∷ []) (long h.0 [] (omega (arith, h.1, within)) ∙ sym (long count [] within))
        (ordered h.0 count [] h.1 within) in
        subst (λ (z : List ℕ). ComesBefore z y) (sym h.2.longer_is) (subst (λ (z : List ℕ). ComesBefore (get_or maps h.0 [] ++ h.2.row ∷ []) z) (sym k.longer_is) b)

-- all maps have been looked at
pub longer-all : (from to : List RelId) (r : RelId) (maps all : List (List ℕ)) → AreRowMaps from to maps → AreLongerOf to r maps (length maps) all → AreRowMaps (from ++ r ∷ []) to all
longer-all from to r maps all are longer = record {
  each = All-weaker (λ (x : List ℕ). (j : ℕ) × (j < length maps) × IsLongerBelow to r (get_or maps j []) (length to) x) (AreRowsOf to (from ++ r ∷ []))
      (λ x h. subst (AreRowsOf to (from ++ r ∷ [])) (sym h.2.longer_is) (rows-push to from r (get_or maps h.0 []) h.2.row (are.each h.0 [] h.1) h.2.free)) all longer.each;
  every = λ x of. every x (rows-split to from r x of);
  ordered = longer.ordered;
}
  where
    every : (x : List ℕ) → IsSplit to from r x → Contains all x
    every x s =
        let known = are.every s.map s.rows_of in
        let at : get_or maps known.0 [] ≡ s.map = get_or_default maps known.0 [] s.map known.1 ∙ known.2 in
        subst (Contains all) (ap (λ (map : List ℕ). map ++ s.row ∷ []) at ∙ sym s.longer_is)
        (longer.every known.0 s.row known.1 (subst (λ (map : List ℕ). IsFree to r map s.row) (sym at) s.free))

-- the row maps of no rows
pub maps-none : (to : List RelId) → AreRowMaps [] to ([] ∷ [])
maps-none to = record {
  each = All-cons (AreRowsOf to []) [] [] (record { relations = tt; different = λ i j lt_i lt_j e. absurd (omega (arith, lt_i)) }) (All-nil (AreRowsOf to []));
  every = λ map of. none map of;
  ordered = λ i j d lt within. absurd (omega (arith, lt, within));
}
  where
    none : (map : List ℕ) → AreRowsOf to [] map → Contains ([] ∷ []) map
    none [] of = (0, omega arith, refl)
    none (k ∷ map) of = absurd of.relations
