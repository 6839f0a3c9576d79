-- Where a relation has too few rows there is no row map.
use Rattle.std.proofs.Common.{◌≡◌, ℕ, zero, suc, ◌+◌, ◌≤◌, Bool, true, false, List, [], ◌∷◌, length, nat_eq, cond, refl, sym, ◌∙◌, ap, subst, arith, ⊎_elim}
use Rattle.std.specs.Prelude.{slice_get, Some, Contains, count_by}
use Rattle.std.specs.List.{AllZip, AllByRecursion, IsDistinct}
use Rattle.std.proofs.lemmas.Bool.{eqb-true, eq-eqb}
use Rattle.std.proofs.lemmas.Cmp.{nat_eq_equiv}
use Rattle.std.proofs.lemmas.List.Recursion.{is_count_by}
use Rattle.std.proofs.lemmas.Map.Made.{length-le_from_is_member}
use Rattle.std.proofs.lemmas.Map.Views.{list_any-from_Contains, Contains-from_any}
use Rattle.ras_logic.specs.declared.ids.RelId.{RelId}
use Rattle.ras_logic.specs.Refutations.{AreRowsOf}
use Rattle.ras_logic.proofs.Elements.{contains_cases, contains-here, contains-later}
use Rattle.ras_row_maps.specs.RowMaps.{AreRowMaps, is_of}
use Rattle.ras_row_maps.proofs.Longer.{Differ}
use Rattle.ras_logic.proofs.ByPlace.{not_true}
use Rattle.std.proofs.lemmas.List.{get_or_default}

-- how many rows are of a relation
tally : RelId → List RelId → ℕ
tally r [] = 0
tally r (q ∷ rows) = cond (is_of r q) (1 + tally r rows) (tally r rows)

tally-count : (r : RelId) (rows : List RelId) → tally r rows ≡ count_by (is_of r) rows
unfolding tally
tally-count r rows = is_count_by (tally r) (is_of r) refl (λ q qs. refl) rows

-- the numbers of the rows of a relation, counted from a number
numbers : RelId → ℕ → List RelId → List ℕ
numbers r n [] = []
numbers r n (q ∷ rows) = cond (is_of r q) (n ∷ numbers r (suc n) rows) (numbers r (suc n) rows)

-- what a map gives for the rows of a relation
picked : RelId → List RelId → List ℕ → List ℕ
picked r [] map = []
picked r (q ∷ rows) [] = []
picked r (q ∷ rows) (k ∷ map) = cond (is_of r q) (k ∷ picked r rows map) (picked r rows map)

numbers-long : (r : RelId) (n : ℕ) (rows : List RelId) → length (numbers r n rows) ≡ tally r rows
unfolding tally numbers
numbers-long r n [] = refl
numbers-long r n (q ∷ rows) =
    let rest = numbers-long r (suc n) rows in
    elim (is_of r q) as (λ b. length (cond b (n ∷ numbers r (suc n) rows) (numbers r (suc n) rows)) ≡ cond b (1 + tally r rows) (tally r rows)) [ true ↦ omega (arith, rest) | false ↦ rest ]

same_relation : (r q : RelId) → is_of r q ≡ true → q ≡ r
same_relation r q h = ap (λ (n : ℕ). record { n = n }) (eqb-true q.n r.n h)

module _ (to : List RelId) where
  abbrev AreIn : List RelId → List ℕ → Type 0
  AreIn rows map = AllZip (λ (r : RelId) (k : ℕ). slice_get to k ≡ Some r) rows map

  picked-long : (r : RelId) (rows : List RelId) (map : List ℕ) → AreIn rows map → length (picked r rows map) ≡ tally r rows
  unfolding tally picked
  picked-long r [] map h = refl
  picked-long r (q ∷ rows) [] h = absurd h
  picked-long r (q ∷ rows) (k ∷ map) h =
      let rest = picked-long r rows map h.1 in
      elim (is_of r q) as (λ b. length (cond b (k ∷ picked r rows map) (picked r rows map)) ≡ cond b (1 + tally r rows) (tally r rows)) [ true ↦ omega (arith, rest) | false ↦ rest ]

  -- what is picked is a row of the relation, and of the map
  abbrev IsPicked : RelId → List ℕ → ℕ → Type 0
  IsPicked r map k = (slice_get to k ≡ Some r) × Contains map k

  picked-known : (r : RelId) (rows : List RelId) (map : List ℕ) → AreIn rows map → (k : ℕ) → Contains (picked r rows map) k → IsPicked r map k
  unfolding picked
  picked-known r [] map h k inside = absurd (omega (arith, inside.1))
  picked-known r (q ∷ rows) [] h k inside = absurd h
  picked-known r (q ∷ rows) (l ∷ map) h k inside = go (λ j c. picked-known r rows map h.1 j c) (is_of r q) refl inside
    where
      later : IsPicked r map k → IsPicked r (l ∷ map) k
      later p = (p.0, contains-later l k map p.1)

      go : ((j : ℕ) → Contains (picked r rows map) j → IsPicked r map j) → (b : Bool) → is_of r q ≡ b → Contains (cond b (l ∷ picked r rows map) (picked r rows map)) k → IsPicked r (l ∷ map) k
      go known true e c =
          ⊎_elim (λ (same : l ≡ k). subst (IsPicked r (l ∷ map)) same (h.0 ∙ ap (λ (p : RelId). Some p) (same_relation r q e), contains-here l map))
          (λ (rest : Contains (picked r rows map) k). later (known k rest)) (contains_cases l k (picked r rows map) c)
      go known false e c = later (known k c)

all-by : {A : Type 0} (P : A → Type 0) (xs : List A) → ((x : A) → Contains xs x → P x) → AllByRecursion P xs
all-by P [] h = tt
all-by P (x ∷ xs) h = (h x (contains-here x xs), all-by P xs (λ y inside. h y (contains-later x y xs inside)))

module _ (to : List RelId) where
  picked-distinct : (r : RelId) (rows : List RelId) (map : List ℕ) → AllZip (λ (q : RelId) (k : ℕ). slice_get to k ≡ Some q) rows map → Differ map → IsDistinct nat_eq (picked r rows map)
  unfolding picked IsDistinct
  picked-distinct r [] map h differ = tt
  picked-distinct r (q ∷ rows) [] h differ = absurd h
  picked-distinct r (q ∷ rows) (l ∷ map) h differ =
      go (picked-distinct r rows map h.1 (λ i j lt_i lt_j e. let s : suc i ≡ suc j = differ (suc i) (suc j) (omega (arith, lt_i)) (omega (arith, lt_j)) e in omega (arith, s))) (is_of r q)
    where
      other : (k : ℕ) → Contains map k → l ≡ k → ⊥
      other k (i, lt, e) same =
          let s : zero ≡ suc i = differ zero (suc i) (omega arith) (omega (arith, lt)) (same ∙ sym e ∙ get_or_default map i k 0 lt) in omega (arith, s)

      go : IsDistinct nat_eq (picked r rows map) → (b : Bool) → IsDistinct nat_eq (cond b (l ∷ picked r rows map) (picked r rows map))
      go rest true = (all-by (λ (k : ℕ). nat_eq l k ≡ false) (picked r rows map) (λ k inside. not_true (nat_eq l k) (λ e. other k (picked-known to r rows map h.1 k inside).1 (eqb-true l k e))), rest)
      go rest false = rest

numbers-has : (r : RelId) (n : ℕ) (rows : List RelId) (k : ℕ) → slice_get rows k ≡ Some r → Contains (numbers r n rows) (n + k)
unfolding numbers
numbers-has r n [] k known = absurd (cc)
numbers-has r n (q ∷ rows) zero known =
    let same : q ≡ r = cc known in
    let yes : is_of r q ≡ true = eq-eqb q.n r.n (ap (λ (p : RelId). p.n) same) in
    rw yes (subst (Contains (n ∷ numbers r (suc n) rows)) (let e : n ≡ n + zero = omega arith in e) (contains-here n (numbers r (suc n) rows)))
numbers-has r n (q ∷ rows) (suc k) known =
    let rest : Contains (numbers r (suc n) rows) (n + suc k) = subst (Contains (numbers r (suc n) rows)) (let e : suc n + k ≡ n + suc k = omega arith in e) (numbers-has r (suc n) rows k known) in
    elim (is_of r q) as (λ b. Contains (cond b (n ∷ numbers r (suc n) rows) (numbers r (suc n) rows)) (n + suc k)) [ true ↦ contains-later n (n + suc k) (numbers r (suc n) rows) rest | false ↦ rest ]

-- a row map needs as many rows of each relation
pub rows-room : (from to : List RelId) (r : RelId) (map : List ℕ) → AreRowsOf to from map → count_by (is_of r) from ≤ count_by (is_of r) to
rows-room from to r map of =
    let fewer : length (picked r from map) ≤ length (numbers r 0 to) =
    length-le_from_is_member nat_eq_equiv (picked r from map) (numbers r 0 to) (picked-distinct to r from map of.relations of.different)
    (λ k inside.
    let p = picked-known to r from map of.relations k (Contains-from_any eqb-true k (picked r from map) inside) in
    list_any-from_Contains nat_eq_equiv k (numbers r 0 to) (subst (Contains (numbers r 0 to)) (let e : 0 + k ≡ k = omega arith in e) (numbers-has r 0 to k p.0))) in
    omega (arith, fewer, picked-long to r from map of.relations, numbers-long r 0 to, tally-count r from, tally-count r to)

-- where there is no row map, the list of all is empty
pub maps-empty : (from to : List RelId) → ((map : List ℕ) → ¬ AreRowsOf to from map) → AreRowMaps from to []
maps-empty from to none = record {
  each = λ k d lt. absurd (omega (arith, lt));
  every = λ map of. absurd (none map of);
  ordered = λ i j d lt within. absurd (omega (arith, within));
}
