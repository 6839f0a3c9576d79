-- What can be told of states and formulas by looking at finitely many things.
use Rattle.std.proofs.Common.{◌≡◌, ℕ, zero, suc, ◌<◌, ◌≤◌, List, [], ◌∷◌, length, get_or, refl, sym, ◌∙◌, ap, subst, arith, ◌⊎◌, inl, inr}
use Rattle.std.specs.Prelude.{slice_get, Option, Some, None, Any, All}
use Rattle.std.proofs.lemmas.Option.{same_Some, slice_get_within, get_or_from_slice_get, slice_get-get_or}
use Rattle.std.proofs.lemmas.Bool.{cases_lt, cases_eq}
use Rattle.std.proofs.lemmas.List.Elements.{All-from_get_or}
use Rattle.ras_logic.specs.declared.ids.SortId.{SortId}
use Rattle.ras_logic.specs.declared.ids.ConstId.{ConstId}
use Rattle.ras_logic.specs.declared.raw_db.RawDb.{RawDb}
use Rattle.ras_logic.specs.Databases.{size_of}
use Rattle.ras_logic.specs.Truth.{AreElements, IsRow}
use Rattle.ras_logic.specs.Shapes.{ShapeParts}
use Rattle.ras_system.specs.declared.state.State.{State}
use Rattle.ras_system.specs.Systems.{SystemParts}
use Rattle.ras_system.specs.States.{rows_of, IsState, initial_value, IsInitial}
use Rattle.ras_steps.specs.StepFaults.{IsFirstNot}
use Rattle.ras_steps.proofs.FirstPlaces.{all_or_first}

abbrev pub Decided : Type 0 → Type 0
Decided P = P ⊎ (P → ⊥)

pub by_both : {P Q : Type 0} → (P → Q) → (Q → P) → Decided P → Decided Q
by_both there back (inl p) = inl (there p)
by_both there back (inr none) = inr (λ q. none (back q))

pub decided_both : {P Q : Type 0} → Decided P → Decided Q → Decided (P × Q)
decided_both (inl p) (inl q) = inl (p, q)
decided_both (inl p) (inr none) = inr (λ both. none both.1)
decided_both (inr none) q = inr (λ both. none both.0)

-- below an end
pub decided_below : (P : ℕ → Type 0) → ((k : ℕ) → Decided (P k)) → (n : ℕ) → Decided ((k : ℕ) → k < n → P k)
decided_below P each n = go (all_or_first P each n)
  where
    go : ((k : ℕ) → k < n → P k) ⊎ ((k : ℕ) × IsFirstNot P n k) → Decided ((k : ℕ) → k < n → P k)
    go (inl all) = inl all
    go (inr first) = inr (λ all. first.1.not_here (all first.0 first.1.within))

pub decided_some : (P : ℕ → Type 0) → ((k : ℕ) → Decided (P k)) → (n : ℕ) → Decided ((k : ℕ) × (k < n) × P k)
decided_some P each zero = inr (λ some. let lt = some.1 in omega (arith, lt))
decided_some P each (suc n) = go (decided_some P each n) (each n)
  where
    go : Decided ((k : ℕ) × (k < n) × P k) → Decided (P n) → Decided ((k : ℕ) × (k < suc n) × P k)
    go (inl some) here = let lt = some.1 in inl (some.0, omega (arith, lt), some.2)
    go (inr none) (inl here) = inl (n, omega arith, here)
    go (inr none) (inr not_here) = inr (λ some. last some.0 some.1 some.2 (cases_lt some.0 n))
      where
        last : (k : ℕ) → k < suc n → P k → (k < n) ⊎ (n ≤ k) → ⊥
        last k lt p (inl below) = none (k, below, p)
        last k lt p (inr le) = not_here (subst P (let e : k ≡ n = omega arith in e) p)

-- of the elements of a list
pub decided_all : {X : Type 0} (P : X → Type 0) → ((x : X) → Decided (P x)) → (xs : List X) (x : X) → Decided (All P xs)
decided_all P each xs x =
    by_both (All-from_get_or P xs x) (λ all k lt. all k x lt) (decided_below (λ (k : ℕ). P (get_or xs k x)) (λ k. each (get_or xs k x)) (length xs))

pub decided_any : {X : Type 0} (P : X → Type 0) → ((x : X) → Decided (P x)) → (xs : List X) (x : X) → Decided (Any P xs)
decided_any P each xs x =
    by_both (λ some. let lt = some.1 in (some.0, get_or xs some.0 x, lt, same some.0 lt, some.2)) (λ any. let lt = any.2 in (any.0, lt, subst P (sym any.3 ∙ known any.0 any.1 lt) any.4))
    (decided_some (λ (k : ℕ). P (get_or xs k x)) (λ k. each (get_or xs k x)) (length xs))
  where
    same : (k : ℕ) → k < length xs → get_or xs k (get_or xs k x) ≡ get_or xs k x
    same k lt = get_or_from_slice_get xs k (get_or xs k x) (get_or xs k x) (slice_get-get_or xs k x lt)

    known : (k : ℕ) (y : _) → k < length xs → get_or xs k y ≡ get_or xs k x
    known k y lt = get_or_from_slice_get xs k (get_or xs k x) y (slice_get-get_or xs k x lt)

-- what is so of the element at a place, if there is one
abbrev At : {X : Type 0} → (ℕ → X → Type 0) → List X → ℕ → Type 0
At {X} P xs k = (x : X) → slice_get xs k ≡ Some x → P k x

-- of the elements at their places
pub decided_places : {X : Type 0} (P : ℕ → X → Type 0) → ((k : ℕ) (x : X) → Decided (P k x)) → (xs : List X) → Decided ((k : ℕ) (x : X) → slice_get xs k ≡ Some x → P k x)
decided_places {X} P each xs =
    by_both (λ all k x known. all k (slice_get_within xs k x known) x known) (λ all k lt x known. all k x known) (decided_below (At P xs) at (length xs))
  where
    at_place : (k : ℕ) (x : X) → slice_get xs k ≡ Some x → Decided (P k x) → Decided (At P xs k)
    at_place k x known (inl p) = inl (λ y there. subst (P k) (same_Some x y (sym known ∙ there)) p)
    at_place k x known (inr none) = inr (λ all. none (all x known))

    at : (k : ℕ) → Decided (At P xs k)
    at k = go (slice_get xs k) refl
      where
        go : (o : Option X) → slice_get xs k ≡ o → Decided (At P xs k)
        go None none = inl (λ y there. absurd (let both = sym none ∙ there in cc))
        go (Some x) known = at_place k x known (each k x)

-- numbers, as many as there are bounds, each below its own
pub record AreBelow (bounds numbers : List ℕ) : Type 0 where
  pub as_many : length numbers ≡ length bounds
  pub each : (k : ℕ) → k < length bounds → get_or numbers k 0 < get_or bounds k 0

below_cons : (b : ℕ) (bounds : List ℕ) (x : ℕ) (numbers : List ℕ) → x < b → AreBelow bounds numbers → AreBelow (b ∷ bounds) (x ∷ numbers)
below_cons b bounds x numbers lt rest = record { as_many = ap suc rest.as_many; each = each }
  where
    each : (k : ℕ) → k < length (b ∷ bounds) → get_or (x ∷ numbers) k 0 < get_or (b ∷ bounds) k 0
    each zero within = lt
    each (suc k) within = rest.each k (omega (arith, within))

below_rest : (b : ℕ) (bounds : List ℕ) (x : ℕ) (numbers : List ℕ) → AreBelow (b ∷ bounds) (x ∷ numbers) → AreBelow bounds numbers
below_rest b bounds x numbers below = record {
  as_many = let e : length (x ∷ numbers) ≡ length (b ∷ bounds) = below.as_many in omega (arith, e);
  each = λ k lt. below.each (suc k) (omega (arith, lt));
}

-- the rest of numbers that begin with this one
abbrev RestBelow : List ℕ → (List ℕ → Type 0) → ℕ → Type 0
RestBelow bounds P x = (numbers : List ℕ) × AreBelow bounds numbers × P (x ∷ numbers)

pub decided_numbers : (bounds : List ℕ) (P : List ℕ → Type 0) → ((numbers : List ℕ) → Decided (P numbers)) → Decided ((numbers : List ℕ) × AreBelow bounds numbers × P numbers)
decided_numbers [] P each = go (each [])
  where
    only : (numbers : List ℕ) → AreBelow [] numbers → P numbers → P []
    only [] below p = p
    only (x ∷ numbers) below p = absurd (let e : length (x ∷ numbers) ≡ 0 = below.as_many in omega (arith, e))

    go : Decided (P []) → Decided ((numbers : List ℕ) × AreBelow [] numbers × P numbers)
    go (inl p) = inl ([], record { as_many = refl; each = λ k lt. absurd (omega arith) }, p)
    go (inr none) = inr (λ some. none (only some.0 some.1 some.2))
decided_numbers (b ∷ bounds) P each =
    by_both (λ some. (some.0 ∷ some.2.0, below_cons b bounds some.0 some.2.0 some.1 some.2.1, some.2.2)) (λ some. back some.0 some.1 some.2)
    (decided_some (RestBelow bounds P) (λ x. decided_numbers bounds (λ (numbers : List ℕ). P (x ∷ numbers)) (λ numbers. each (x ∷ numbers))) b)
  where
    back : (numbers : List ℕ) → AreBelow (b ∷ bounds) numbers → P numbers → (x : ℕ) × (x < b) × RestBelow bounds P x
    back [] below p = absurd (let e : 0 ≡ length (b ∷ bounds) = below.as_many in omega (arith, e))
    back (x ∷ numbers) below p = (x, below.each 0 (omega arith), (numbers, below_rest b bounds x numbers below, p))

-- of elements and states
pub decided_elements : (d : RawDb) (sorts : List SortId) (numbers : List ℕ) → Decided (AreElements d sorts numbers)
decided_elements d sorts numbers =
    by_both (λ both. record { as_many = both.0; each = both.1 }) (λ els. (els.as_many, els.each))
    (decided_both (cases_eq (length numbers) (length sorts)) (decided_places (λ (k : ℕ) (s : SortId). get_or numbers k 0 ≤ size_of d s) (λ k s. at_most (get_or numbers k 0) (size_of d s)) sorts))
  where
    at_most : (a b : ℕ) → Decided (a ≤ b)
    at_most a b = go (cases_lt b a)
      where
        go : (b < a) ⊎ (a ≤ b) → Decided (a ≤ b)
        go (inl lt) = inr (λ le. omega (arith, lt, le))
        go (inr le) = inl le

-- the rows of the relation of that number
abbrev RowsFit : ShapeParts → RawDb → State → ℕ → Type 0
RowsFit shape d s n = All (IsRow shape d (record { n = n })) (rows_of s (record { n = n }))

pub decided_state : (shape : ShapeParts) (d : RawDb) (s : State) → Decided (IsState shape d s)
decided_state shape d s =
    by_both (λ all. record { vars = all.0; as_many = all.1.0; rows = λ r lt. all.1.1 r.n lt }) (λ is. (is.vars, (is.as_many, λ n lt. is.rows (record { n = n }) lt)))
    (decided_both (decided_elements d shape.vars s.vars) (decided_both (cases_eq (length s.relations) (length shape.relations))
    (decided_below (RowsFit shape d s) (λ n. decided_all (IsRow shape d (record { n = n })) (decided_elements d (get_or shape.relations n [])) (rows_of s (record { n = n })) []) (length shape.relations))))

pub decided_initial : (system : SystemParts) (d : RawDb) (s : State) → IsState system.shape d s → Decided (IsInitial system d s)
decided_initial system d s state =
    by_both (λ both. record { state = state; vars = both.0; cells = both.1 }) (λ is. (is.vars, is.cells))
    (decided_both (decided_places (λ (k : ℕ) (c : Option ConstId). get_or s.vars k 0 ≡ initial_value d c) (λ k c. cases_eq (get_or s.vars k 0) (initial_value d c)) system.initial)
    (decided_all (All (All (λ x. x ≡ 0))) (λ rows. decided_all (All (λ x. x ≡ 0)) (λ cells. decided_all (λ x. x ≡ 0) (λ x. cases_eq x 0) cells 0) rows []) s.relations []))
