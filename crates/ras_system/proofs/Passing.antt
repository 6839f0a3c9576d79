-- Checks none of which fails.
use Rattle.std.proofs.Common.{◌≡◌, ℕ, zero, suc, ◌+◌, ◌<◌, ◌≤◌, Bool, true, false, List, [], ◌∷◌, ◌++◌, length, get_or, take, refl, ◌∙◌, subst, arith, add-zero}
use Rattle.std.specs.Prelude.{Some, None, slice_get, flat_map, cond, All, AllPairs}
use Rattle.std.specs.List.{enumerate_from, list_all, list_any, AllByRecursion}
use Rattle.std.proofs.lemmas.Option.{slice_get-get_or, slice_get_within, get_or_from_slice_get}
use Rattle.std.proofs.lemmas.List.{get_or-take, length-take-le, get_or_default}
use Rattle.std.proofs.lemmas.List.Folds.{list_any_none, list_any_at}
use Rattle.std.proofs.lemmas.List.Elements.{All-nil, All-cons, All-head, All-tail}
use Rattle.std.proofs.lemmas.Bool.{and_parts, and_from}
use Rattle.ras_system.specs.SystemFaults.{Check, first_of, for_each}
use Rattle.ras_system.proofs.FirstFaults.{first_of-append_none, first_of-passed}

passes_first : (c : Check) (checks : List Check) → first_of (c ∷ checks) ≡ None → (c.fails ≡ false) × (first_of checks ≡ None)
passes_first c checks h = go c.fails refl h
  where
    go : (b : Bool) → c.fails ≡ b → cond b (Some c.fault) (first_of checks) ≡ None → (c.fails ≡ false) × (first_of checks ≡ None)
    go true e k = absurd (cc)
    go false e k = (e, k)

-- where none of the checks fails, and the other way round
pub none_fails : (checks : List Check) → first_of checks ≡ None → AllByRecursion (λ (c : Check). c.fails ≡ false) checks
none_fails [] h = tt
none_fails (c ∷ checks) h = let p = passes_first c checks h in (p.0, none_fails checks p.1)

pub none_first : (checks : List Check) → AllByRecursion (λ (c : Check). c.fails ≡ false) checks → first_of checks ≡ None
none_first [] h = refl
none_first (c ∷ checks) h = first_of-passed c checks h.0 ∙ none_first checks h.1

pub passes_both : (xs ys : List Check) → first_of (xs ++ ys) ≡ None → (first_of xs ≡ None) × (first_of ys ≡ None)
passes_both [] ys h = (refl, h)
passes_both (c ∷ xs) ys h =
    let p = passes_first c (xs ++ ys) h in
    let q = passes_both xs ys p.1 in (first_of-passed c xs p.0 ∙ q.0, q.1)

pub both_pass : (xs ys : List Check) → first_of xs ≡ None → first_of ys ≡ None → first_of (xs ++ ys) ≡ None
both_pass xs ys h k = first_of-append_none xs ys h ∙ k

module _ {A : Type 0} (checks : ℕ → A → List Check) where
  each_passes_from : (xs : List A) (n k : ℕ) (x : A) → first_of (flat_map (λ (p : ℕ × A). checks p.0 p.1) (enumerate_from n xs)) ≡ None → slice_get xs k ≡ Some x
      → first_of (checks (n + k) x) ≡ None
  each_passes_from [] n k x h known = absurd (cc)
  each_passes_from (y ∷ xs) n zero x h known =
      let same : y ≡ x = cc in
      let p = passes_both (checks n y) (flat_map (λ (q : ℕ × A). checks q.0 q.1) (enumerate_from (n + 1) xs)) h in
      rw (add-zero, ← same) p.0
  each_passes_from (y ∷ xs) n (suc k) x h known =
      let p = passes_both (checks n y) (flat_map (λ (q : ℕ × A). checks q.0 q.1) (enumerate_from (n + 1) xs)) h in
      let rest = each_passes_from xs (n + 1) k x p.1 known in
      let same : n + 1 + k ≡ n + suc k = omega arith in
      subst (λ (m : ℕ). first_of (checks m x) ≡ None) same rest

  -- where all checks of a list pass, those of each element do
  pub each_passes : (xs : List A) → first_of (for_each checks xs) ≡ None → (k : ℕ) (x : A) → slice_get xs k ≡ Some x → first_of (checks k x) ≡ None
  each_passes xs h k x known = subst (λ (m : ℕ). first_of (checks m x) ≡ None) (let same : 0 + k ≡ k = omega arith in same) (each_passes_from xs 0 k x h known)

  all_pass_from : (xs : List A) (n : ℕ) → ((k : ℕ) (x : A) → slice_get xs k ≡ Some x → first_of (checks (n + k) x) ≡ None)
      → first_of (flat_map (λ (p : ℕ × A). checks p.0 p.1) (enumerate_from n xs)) ≡ None
  all_pass_from [] n each = refl
  all_pass_from (x ∷ xs) n each =
      both_pass (checks n x) (flat_map (λ (q : ℕ × A). checks q.0 q.1) (enumerate_from (n + 1) xs))
      (subst (λ (m : ℕ). first_of (checks m x) ≡ None) (let same : n + 0 ≡ n = omega arith in same) (each 0 x refl))
      (all_pass_from xs (n + 1) (λ k y known. subst (λ (m : ℕ). first_of (checks m y) ≡ None) (let same : n + suc k ≡ n + 1 + k = omega arith in same) (each (suc k) y known)))

  pub all_pass : (xs : List A) → ((k : ℕ) (x : A) → slice_get xs k ≡ Some x → first_of (checks k x) ≡ None) → first_of (for_each checks xs) ≡ None
  all_pass xs each = all_pass_from xs 0 (λ k x known. subst (λ (m : ℕ). first_of (checks m x) ≡ None) (let same : k ≡ 0 + k = omega arith in same) (each k x known))

-- what holds of each element that is read
pub all_from_each : {A : Type 0} (P : A → Type 0) (xs : List A) → ((k : ℕ) (x : A) → slice_get xs k ≡ Some x → P x) → All P xs
all_from_each P xs each = λ k d lt. each k (get_or xs k d) (slice_get-get_or xs k d lt)

-- a test of each element, and what it means
pub all_from_test : {A : Type 0} (p : A → Bool) (P : A → Type 0) → ((x : A) → p x ≡ true → P x) → (xs : List A) → list_all p xs ≡ true → All P xs
all_from_test p P means [] h = All-nil P
all_from_test p P means (x ∷ xs) h = let b = and_parts (p x) (list_all p xs) h in All-cons P x xs (means x b.0) (all_from_test p P means xs b.1)

pub test_from_all : {A : Type 0} (p : A → Bool) (P : A → Type 0) → ((x : A) → P x → p x ≡ true) → (xs : List A) → All P xs → list_all p xs ≡ true
test_from_all p P means [] all = refl
test_from_all p P means (x ∷ xs) all = and_from (p x) (list_all p xs) (means x (All-head P x xs all)) (test_from_all p P means xs (All-tail P x xs all))

pub true_false : {b : Bool} → b ≡ true → b ≡ false → ⊥
true_false h k = cc

false_below : {p q : Bool} → (p ≡ true → q ≡ true) → q ≡ false → p ≡ false
false_below {p} {q} up none = go p refl
  where
    go : (b : Bool) → p ≡ b → p ≡ false
    go true e = absurd (let both : q ≡ true = up e in true_false both none)
    go false e = e

-- no element is as an earlier one
module _ {A : Type 0} (same : A → A → Bool) (R : A → A → Type 0) where
  pub pairs_from_fresh : ((x y : A) → same x y ≡ false → R x y) → (xs : List A)
      → ((k : ℕ) (y : A) → slice_get xs k ≡ Some y → list_any (λ (x : A). same x y) (take k xs) ≡ false) → AllPairs R xs
  pairs_from_fresh means xs fresh i j d before within =
      let x : A = get_or xs i d in
      let y : A = get_or xs j d in
      let none = fresh j y (slice_get-get_or xs j d within) in
      let shorter : i < length (take j xs) = rw (length-take-le j xs (omega arith)) before in
      means x y (false_below (λ (h : same x y ≡ true). list_any_at (λ (e : A). same e y) (take j xs) i d shorter (rw (get_or-take j xs i d before) h)) none)

  pub fresh_from_pairs : ((x y : A) → R x y → same x y ≡ false) → (xs : List A) → AllPairs R xs
      → (k : ℕ) (y : A) → slice_get xs k ≡ Some y → list_any (λ (x : A). same x y) (take k xs) ≡ false
  fresh_from_pairs means xs pairs k y known =
      let within : k < length xs = slice_get_within xs k y known in
      let here : get_or xs k y ≡ y = get_or_from_slice_get xs k y y known in
      list_any_none (λ (x : A). same x y) (take k xs) (λ i d lt.
      let before : i < k = omega (arith, rw (length-take-le k xs (omega arith)) at lt) in
      rw (get_or-take k xs i d before) (means (get_or xs i d) y
      (subst (λ (e : A). R e y) (get_or_default xs i y d (omega arith)) (subst (λ (e : A). R (get_or xs i y) e) here (pairs i k y before within)))))

-- each place of a list is below its limit
pub few_from_each : {A : Type 0} (xs : List A) (most : ℕ) → ((k : ℕ) (x : A) → slice_get xs k ≡ Some x → k < most) → length xs ≤ most
few_from_each [] most each = omega arith
few_from_each (x ∷ xs) zero each = absurd (let below = each 0 x refl in omega (arith, below))
few_from_each (x ∷ xs) (suc most) each =
    let rest : length xs ≤ most = few_from_each xs most (λ k y known. let below = each (suc k) y known in omega (arith, below)) in omega arith
