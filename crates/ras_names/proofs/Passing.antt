-- Checks none of which fails.
use Rattle.std.proofs.Common.{◌≡◌, ℕ, zero, suc, ◌+◌, Bool, true, false, List, [], ◌∷◌, ◌++◌, refl, subst, arith}
use Rattle.std.specs.Prelude.{Some, None, slice_get, flat_map, cond, map, not}
use Rattle.std.specs.List.{enumerate_from}
use Rattle.ras_names.specs.Checks.{Check, first_of, for_each, for_each_from}

abbrev pub Passes : List Check → Type 0
Passes checks = first_of checks ≡ None

pub pass_first : (c : Check) (checks : List Check) → c.fails ≡ false → Passes checks → Passes (c ∷ checks)
pass_first c checks h k = rw h k

pub pass_one : (c : Check) → c.fails ≡ false → Passes (c ∷ [])
pass_one c h = pass_first c [] h refl

pub pass_both : (xs ys : List Check) → Passes xs → Passes ys → Passes (xs ++ ys)
pass_both [] ys h k = k
pass_both (c ∷ xs) ys h k = go c.fails h (pass_both xs ys)
  where
    go : (b : Bool) → cond b (Some c.fault) (first_of xs) ≡ None → (Passes xs → Passes ys → Passes (xs ++ ys)) → cond b (Some c.fault) (first_of (xs ++ ys)) ≡ None
    go true i later = absurd (cc)
    go false i later = later i k

pub pass_map : {A : Type 0} (check : A → Check) (xs : List A) → ((k : ℕ) (x : A) → slice_get xs k ≡ Some x → (check x).fails ≡ false) → Passes (map check xs)
pass_map check [] each = refl
pass_map check (x ∷ xs) each = pass_first (check x) (map check xs) (each 0 x refl) (pass_map check xs (λ k y e. each (suc k) y e))

pub pass_each_from : {A : Type 0} (n : ℕ) (checks : ℕ → A → List Check) (xs : List A) → ((k : ℕ) (x : A) → slice_get xs k ≡ Some x → Passes (checks (n + k) x))
    → Passes (for_each_from n checks xs)
pass_each_from n checks [] each = refl
pass_each_from {A} n checks (x ∷ xs) each =
    pass_both (checks n x) (flat_map (λ (q : ℕ × A). checks q.0 q.1) (enumerate_from (n + 1) xs))
    (subst (λ (m : ℕ). Passes (checks m x)) (let same : n + 0 ≡ n = omega arith in same) (each 0 x refl))
    (pass_each_from (n + 1) checks xs (λ k y known. subst (λ (m : ℕ). Passes (checks m y)) (let same : n + suc k ≡ n + 1 + k = omega arith in same) (each (suc k) y known)))

pub pass_each : {A : Type 0} (checks : ℕ → A → List Check) (xs : List A) → ((k : ℕ) (x : A) → slice_get xs k ≡ Some x → Passes (checks k x)) → Passes (for_each checks xs)
pass_each checks xs each = pass_each_from 0 checks xs (λ k x known. subst (λ (m : ℕ). Passes (checks m x)) (let same : k ≡ 0 + k = omega arith in same) (each k x known))

pub not-passes : (b : Bool) → b ≡ true → not b ≡ false
not-passes true h = refl
not-passes false h = absurd (cc)

-- the other way round: where none of the checks fails, each passes
pub passed_first : (c : Check) (checks : List Check) → Passes (c ∷ checks) → (c.fails ≡ false) × Passes checks
passed_first c checks h = go c.fails refl h
  where
    go : (b : Bool) → c.fails ≡ b → cond b (Some c.fault) (first_of checks) ≡ None → (c.fails ≡ false) × Passes checks
    go true e k = absurd (cc)
    go false e k = (e, k)

pub passed_both : (xs ys : List Check) → Passes (xs ++ ys) → Passes xs × Passes ys
passed_both [] ys h = (refl, h)
passed_both (c ∷ xs) ys h =
    let p = passed_first c (xs ++ ys) h in
    let q = passed_both xs ys p.1 in (pass_first c xs p.0 q.0, q.1)

pub passed_each_from : {A : Type 0} (n : ℕ) (checks : ℕ → A → List Check) (xs : List A) → Passes (for_each_from n checks xs) → (k : ℕ) (x : A) → slice_get xs k ≡ Some x
    → Passes (checks (n + k) x)
passed_each_from n checks [] h k x e = absurd (cc)
passed_each_from {A} n checks (y ∷ xs) h zero x e =
    let same : y ≡ x = cc in
    let p = passed_both (checks n y) (flat_map (λ (q : ℕ × A). checks q.0 q.1) (enumerate_from (n + 1) xs)) h in
    subst (λ (z : A). Passes (checks (n + 0) z)) same (subst (λ (m : ℕ). Passes (checks m y)) (let q : n ≡ n + 0 = omega arith in q) p.0)
passed_each_from {A} n checks (y ∷ xs) h (suc k) x e =
    let p = passed_both (checks n y) (flat_map (λ (q : ℕ × A). checks q.0 q.1) (enumerate_from (n + 1) xs)) h in
    subst (λ (m : ℕ). Passes (checks m x)) (let q : n + 1 + k ≡ n + suc k = omega arith in q) (passed_each_from (n + 1) checks xs p.1 k x e)

pub passed_each : {A : Type 0} (checks : ℕ → A → List Check) (xs : List A) → Passes (for_each checks xs) → (k : ℕ) (x : A) → slice_get xs k ≡ Some x → Passes (checks k x)
passed_each checks xs h k x e = subst (λ (m : ℕ). Passes (checks m x)) (let q : 0 + k ≡ k = omega arith in q) (passed_each_from 0 checks xs h k x e)

pub passed-not : (b : Bool) → not b ≡ false → b ≡ true
passed-not true h = refl
passed-not false h = absurd (cc)
