-- Tests of lists that compute, and what it means that they pass.
use Rattle.std.proofs.Common.{◌≡◌, ℕ, zero, suc, Bool, true, false, List, [], ◌∷◌, refl, subst, nat_eq, eq-eqb, arith}
use Rattle.std.specs.Prelude.{slice_get, Some, All, AllPairs, not, ◌&&◌, ◌||◌}
use Rattle.std.specs.List.{list_all}
use Rattle.std.proofs.lemmas.List.Sums.{AllPass-from_list_all}
use Rattle.std.proofs.lemmas.List.Kept.{AllPairs-cons}
use Rattle.std.proofs.lemmas.Bool.{eqb-true, and_parts, and_from}

-- each element, with its number, passes the test
abbrev pub each : {X : Type 0} → (ℕ → X → Bool) → List X → Bool
each p [] = true
each p (x ∷ xs) = p 0 x && each (λ k y. p (suc k) y) xs

pub each-at : {X : Type 0} (p : ℕ → X → Bool) (xs : List X) → each p xs ≡ true → (k : ℕ) (x : X) → slice_get xs k ≡ Some x → p k x ≡ true
each-at p [] h k x e = absurd (cc)
each-at p (y ∷ xs) h zero x e = let q : y ≡ x = cc in subst (λ z. p 0 z ≡ true) q (and_parts (p 0 y) (each (λ k z. p (suc k) z) xs) h).0
each-at p (y ∷ xs) h (suc k) x e = each-at (λ j z. p (suc j) z) xs (and_parts (p 0 y) (each (λ j z. p (suc j) z) xs) h).1 k x e

pub each-from : {X : Type 0} (p : ℕ → X → Bool) (xs : List X) → ((k : ℕ) (x : X) → slice_get xs k ≡ Some x → p k x ≡ true) → each p xs ≡ true
each-from p [] f = refl
each-from p (x ∷ xs) f = and_from (p 0 x) (each (λ k z. p (suc k) z) xs) (f 0 x refl) (each-from (λ k z. p (suc k) z) xs (λ k z e. f (suc k) z e))

pub list_all-All : {X : Type 0} (p : X → Bool) (P : X → Type 0) → ((x : X) → p x ≡ true → P x) → (xs : List X) → list_all p xs ≡ true → All P xs
list_all-All p P f xs h = λ k d lt. f _ (AllPass-from_list_all p xs h k d lt)

-- each element and each later one pass the test
abbrev pub all_pairs : {X : Type 0} → (X → X → Bool) → List X → Bool
all_pairs p [] = true
all_pairs p (x ∷ xs) = list_all (p x) xs && all_pairs p xs

pub all_pairs-AllPairs : {X : Type 0} (p : X → X → Bool) (R : X → X → Type 0) → ((x y : X) → p x y ≡ true → R x y) → (xs : List X) → all_pairs p xs ≡ true → AllPairs R xs
all_pairs-AllPairs p R f [] h = λ i j d lt l. absurd (omega (arith, l))
all_pairs-AllPairs p R f (x ∷ xs) h =
    let t = and_parts (list_all (p x) xs) (all_pairs p xs) h in
    AllPairs-cons R x xs (list_all-All (p x) (R x) (f x) xs t.0) (all_pairs-AllPairs p R f xs t.1)

pub unless : (a b : Bool) → (not a || b) ≡ true → a ≡ true → b ≡ true
unless true b h e = h
unless false b h e = absurd (cc)

pub unless-from : (a b : Bool) → (a ≡ true → b ≡ true) → (not a || b) ≡ true
unless-from true b f = f refl
unless-from false b f = refl

pub not-true : (b : Bool) → not b ≡ true → b ≡ true → ⊥
not-true true h e = cc
not-true false h e = cc

-- the numbers at two places are different, where the keys are the same
abbrev pub are_apart : {X : Type 0} → (X → ℕ) → (ℕ → ℕ) → List X → Bool
are_apart key number xs = each (λ j x. each (λ k y. not (nat_eq (key x) (key y) && nat_eq (number j) (number k)) || nat_eq j k) xs) xs

pub are_apart-different : {X : Type 0} (key : X → ℕ) (number : ℕ → ℕ) (xs : List X) → are_apart key number xs ≡ true
    → (j k : ℕ) (x y : X) → slice_get xs j ≡ Some x → slice_get xs k ≡ Some y → key x ≡ key y → number j ≡ number k → j ≡ k
are_apart-different key number xs h j k x y ex ey same e =
    eqb-true j k (unless (nat_eq (key x) (key y) && nat_eq (number j) (number k)) (nat_eq j k)
    (each-at (λ k y. not (nat_eq (key x) (key y) && nat_eq (number j) (number k)) || nat_eq j k) xs
    (each-at (λ j x. each (λ k y. not (nat_eq (key x) (key y) && nat_eq (number j) (number k)) || nat_eq j k) xs) xs h j x ex) k y ey)
    (and_from (nat_eq (key x) (key y)) (nat_eq (number j) (number k)) (eq-eqb (key x) (key y) same) (eq-eqb (number j) (number k) e)))

pub are_apart-from : {X : Type 0} (key : X → ℕ) (number : ℕ → ℕ) (xs : List X)
    → ((j k : ℕ) (x y : X) → slice_get xs j ≡ Some x → slice_get xs k ≡ Some y → key x ≡ key y → number j ≡ number k → j ≡ k) → are_apart key number xs ≡ true
are_apart-from key number xs f =
    each-from (λ j x. each (λ k y. not (nat_eq (key x) (key y) && nat_eq (number j) (number k)) || nat_eq j k) xs) xs
    (λ j x ej. each-from (λ k y. not (nat_eq (key x) (key y) && nat_eq (number j) (number k)) || nat_eq j k) xs
    (λ k y ek. unless-from (nat_eq (key x) (key y) && nat_eq (number j) (number k)) (nat_eq j k)
    (λ h. let t = and_parts (nat_eq (key x) (key y)) (nat_eq (number j) (number k)) h in
    eq-eqb j k (f j k x y ej ek (eqb-true (key x) (key y) t.0) (eqb-true (number j) (number k) t.1)))))
