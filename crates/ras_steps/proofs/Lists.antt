-- Loops over lists: the rest of a list, the front of a numbered list, tests of each element.
use Rattle.std.proofs.Common.{◌≡◌, ℕ, zero, suc, ◌+◌, ◌<◌, ◌≤◌, Bool, true, false, List, [], ◌∷◌, ◌++◌, map, length, take, drop, get_or, refl, sym, ◌∙◌, ap, subst, arith, add-zero, zero-add}
use Rattle.std.specs.Prelude.{All, Any, IsTrue, slice_get, Some}
use Rattle.std.specs.List.{enumerate_from, list_all}
use Rattle.std.proofs.lemmas.List.{take_more, at_drop_more, at_drop_all, map-append, length-take-le, get_or_default}
use Rattle.std.proofs.lemmas.List.Elements.{All-nil, All-cons, All-head, All-tail}
use Rattle.std.proofs.lemmas.Bool.{and_parts, and_from}

-- what is asked of a list is asked of its rest
pub rest_at : {X Y : Type 0} (F : List X → Y) (xs : List X) (i : ℕ) (x : X) → i < length xs → x ≡ get_or xs i x → F xs ≡ F (drop i xs)
    → F xs ≡ F (x ∷ drop (i + 1) xs)
rest_at F xs i x lt here rest = rest ∙ at_drop_more F xs i x lt ∙ ap (λ (y : _). F (y ∷ drop (i + 1) xs)) (sym here)

pub rest_done : {X Y : Type 0} (F : List X → Y) (xs : List X) (i : ℕ) → length xs ≤ i → F xs ≡ F (drop i xs) → F xs ≡ F []
rest_done F xs i ended rest = rest ∙ at_drop_all F xs i ended

enumerate_from-append : {X : Type 0} (n : ℕ) (xs : List X) (x : X) → enumerate_from n (xs ++ x ∷ []) ≡ enumerate_from n xs ++ (n + length xs, x) ∷ []
enumerate_from-append n [] x = ap (λ (m : ℕ). (m, x) ∷ []) (sym (add-zero n))
enumerate_from-append n (y ∷ xs) x =
    ap (λ (rest : List _). (n, y) ∷ rest) (enumerate_from-append (n + 1) xs x
    ∙ ap (λ (m : ℕ). enumerate_from (n + 1) xs ++ (m, x) ∷ []) (let same : n + 1 + length xs ≡ n + suc (length xs) = omega arith in same))

-- one element more of a list that is made place by place
pub numbered_more : {A B : Type 0} (g : ℕ × A → B) (xs : List A) (i : ℕ) (x : A) → i < length xs → x ≡ get_or xs i x
    → map g (enumerate_from 0 (take (i + 1) xs)) ≡ map g (enumerate_from 0 (take i xs)) ++ g (i, x) ∷ []
numbered_more g xs i x lt here =
    ap (λ (ys : List _). map g (enumerate_from 0 ys)) (take_more xs i x lt ∙ ap (λ (y : _). take i xs ++ y ∷ []) (sym here))
    ∙ ap (map g) (enumerate_from-append 0 (take i xs) x ∙ ap (λ (m : ℕ). enumerate_from 0 (take i xs) ++ (m, x) ∷ []) (zero-add (length (take i xs)) ∙ length-take-le i xs (let le : i ≤ length xs = omega arith in le)))
    ∙ map-append g (enumerate_from 0 (take i xs)) ((i, x) ∷ [])

-- a test of each element
pub all_from_tests : {X : Type 0} (p : X → Bool) (xs : List X) → list_all p xs ≡ true → All (λ (x : X). IsTrue (p x)) xs
all_from_tests p [] h = All-nil (λ x. IsTrue (p x))
all_from_tests p (x ∷ xs) h = let b = and_parts (p x) (list_all p xs) h in All-cons (λ y. IsTrue (p y)) x xs b.0 (all_from_tests p xs b.1)

pub tests_from_all : {X : Type 0} (p : X → Bool) (xs : List X) → All (λ (x : X). IsTrue (p x)) xs → list_all p xs ≡ true
tests_from_all p [] all = refl
tests_from_all p (x ∷ xs) all = and_from (p x) (list_all p xs) (All-head (λ y. IsTrue (p y)) x xs all) (tests_from_all p xs (All-tail (λ y. IsTrue (p y)) x xs all))

pub no_disjunct : {X : Type 0} (p : X → Bool) (xs : List (List X)) → ((k : ℕ) → k < length xs → list_all p (get_or xs k []) ≡ false)
    → Any (λ (ys : List X). All (λ (y : X). IsTrue (p y)) ys) xs → ⊥
no_disjunct p xs none any =
    let one = none any.0 any.2 in
    let all = tests_from_all p any.1 any.4 in
    let same = get_or_default xs any.0 [] any.1 any.2 ∙ any.3 in
    let both = sym all ∙ ap (list_all p) (sym same) ∙ one in cc
