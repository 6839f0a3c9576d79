-- Lists that are made place by place from another list.
use Rattle.std.proofs.Common.{◌≡◌, ℕ, zero, suc, ◌+◌, ◌<◌, ◌≤◌, List, [], ◌∷◌, ◌++◌, map, length, take, get_or, sym, ◌∙◌, ap, subst, arith, zero-add, append_assoc, append-nil}
use Rattle.std.specs.Prelude.{slice_get, Some, All, flat_map}
use Rattle.std.specs.List.{enumerate_from}
use Rattle.std.proofs.lemmas.List.{take_all, take_more, length-take-le, get_or-map, length-map, map-append}
use Rattle.std.proofs.lemmas.List.FromFn.{get_or-enumerate_from, length-enumerate_from}
use Rattle.std.proofs.lemmas.List.Elements.{All-nil, All-head, All-tail, All-append}
use Rattle.std.proofs.lemmas.Grind.{flat_map-append}
use Rattle.std.proofs.lemmas.Option.{slice_get_within, get_or_from_slice_get}

-- what was made of the first elements is made of all of them
pub numbered-done : {A B : Type 0} (F : List A → B) (xs : List A) (n : ℕ) → length xs ≤ n → F (take n xs) ≡ F xs
numbered-done F xs n le = ap F (take_all n xs le)

enumerate-push : {A : Type 0} (n : ℕ) (xs : List A) (x : A) → enumerate_from n (xs ++ x ∷ []) ≡ enumerate_from n xs ++ (n + length xs, x) ∷ []
enumerate-push n [] x = ap (λ (m : ℕ). (m, x) ∷ []) (omega arith)
enumerate-push n (y ∷ xs) x =
    ap (λ (rest : List _). (n, y) ∷ rest) (enumerate-push (n + 1) xs x
    ∙ ap (λ (m : ℕ). enumerate_from (n + 1) xs ++ (m, x) ∷ []) (let same : n + 1 + length xs ≡ n + suc (length xs) = omega arith in same))

enumerate-more : {A : Type 0} (xs : List A) (n : ℕ) (d : A) → n < length xs → enumerate_from 0 (take (n + 1) xs) ≡ enumerate_from 0 (take n xs) ++ (n, get_or xs n d) ∷ []
enumerate-more xs n d lt =
    ap (enumerate_from 0) (take_more xs n d lt)
    ∙ enumerate-push 0 (take n xs) (get_or xs n d)
    ∙ ap (λ (m : ℕ). enumerate_from 0 (take n xs) ++ (m, get_or xs n d) ∷ []) (zero-add (length (take n xs)) ∙ length-take-le n xs (let le : n ≤ length xs = omega (arith, lt) in le))

-- what one element more adds, after what was there
pub items-more : {A B : Type 0} (g : ℕ × A → B) (xs : List A) (n : ℕ) (d : A) (old : List B) → n < length xs
    → (old ++ map g (enumerate_from 0 (take n xs))) ++ g (n, get_or xs n d) ∷ [] ≡ old ++ map g (enumerate_from 0 (take (n + 1) xs))
items-more g xs n d old lt =
    append_assoc old (map g (enumerate_from 0 (take n xs))) (g (n, get_or xs n d) ∷ [])
    ∙ ap (λ (ys : List _). old ++ ys)
    (sym (map-append g (enumerate_from 0 (take n xs)) ((n, get_or xs n d) ∷ []))
    ∙ ap (map g) (sym (enumerate-more xs n d lt)))

pub lists-more : {A B : Type 0} (f : ℕ × A → List B) (xs : List A) (n : ℕ) (d : A) (old : List B) → n < length xs
    → (old ++ flat_map f (enumerate_from 0 (take n xs))) ++ f (n, get_or xs n d) ≡ old ++ flat_map f (enumerate_from 0 (take (n + 1) xs))
lists-more f xs n d old lt =
    append_assoc old (flat_map f (enumerate_from 0 (take n xs))) (f (n, get_or xs n d))
    ∙ ap (λ (ys : List _). old ++ ys)
    (ap (λ (ys : List _). flat_map f (enumerate_from 0 (take n xs)) ++ ys) (sym (append-nil (f (n, get_or xs n d))))
    ∙ sym (flat_map-append f (enumerate_from 0 (take n xs)) ((n, get_or xs n d) ∷ []))
    ∙ ap (flat_map f) (sym (enumerate-more xs n d lt)))

module _ {A B : Type 0} (P : B → Type 0) where
  -- what holds of all that a list is made of
  pub All-lists : (f : A → List B) (xs : List A) → All (λ (x : A). All P (f x)) xs → All P (flat_map f xs)
  All-lists f [] h = All-nil P
  All-lists f (x ∷ xs) h = All-append P (f x) (flat_map f xs) (All-head (λ (y : A). All P (f y)) x xs h) (All-lists f xs (All-tail (λ (y : A). All P (f y)) x xs h))
