-- What holds of all elements of a list that is made place by place from another one.
use Rattle.std.proofs.Common.{◌≡◌, ℕ, zero, suc, ◌+◌, ◌<◌, List, [], ◌∷◌, ◌++◌, map, length, get_or, ◌∙◌, ap, subst, arith, zero-add}
use Rattle.std.specs.Prelude.{slice_get, Some, All, flat_map}
use Rattle.std.specs.List.{enumerate_from}
use Rattle.std.proofs.lemmas.List.{get_or-map, length-map}
use Rattle.std.proofs.lemmas.List.FromFn.{get_or-enumerate_from, length-enumerate_from}
use Rattle.std.proofs.lemmas.List.Elements.{All-nil, All-cons, All-head, All-tail}
use Rattle.std.proofs.lemmas.Option.{slice_get_within, get_or_from_slice_get}

pub All-left : {A : Type 0} (P : A → Type 0) (xs ys : List A) → All P (xs ++ ys) → All P xs
All-left P [] ys h = All-nil P
All-left P (x ∷ xs) ys h = All-cons P x xs (All-head P x (xs ++ ys) h) (All-left P xs ys (All-tail P x (xs ++ ys) h))

pub All-right : {A : Type 0} (P : A → Type 0) (xs ys : List A) → All P (xs ++ ys) → All P ys
All-right P [] ys h = h
All-right P (x ∷ xs) ys h = All-right P xs ys (All-tail P x (xs ++ ys) h)

-- of each element, by its place
pub numbered-at : {A B : Type 0} (P : B → Type 0) (f : ℕ × A → B) (xs : List A) → All P (map f (enumerate_from 0 xs)) → (k : ℕ) (x : A) → slice_get xs k ≡ Some x → P (f (k, x))
numbered-at {A = A} P f xs h k x known =
    let lt : k < length xs = slice_get_within xs k x known in
    let within : k < length (enumerate_from 0 xs) = rw (length-enumerate_from 0 xs) lt in
    subst P
    (get_or-map f (enumerate_from 0 xs) k (0, x) (f (0, x)) within
    ∙ ap f (get_or-enumerate_from 0 xs k (0, x) lt ∙ ap (λ (m : ℕ). (m, get_or xs k x)) (zero-add k) ∙ ap (λ (y : A). (k, y)) (get_or_from_slice_get xs k x x known)))
    (h k (f (0, x)) (rw (length-map (enumerate_from 0 xs) f) within))

pub lists-at : {A B : Type 0} (P : B → Type 0) (f : ℕ × A → List B) (n : ℕ) (xs : List A) → All P (flat_map f (enumerate_from n xs)) → (k : ℕ) (x : A) → slice_get xs k ≡ Some x → All P (f (n + k, x))
lists-at P f n [] h k x known = absurd (cc)
lists-at P f n (y ∷ xs) h zero x known = let same : y ≡ x = cc in let e : n ≡ n + 0 = omega arith in
    subst (λ (z : _). All P (f (n + 0, z))) same (subst (λ (m : ℕ). All P (f (m, y))) e (All-left P (f (n, y)) (flat_map f (enumerate_from (n + 1) xs)) h))
lists-at P f n (y ∷ xs) h (suc k) x known =
    let e : n + 1 + k ≡ n + suc k = omega arith in
    subst (λ (m : ℕ). All P (f (m, x))) e (lists-at P f (n + 1) xs (All-right P (f (n, y)) (flat_map f (enumerate_from (n + 1) xs)) h) k x known)
