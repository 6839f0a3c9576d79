-- Names among names, and what is found by its name.
use Rattle.std.proofs.Common.{◌≡◌, ℕ, zero, suc, ◌+◌, ◌<◌, ◌≤◌, Bool, true, false, List, [], ◌∷◌, ◌++◌, length, take, map, refl, ◌∙◌, ap, arith, ⊎_elim, cond}
use Rattle.std.specs.Prelude.{Some, slice_get, nat_le}
use Rattle.std.specs.List.{find}
use Rattle.std.specs.Str.{bytes_eq}
use Rattle.std.proofs.lemmas.Option.{slice_get_within}
use Rattle.std.proofs.lemmas.Cmp.{nat_list_eq_equiv}
use Rattle.std.proofs.lemmas.Map.Views.{list_any-from_Contains, Contains-from_any}
use Rattle.std.proofs.lemmas.Slice.Eq.{bytes_eq-Decides}
use Rattle.std.proofs.lemmas.Bool.{leb-true}
use Rattle.ras_logic.proofs.ByPlace.{at_contains, contains-at, not_true, take_at}
use Rattle.ras_syntax.specs.Grammar.{Text}
use Rattle.ras_names.specs.Lists.{HasNumber}
use Rattle.ras_names.specs.Checks.{is_among}
use Rattle.ras_names.proofs.Numbered.{in_left, in_right, in_either, AreNumbered}

pub same_text : (m n : Text) → m ≡ n → bytes_eq m n ≡ true
same_text m n e = (bytes_eq-Decides m n).1 e

pub text_same : (m n : Text) → bytes_eq m n ≡ true → m ≡ n
text_same m n h = (bytes_eq-Decides m n).0 h

pub among_at : (names : List Text) (name : Text) (k : ℕ) → HasNumber names name k → is_among names name ≡ true
among_at names name k h = list_any-from_Contains nat_list_eq_equiv name names (at_contains names k name h)

pub not_among : (names : List Text) (name : Text) → ((k : ℕ) → HasNumber names name k → ⊥) → is_among names name ≡ false
not_among names name none = not_true (is_among names name) (λ h. let c = contains-at names name (Contains-from_any text_same name names h) in none c.0 c.1)

-- the k-th of the second names is none of the first, and none of those before it
pub fresh : (xs ys : List Text) (k : ℕ) (name : Text) → AreNumbered (xs ++ ys) → HasNumber ys name k → is_among (xs ++ take k ys) name ≡ false
fresh xs ys k name numbered at =
    not_among (xs ++ take k ys) name (λ i h. ⊎_elim
    (λ left. let e : i ≡ length xs + k = numbered name i (length xs + k) (in_left xs ys i name left) (in_right xs ys k name at) in
    let lt : i < length xs = slice_get_within xs i name left in absurd (omega (arith, e, lt)))
    (λ right. let t = take_at k ys right.0 name right.1 in
    let e : length xs + right.0 ≡ length xs + k = numbered name (length xs + right.0) (length xs + k) (in_right xs ys right.0 name t.0) (in_right xs ys k name at) in
    let lt : right.0 < k = t.1 in absurd (omega (arith, e, lt)))
    (in_either xs (take k ys) i name h))

pub map-map : {A B C : Type 0} (f : B → C) (g : A → B) (xs : List A) → map f (map g xs) ≡ map (λ x. f (g x)) xs
map-map f g [] = refl
map-map {A} {B} {C} f g (x ∷ xs) = ap (λ (ys : List C). f (g x) ∷ ys) (map-map f g xs)

tail-numbered : (name : Text) (names : List Text) → AreNumbered (name ∷ names) → AreNumbered names
tail-numbered name names h n i j a b = let e : suc i ≡ suc j = h n (suc i) (suc j) a b in omega (arith, e)

-- where names differ, what has a name is found by it
pub found_at : {A : Type 0} (key : A → Text) (xs : List A) (k : ℕ) (x : A) (name : Text) → AreNumbered (map key xs) → slice_get xs k ≡ Some x → key x ≡ name
    → find (λ (y : A). bytes_eq (key y) name) xs ≡ Some x
found_at key [] k x name numbered at e = absurd (cc)
found_at {A} key (y ∷ xs) zero x name numbered at e =
    let same : y ≡ x = cc in
    let here : bytes_eq (key y) name ≡ true = same_text (key y) name (ap key same ∙ e) in rw here (ap (λ (z : A). Some z) same)
found_at {A} key (y ∷ xs) (suc k) x name numbered at e =
    let rest = found_at key xs k x name (tail-numbered (key y) (map key xs) numbered) at e in go (bytes_eq (key y) name) refl rest
  where
    in_tail : (zs : List A) (j : ℕ) → slice_get zs j ≡ Some x → HasNumber (map key zs) name j
    in_tail [] j q = absurd (cc)
    in_tail (z ∷ zs) zero q = let same : z ≡ x = cc in ap (λ (w : A). Some (key w)) same ∙ ap (λ (n : Text). Some n) e
    in_tail (z ∷ zs) (suc j) q = in_tail zs j q

    go : (b : Bool) → bytes_eq (key y) name ≡ b → find (λ (z : A). bytes_eq (key z) name) xs ≡ Some x → cond b (Some y) (find (λ (z : A). bytes_eq (key z) name) xs) ≡ Some x
    go true h rest =
        let zero_is : HasNumber (key y ∷ map key xs) name 0 = ap (λ (n : Text). Some n) (text_same (key y) name h) in
        let both : 0 ≡ suc k = numbered name 0 (suc k) zero_is (in_tail xs k at) in absurd (omega (arith, both))
    go false h rest = rest

-- a number below the limit
pub below : (limit n m : ℕ) → n < m → m ≤ limit → nat_le limit n ≡ false
below limit n m lt le = not_true (nat_le limit n) (λ h. let ge : limit ≤ n = leb-true limit n h in omega (arith, ge, lt, le))
