-- The elements of lists by their places.
use Rattle.std.proofs.Common.{◌≡◌, ℕ, zero, suc, ◌<◌, Bool, true, false, ◌||◌, List, [], ◌∷◌, map, get_or, take, refl, sym, ◌∙◌, ap, arith}
use Rattle.std.specs.Prelude.{Some, slice_get, All, Contains}
use Rattle.std.specs.List.{list_any}
use Rattle.std.proofs.lemmas.Option.{slice_get_within, slice_get-get_or, get_or_from_slice_get, slice_get-map, same_Some}

pub contains-at : {X : Type 0} (xs : List X) (x : X) → Contains xs x → (k : ℕ) × (slice_get xs k ≡ Some x)
contains-at xs x c = (c.0, slice_get-get_or xs c.0 x c.1 ∙ ap Some c.2)

pub at_contains : {X : Type 0} (xs : List X) (k : ℕ) (x : X) → slice_get xs k ≡ Some x → Contains xs x
at_contains xs k x e = (k, slice_get_within xs k x e, get_or_from_slice_get xs k x x e)

pub map-at : {X Y : Type 0} (f : X → Y) (xs : List X) (k : ℕ) (x : X) → slice_get xs k ≡ Some x → slice_get (map f xs) k ≡ Some (f x)
map-at f xs k x e = rw (slice_get-map f xs k, e) refl

pub map_from : {A B : Type 0} (f : A → B) (xs : List A) (k : ℕ) (y : B) → slice_get (map f xs) k ≡ Some y → (x : A) × (slice_get xs k ≡ Some x) × (f x ≡ y)
map_from f [] k y e = absurd (cc)
map_from f (x ∷ xs) zero y e = (x, refl, same_Some (f x) y e)
map_from f (x ∷ xs) (suc k) y e = map_from f xs k y e

pub take_at : {X : Type 0} (n : ℕ) (xs : List X) (k : ℕ) (x : X) → slice_get (take n xs) k ≡ Some x → (slice_get xs k ≡ Some x) × (k < n)
take_at zero xs k x e = absurd (cc)
take_at (suc n) [] k x e = absurd (cc)
take_at (suc n) (y ∷ xs) zero x e = (e, omega arith)
take_at (suc n) (y ∷ xs) (suc k) x e = let r = take_at n xs k x e in (r.0, omega (arith, r.1))

pub at_take : {X : Type 0} (n : ℕ) (xs : List X) (k : ℕ) (x : X) → k < n → slice_get xs k ≡ Some x → slice_get (take n xs) k ≡ Some x
at_take zero xs k x lt e = absurd (omega (arith, lt))
at_take (suc n) [] k x lt e = absurd (cc)
at_take (suc n) (y ∷ xs) zero x lt e = e
at_take (suc n) (y ∷ xs) (suc k) x lt e = at_take n xs k x (omega (arith, lt)) e

pub all-from : {X : Type 0} (P : X → Type 0) (xs : List X) → ((k : ℕ) (x : X) → slice_get xs k ≡ Some x → P x) → All P xs
all-from P xs f = λ k d lt. f k (get_or xs k d) (slice_get-get_or xs k d lt)

pub one_value : {X : Type 0} (xs : List X) (k : ℕ) (x y : X) → slice_get xs k ≡ Some x → slice_get xs k ≡ Some y → x ≡ y
one_value xs k x y a b = same_Some x y (sym a ∙ b)

pub no_true : (b : Bool) → b ≡ true → b ≡ false → ⊥
no_true b h k = let e : ◌≡◌ {A = Bool} true false = sym h ∙ k in cc

pub not_true : (b : Bool) → (b ≡ true → ⊥) → b ≡ false
not_true true h = absurd (h refl)
not_true false h = refl

pub or_first : (a b : Bool) → a ≡ true → (a || b) ≡ true
or_first true b h = refl
or_first false b h = absurd (cc)

pub or_second : (a b : Bool) → b ≡ true → (a || b) ≡ true
or_second true b h = refl
or_second false b h = h

pub any_at : {X : Type 0} (test : X → Bool) (xs : List X) (k : ℕ) (x : X) → slice_get xs k ≡ Some x → test x ≡ true → list_any test xs ≡ true
any_at test [] k x e h = absurd (cc)
any_at test (y ∷ xs) zero x e h = or_first (test y) (list_any test xs) (ap test (same_Some y x e) ∙ h)
any_at test (y ∷ xs) (suc k) x e h = or_second (test y) (list_any test xs) (any_at test xs k x e h)
