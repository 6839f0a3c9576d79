-- Lists by their places.
use Rattle.std.proofs.Common.{◌≡◌, ◌≢◌, ℕ, zero, suc, ◌<◌, List, [], ◌∷◌, ◌++◌, length, set, refl, ap, arith, ◌⊎◌, inl, inr}
use Rattle.std.specs.Prelude.{slice_get, Some}
use Rattle.ras_core.specs.CoreStates.{EntryParts, change}

pub get_front : {X : Type 0} (xs ys : List X) (k : ℕ) → k < length xs → slice_get (xs ++ ys) k ≡ slice_get xs k
get_front [] ys k lt = absurd (omega arith)
get_front (x ∷ xs) ys zero lt = refl
get_front (x ∷ xs) ys (suc k) lt = get_front xs ys k (omega arith)

pub set_other : {X : Type 0} (xs : List X) (i k : ℕ) (y : X) → k ≢ i → slice_get (set xs i y) k ≡ slice_get xs k
set_other [] i k y other = refl
set_other (x ∷ xs) zero zero y other = absurd (other refl)
set_other (x ∷ xs) zero (suc k) y other = refl
set_other (x ∷ xs) (suc i) zero y other = refl
set_other (x ∷ xs) (suc i) (suc k) y other = set_other xs i k y (λ q. other (ap suc q))

pub set_here : {X : Type 0} (xs : List X) (i : ℕ) (y : X) → i < length xs → slice_get (set xs i y) i ≡ Some y
set_here [] i y lt = absurd (omega arith)
set_here (x ∷ xs) zero y lt = refl
set_here (x ∷ xs) (suc i) y lt = set_here xs i y (omega arith)

-- an entry of a list in which one was changed: another one, or this
pub of-change : (f : EntryParts → EntryParts) (i : ℕ) (es : List EntryParts) (k : ℕ) (e : EntryParts) → slice_get (change f i es) k ≡ Some e
    → ((k ≢ i) × (slice_get es k ≡ Some e)) ⊎ ((o : EntryParts) × (k ≡ i) × (slice_get es k ≡ Some o) × (f o ≡ e))
of-change f i [] k e h = absurd (cc)
of-change f zero (x ∷ es) zero e h = inr (x, refl, refl, cc)
of-change f zero (x ∷ es) (suc k) e h = inl (λ q. absurd (omega (arith, q)), h)
of-change f (suc i) (x ∷ es) zero e h = inl (λ q. absurd (omega (arith, q)), h)
of-change f (suc i) (x ∷ es) (suc k) e h = later (of-change f i es k e h)
  where
    later : ((k ≢ i) × (slice_get es k ≡ Some e)) ⊎ ((o : EntryParts) × (k ≡ i) × (slice_get es k ≡ Some o) × (f o ≡ e))
        → ((suc k ≢ suc i) × (slice_get es k ≡ Some e)) ⊎ ((o : EntryParts) × (suc k ≡ suc i) × (slice_get es k ≡ Some o) × (f o ≡ e))
    later (inl a) = inl (λ q. a.0 (let p : k ≡ i = omega (arith, q) in p), a.1)
    later (inr b) = inr (b.0, ap suc b.1, b.2, b.3)
