-- Lists with one element more.
use Rattle.std.proofs.Common.{◌≡◌, ℕ, zero, suc, List, [], ◌∷◌, ◌++◌, length, refl, arith, ◌⊎◌, inl, inr, ⊎_elim}
use Rattle.std.specs.Prelude.{slice_get, Some}
use Rattle.std.proofs.lemmas.Option.{none-some, same_Some}

pub at-push : {X : Type 0} (xs : List X) (y x : X) (i : ℕ) → slice_get (xs ++ y ∷ []) i ≡ Some x → (slice_get xs i ≡ Some x) ⊎ ((i ≡ length xs) × (y ≡ x))
at-push [] y x zero h = inr (omega arith, same_Some y x h)
at-push [] y x (suc i) h = absurd (none-some x h)
at-push (z ∷ zs) y x zero h = inl h
at-push (z ∷ zs) y x (suc i) h = ⊎_elim inl (λ (e : (i ≡ length zs) × (y ≡ x)). inr (omega (arith, e.0), e.1)) (at-push zs y x i h)

pub grows-push : {X : Type 0} (xs : List X) (y x : X) (i : ℕ) → slice_get xs i ≡ Some x → slice_get (xs ++ y ∷ []) i ≡ Some x
grows-push [] y x i h = absurd (none-some x h)
grows-push (z ∷ zs) y x zero h = h
grows-push (z ∷ zs) y x (suc i) h = grows-push zs y x i h

pub pushed-at : {X : Type 0} (xs : List X) (y : X) → slice_get (xs ++ y ∷ []) (length xs) ≡ Some y
pushed-at [] y = refl
pushed-at (z ∷ zs) y = pushed-at zs y
