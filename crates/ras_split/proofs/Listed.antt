-- Lists with one element more, or one less.
use Rattle.std.proofs.Common.{◌≡◌, ◌≢◌, ℕ, zero, suc, ◌+◌, ◌<◌, ◌≤◌, List, [], ◌∷◌, ◌++◌, length, length-append, get_or, refl, sym, ◌∙◌, ap, subst, arith, ◌⊎◌, inl, inr, ⊎_elim}
use Rattle.std.specs.Prelude.{slice_get, Some, None, All, Any}
use Rattle.std.proofs.lemmas.Option.{slice_get_within, slice_get-get_or, get_or_from_slice_get}
use Rattle.ras_split.specs.Among.{IsAmong}

pub among-more : {X : Type 0} (xs : List X) (y x : X) → IsAmong xs x → IsAmong (xs ++ y ∷ []) x
among-more {X = X} xs y x h = record { number = h.number; known = there xs h.number h.known }
  where
    there : (xs : List X) (k : ℕ) → slice_get xs k ≡ Some x → slice_get (xs ++ y ∷ []) k ≡ Some x
    there [] k e = absurd (cc)
    there (z ∷ xs) zero e = e
    there (z ∷ xs) (suc k) e = there xs k e

pub among-last : {X : Type 0} (xs : List X) (y : X) → IsAmong (xs ++ y ∷ []) y
among-last {X = X} xs y = record { number = length xs; known = here xs }
  where
    here : (xs : List X) → slice_get (xs ++ y ∷ []) (length xs) ≡ Some y
    here [] = refl
    here (z ∷ xs) = here xs

pub among-either : {X : Type 0} (xs : List X) (y x : X) → IsAmong (xs ++ y ∷ []) x → IsAmong xs x ⊎ (x ≡ y)
among-either {X = X} xs y x h = ⊎_elim (λ e. inl (record { number = h.number; known = e })) (λ e. inr e) (either xs h.number h.known)
  where
    either : (xs : List X) (k : ℕ) → slice_get (xs ++ y ∷ []) k ≡ Some x → (slice_get xs k ≡ Some x) ⊎ (x ≡ y)
    either [] zero e = inr (cc)
    either [] (suc k) e = absurd (cc)
    either (z ∷ xs) zero e = inl e
    either (z ∷ xs) (suc k) e = either xs k e

pub push-place : {X : Type 0} (xs : List X) (y x : X) (k : ℕ) → slice_get (xs ++ y ∷ []) k ≡ Some x → (slice_get xs k ≡ Some x) ⊎ ((k ≡ length xs) × (x ≡ y))
push-place [] y x zero e = inr (refl, cc)
push-place [] y x (suc k) e = absurd (cc)
push-place (z ∷ xs) y x zero e = inl e
push-place (z ∷ xs) y x (suc k) e = ⊎_elim (λ h. inl h) (λ h. inr (omega (arith, h.0), h.1)) (push-place xs y x k e)

pub among-none : {X : Type 0} (x : X) → IsAmong [] x → ⊥
among-none x h = absurd (cc (h.known))

pub all-among : {X : Type 0} (P : X → Type 0) (xs : List X) → ((x : X) → IsAmong xs x → P x) → All P xs
all-among P xs each k d lt = each (get_or xs k d) (record { number = k; known = slice_get-get_or xs k d lt })

pub any-among : {X : Type 0} (P : X → Type 0) (xs : List X) (x : X) → IsAmong xs x → P x → Any P xs
any-among P xs x h p = (h.number, x, slice_get_within xs h.number x h.known, get_or_from_slice_get xs h.number x x h.known, p)
