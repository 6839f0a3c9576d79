-- The first place at which something fails, where each place is told apart.
use Rattle.std.proofs.Common.{ℕ, zero, suc, ◌+◌, ◌<◌, ◌⊎◌, inl, inr, arith, add-one, below_more}

-- at all places before one A, and there B
pub record IsFirst (A B : ℕ → Type 0) (n : ℕ) : Type 0 where
  pub place : ℕ
  pub within : place < n
  pub before : (j : ℕ) → j < place → A j
  pub here : B place

pub all_or_first : (A B : ℕ → Type 0) → ((k : ℕ) → A k ⊎ B k) → (n : ℕ) → ((k : ℕ) → k < n → A k) ⊎ IsFirst A B n
all_or_first A B either zero = inl (λ k lt. absurd (omega arith))
all_or_first A B either (suc n) = go (all_or_first A B either n) (either n)
  where
    go : ((k : ℕ) → k < n → A k) ⊎ IsFirst A B n → A n ⊎ B n → ((k : ℕ) → k < suc n → A k) ⊎ IsFirst A B (suc n)
    go (inr f) e = let lt : f.place < n = f.within in inr (record { place = f.place; within = omega arith; before = f.before; here = f.here })
    go (inl all) (inl a) = inl (λ k lt. below_more A n all a k (rw add-one lt))
    go (inl all) (inr b) = inr (record { place = n; within = omega arith; before = all; here = b })
