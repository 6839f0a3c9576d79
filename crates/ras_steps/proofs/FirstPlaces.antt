-- The first place at which something fails, where each place is told apart.
use Rattle.std.proofs.Common.{ℕ, zero, suc, ◌+◌, ◌<◌, ◌⊎◌, inl, inr, arith, add-one, below_more}
use Rattle.ras_steps.specs.StepFaults.{IsFirstNot}

pub all_or_first : (P : ℕ → Type 0) → ((k : ℕ) → P k ⊎ (P k → ⊥)) → (n : ℕ) → ((k : ℕ) → k < n → P k) ⊎ ((k : ℕ) × IsFirstNot P n k)
all_or_first P either zero = inl (λ k lt. absurd (omega arith))
all_or_first P either (suc n) = go (all_or_first P either n) (either n)
  where
    go : ((k : ℕ) → k < n → P k) ⊎ ((k : ℕ) × IsFirstNot P n k) → P n ⊎ (P n → ⊥) → ((k : ℕ) → k < suc n → P k) ⊎ ((k : ℕ) × IsFirstNot P (suc n) k)
    go (inr f) e = let k = f.0 in let lt : k < n = f.1.within in inr (k, record { within = omega arith; before = f.1.before; not_here = f.1.not_here })
    go (inl all) (inl a) = inl (λ k lt. below_more P n all a k (rw add-one lt))
    go (inl all) (inr b) = inr (n, record { within = omega arith; before = all; not_here = b })
