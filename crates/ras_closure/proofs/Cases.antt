-- Cases of numbers, and what equal and different variants say.
use Rattle.std.proofs.Common.{◌≡◌, ◌≢◌, ℕ, ◌+◌, ◌<◌, ◌≤◌, true, false, ◌⊎◌, arith}
use Rattle.std.specs.Prelude.{Some, None}

pub below_or_same : (a b : ℕ) → a < b + 1 → (a < b) ⊎ (a ≡ b)
below_or_same a b lt = grind arith

pub same_or : (a b : ℕ) → (a ≡ b) ⊎ (a ≢ b)
same_or a b = grind arith

pub below_or : (a b : ℕ) → (a < b) ⊎ (b ≤ a)
below_or a b = grind arith

pub le_or : (a b : ℕ) → (a ≤ b) ⊎ (b < a)
le_or a b = grind arith

pub some_same : {X : Type 0} {x y : X} → Some x ≡ Some y → x ≡ y
some_same e = cc

pub none_some : {X : Type 0} {x : X} → None ≡ Some x → ⊥
none_some e = cc

pub true_false : true ≡ false → ⊥
true_false e = cc
