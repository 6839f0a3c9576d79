-- The updated row after the row parameters.
use Rattle.std.proofs.Common.{◌≡◌, ℕ, zero, suc, ◌+◌, ◌<◌, ◌≤◌, List, [], ◌∷◌, ◌++◌, length, take, drop, replicate, refl, ap, arith}
use Rattle.std.proofs.Math.Seq.{take-append-add}

take_one : {X : Type 0} (n m : ℕ) (x : X) → n < m → take 1 (drop n (replicate m x)) ≡ x ∷ []
take_one n zero x lt = absurd (omega arith)
take_one zero (suc m) x lt = refl
take_one (suc n) (suc m) x lt = take_one n m x (omega arith)

pub updated_row : {X : Type 0} (rows copied : List X) (x : X) → length rows ≤ 8 → copied ≡ rows
    → take (length rows + 1) (copied ++ drop (length rows) (replicate 9 x)) ≡ rows ++ x ∷ []
updated_row {X} rows copied x few same = rw (same, take-append-add rows (drop (length rows) (replicate 9 x)) 1) (ap (λ (l : List X). rows ++ l) (take_one (length rows) 9 x (omega arith)))
