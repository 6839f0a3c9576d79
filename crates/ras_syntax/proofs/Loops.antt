-- Steps of the loops over the signs that close a term.
use Rattle.std.proofs.Common.{◌≡◌, ℕ, suc, ◌+◌, ◌-◌, ◌<◌, List, [], ◌∷◌, ◌++◌, length, refl, ap, arith}
use Rattle.ras_lexer.specs.declared.fixed.Fixed.TheVariants as sign
use Rattle.ras_syntax.specs.Machine.{fixed, closes}

pub closes_more : {X : Type 0} (xs : List X) (x : X) → closes (length (xs ++ x ∷ [])) ≡ fixed sign.CloseParen ∷ closes (length xs)
closes_more [] x = refl
closes_more (y ∷ xs) x = ap (λ c. fixed sign.CloseParen ∷ c) (closes_more xs x)

pub closes_left : (count i : ℕ) → i < count → closes (count - i) ≡ fixed sign.CloseParen ∷ closes (count - (i + 1))
closes_left count i h = let e : count - i ≡ suc (count - (i + 1)) = omega arith in ap closes e
