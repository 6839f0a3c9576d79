-- Texts of lines, and the first line that does not fit.
use Rattle.std.specs.Prelude.{◌≡◌, ◌≢◌, ℕ, List, [], ◌∷◌, ◌++◌}
use Rattle.std.specs.List.{AllByRecursion}
use Rattle.ras_lines.specs.Lines.{written}

-- no line ends in it
abbrev pub HasNoLineFeed : List ℕ → Type 0
HasNoLineFeed bytes = AllByRecursion (λ (b : ℕ). b ≢ 10) bytes

-- the bytes are these lines, each with its end, and then the rest of one that is not ended
pub record AreLines (bytes : List ℕ) (lines : List (List ℕ)) (rest : List ℕ) : Type 0 where
  pub parts : bytes ≡ written lines ++ rest
  pub single : AllByRecursion HasNoLineFeed lines
  pub unended : HasNoLineFeed rest

-- some text begins with these lines
abbrev pub Begins : (List (List ℕ) → Type 0) → List (List ℕ) → Type 0
Begins IsText lines = (more : List (List ℕ)) × IsText (lines ++ more)

-- What is left behind the longest front with which some text begins: the first line of it does not fit, or none is left and the lines are not whole.
pub record IsMisfit (IsText : List (List ℕ) → Type 0) (lines left : List (List ℕ)) : Type 0 where
  pub front : List (List ℕ)
  pub parts : lines ≡ front ++ left
  pub begins : Begins IsText front
  pub here : (line : List ℕ) (behind : List (List ℕ)) → left ≡ line ∷ behind → Begins IsText (front ++ line ∷ []) → ⊥
  pub no_text : IsText lines → ⊥
