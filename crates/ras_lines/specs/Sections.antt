-- Whole lines, and sections of them, at the front of lines.
use Rattle.std.specs.Prelude.{ℕ, List, [], ◌∷◌, Ok, Err}
use Rattle.ras_lines.specs.Fronts.{Front, follow, times}
use Rattle.ras_lines.specs.Numbers.{fixed, number, behind_blank, announced}

-- a line that is all of a value's text
abbrev pub whole : {X : Type 0} → List (List ℕ) → List (List ℕ) → Front ℕ X → Front (List ℕ) X
whole lines rest (Ok (x, [])) = Ok (x, rest)
whole lines rest (Ok (x, b ∷ bytes)) = Err lines
whole lines rest (Err left) = Err lines

abbrev pub at_line : {X : Type 0} → (List ℕ → Front ℕ X) → List (List ℕ) → Front (List ℕ) X
at_line f [] = Err []
at_line f (l ∷ lines) = whole (l ∷ lines) lines (f l)

abbrev pub count : List ℕ → List ℕ → Front ℕ ℕ
count word bytes = follow (fixed word bytes) (λ _ rest. behind_blank number rest)

-- a word, a count, and so many numbers
abbrev pub numbers : List ℕ → List ℕ → Front ℕ (List ℕ)
numbers word bytes = follow (fixed word bytes) (λ _ rest. announced number rest)

-- a line with a count, and so many values
abbrev pub section : {X : Type 0} → List ℕ → (List (List ℕ) → Front (List ℕ) X) → List (List ℕ) → Front (List ℕ) (List X)
section word f lines = follow (at_line (count word) lines) (λ n rest. times f n rest)

-- nothing may stand behind the value
abbrev pub nothing : {X : Type 0} → X → List (List ℕ) → Front (List ℕ) X
nothing x [] = Ok (x, [])
nothing x (l ∷ lines) = Err (l ∷ lines)

abbrev pub only : {X : Type 0} → (List (List ℕ) → Front (List ℕ) X) → List (List ℕ) → Front (List ℕ) X
only f lines = follow (f lines) (λ x rest. nothing x rest)
