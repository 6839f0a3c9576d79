-- The pieces of a text.
use Rattle.std.specs.Prelude.{ℕ, List, [], ◌∷◌, ◌++◌, length, flat_map, codes}
use Rattle.std.specs.Fmt.{decimal}

-- a blank and a number
abbrev pub word : ℕ → List ℕ
word n = codes " " ++ decimal n

abbrev pub words : List ℕ → List ℕ
words ns = flat_map word ns

-- how many there are, and the text of each
abbrev pub counted : {X : Type 0} → (X → List ℕ) → List X → List ℕ
counted text xs = word (length xs) ++ flat_map text xs

abbrev pub end_of_line : List ℕ
end_of_line = 10 ∷ []

-- a text and a line end
abbrev pub line : List ℕ → List ℕ
line text = text ++ end_of_line
