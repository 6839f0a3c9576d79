-- Texts as lines, and lines as words with single blanks between them.
use Rattle.std.specs.Prelude.{ℕ, ◌<◌, ◌^◌, List, [], ◌∷◌, ◌++◌, length, map, flat_map, ◌==◌, if◌then◌else◌}
use Rattle.std.specs.List.{AllByRecursion}
use Rattle.std.specs.Fmt.{decimal}

-- words, each behind a blank
abbrev pub spaced : List (List ℕ) → List ℕ
spaced words = flat_map (λ (word : List ℕ). 32 ∷ word) words

-- a line, without its end: a first word and more words
abbrev pub line : List ℕ → List (List ℕ) → List ℕ
line first more = first ++ spaced more

-- how many words there are, and the words
abbrev pub counted : List (List ℕ) → List (List ℕ)
counted words = decimal (length words) ∷ words

-- a line of a word and a count
abbrev pub count_line : List ℕ → ℕ → List ℕ
count_line word n = line word (decimal n ∷ [])

-- a line of a word, a count and so many numbers
abbrev pub numbers_line : List ℕ → List ℕ → List ℕ
numbers_line word numbers = line word (counted (map decimal numbers))

-- a line with the count of some values, and the line of each
abbrev pub section : {X : Type 0} → List ℕ → (X → List ℕ) → List X → List (List ℕ)
section word text xs = count_line word (length xs) ∷ map text xs

-- values that can be written, so many that a count can be
pub record AreWritten {X : Type 0} (IsWritten : X → Type 0) (xs : List X) : Type 0 where
  pub count : length xs < 2 ^ 32
  pub each : AllByRecursion IsWritten xs

-- lines, each ended by a line feed
abbrev pub written : List (List ℕ) → List ℕ
written lines = flat_map (λ (l : List ℕ). l ++ 10 ∷ []) lines

-- a byte in front of the first line
abbrev pub begin_line : ℕ → List (List ℕ) → List (List ℕ)
begin_line b [] = []
begin_line b (l ∷ lines) = (b ∷ l) ∷ lines

-- the ended lines of bytes, without their ends
abbrev pub lines_of : List ℕ → List (List ℕ)
lines_of [] = []
lines_of (b ∷ bytes) = if b == 10 then [] ∷ lines_of bytes else begin_line b (lines_of bytes)
