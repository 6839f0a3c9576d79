-- Words on names and on lists that go together.
use Rattle.std.specs.Prelude.{◌≡◌, ◌≢◌, ℕ, List, [], ◌∷◌, slice_get, Some, AllPairs}
use Rattle.ras_syntax.specs.Grammar.{Text}

-- in the list of names, this name has this number
abbrev pub HasNumber : List Text → Text → ℕ → Type 0
HasNumber names name n = slice_get names n ≡ Some name

-- no two of the names are equal
abbrev pub AreDifferent : List Text → Type 0
AreDifferent names = AllPairs (λ (m n : Text). m ≢ n) names

-- the lists are as long as each other, and what stands at one place of both goes together
abbrev pub OneByOne : {A B : Type 0} → (A → B → Type 0) → List A → List B → Type 0
OneByOne R [] [] = Unit {0}
OneByOne R [] (y ∷ ys) = ⊥
OneByOne R (x ∷ xs) [] = ⊥
OneByOne R (x ∷ xs) (y ∷ ys) = R x y × OneByOne R xs ys
