-- The last byte.
use Rattle.std.specs.Prelude.{ℕ, List, [], ◌∷◌}

-- the last element, or this one where there is none
abbrev pub last_of : ℕ → List ℕ → ℕ
last_of d [] = d
last_of d (b ∷ bytes) = last_of b bytes
