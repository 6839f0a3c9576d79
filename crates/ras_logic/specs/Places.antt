-- The first place of a list at which something fails.
use Rattle.std.specs.Prelude.{ℕ, ◌<◌, List, length, take, slice_index_or, All}

-- the place of the first element of which P does not hold
pub record IsFirstBad {X : Type 0} (P : X → Type 0) (xs : List X) (k : ℕ) : Type 0 where
  pub within : k < length xs
  pub before : All P (take k xs)
  pub bad : (d : X) → P (slice_index_or xs k d) → ⊥
