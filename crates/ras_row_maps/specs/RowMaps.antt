-- Row maps: for each row of a formula a row of a premise, of the same relation and none twice.
use Rattle.std.specs.Prelude.{◌≡◌, ℕ, ◌<◌, Bool, nat_eq, List, ◌∷◌, [], ◌++◌, slice_get, Some, All, AllPairs, Contains}
use Rattle.ras_logic.specs.declared.ids.RelId.{RelId}
use Rattle.ras_logic.specs.Refutations.{AreRowsOf}
use Rattle.ras_steps.specs.Choosing.{ComesBefore}

-- each row map of these rows once, in lexicographic order
pub record AreRowMaps (from to : List RelId) (maps : List (List ℕ)) : Type 0 where
  pub each : All (AreRowsOf to from) maps
  pub every : (map : List ℕ) → AreRowsOf to from map → Contains maps map
  pub ordered : AllPairs ComesBefore maps

-- the row is of the relation, and not one of those that the map has already
pub record IsFree (to : List RelId) (relation : RelId) (map : List ℕ) (row : ℕ) : Type 0 where
  pub of_relation : slice_get to row ≡ Some relation
  pub fresh : ¬ Contains map row

-- the map, with one of the first rows that are free at its end
pub record IsLongerBelow (to : List RelId) (relation : RelId) (map : List ℕ) (below : ℕ) (longer : List ℕ) : Type 0 where
  pub row : ℕ
  pub within : row < below
  pub free : IsFree to relation map row
  pub longer_is : longer ≡ map ++ row ∷ []

-- the map, with each of the first rows that are free at its end, in the rows' order
pub record AreLongerBelow (to : List RelId) (relation : RelId) (map : List ℕ) (below : ℕ) (longer : List (List ℕ)) : Type 0 where
  pub each : All (IsLongerBelow to relation map below) longer
  pub every : (row : ℕ) → row < below → IsFree to relation map row → Contains longer (map ++ row ∷ [])
  pub ordered : AllPairs ComesBefore longer

-- the row is of the relation
abbrev pub is_of : RelId → RelId → Bool
is_of relation row = nat_eq row.n relation.n

-- no row map of these rows
abbrev pub HaveNoMap : List RelId → List RelId → Type 0
HaveNoMap from to = (map : List ℕ) → ¬ AreRowsOf to from map
