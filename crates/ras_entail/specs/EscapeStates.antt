-- States that have just the rows of a problem.
use Rattle.std.specs.Prelude.{◌≡◌, ℕ, ◌<◌, List, [], map, length, get_or, slice_get, Some, All, AllPairs, Contains}
use Rattle.ras_logic.specs.declared.ids.RelId.{RelId}
use Rattle.ras_logic.specs.declared.values.Values.{Values}
use Rattle.ras_logic.specs.Shapes.{ShapeParts}
use Rattle.ras_system.specs.declared.state.State.{State}
use Rattle.ras_system.specs.States.{rows_of}

-- the cells of those of the first rows that are of this relation, in the rows' order
pub record AreRowsBelow (rows : List RelId) (cells : List (List ℕ)) (relation : RelId) (below : ℕ) (found : List (List ℕ)) : Type 0 where
  pub numbers : List ℕ
  pub in_order : AllPairs (λ (j k : ℕ). j < k) numbers
  pub each : All (λ (k : ℕ). (k < below) × (slice_get rows k ≡ Some relation)) numbers
  pub every : (k : ℕ) → k < below → slice_get rows k ≡ Some relation → Contains numbers k
  pub found_are : found ≡ map (λ (k : ℕ). get_or cells k []) numbers

-- the values of the variables, and of each relation just the named rows, in their order
pub record IsStateOfRows (shape : ShapeParts) (rows : List RelId) (v : Values) (s : State) : Type 0 where
  pub vars : s.vars ≡ v.vars
  pub as_many : length s.relations ≡ length shape.relations
  pub rows_are : (r : RelId) → AreRowsBelow rows v.rows r (length rows) (rows_of s r)
