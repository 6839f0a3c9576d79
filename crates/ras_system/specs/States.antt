-- States, initial states, and when a state meets a formula.
use Rattle.std.specs.Prelude.{◌≡◌, ℕ, ◌<◌, List, [], ◌∷◌, length, get_or, slice_get, Option, Some, None, All, Any}
use Rattle.ras_logic.specs.declared.ids.RelId.{RelId}
use Rattle.ras_logic.specs.declared.ids.ConstId.{ConstId}
use Rattle.ras_logic.specs.declared.raw_db.RawDb.{RawDb}
use Rattle.ras_logic.specs.declared.values.Values.{Values}
use Rattle.ras_logic.specs.declared.problem.Problem.{Problem}
use Rattle.ras_logic.specs.Shapes.{ShapeParts, IsRelation}
use Rattle.ras_logic.specs.Databases.{constant_of}
use Rattle.ras_logic.specs.Truth.{AreElements, IsRow, AllHold}
use Rattle.ras_system.specs.declared.state.State.{State}
use Rattle.ras_system.specs.Systems.{SystemParts}

-- the rows of a relation
abbrev pub rows_of : State → RelId → List (List ℕ)
rows_of s r = get_or s.relations r.n []

-- an element for each variable, and for each relation any number of rows of elements
pub record IsState (shape : ShapeParts) (d : RawDb) (s : State) : Type 0 where
  pub vars : AreElements d shape.vars s.vars
  pub as_many : length s.relations ≡ length shape.relations
  pub rows : (r : RelId) → IsRelation shape r → All (IsRow shape d r) (rows_of s r)

-- the declared constant, or undef where none is declared
abbrev pub initial_value : RawDb → Option ConstId → ℕ
initial_value d (Some c) = constant_of d c.n
initial_value d None = 0

-- a state in which each variable has its initial value and every cell is undef
pub record IsInitial (system : SystemParts) (d : RawDb) (s : State) : Type 0 where
  pub state : IsState system.shape d s
  pub vars : (k : ℕ) (c : Option ConstId) → slice_get system.initial k ≡ Some c → get_or s.vars k 0 ≡ initial_value d c
  pub cells : All (All (All (λ x. x ≡ 0))) s.relations

-- pairwise different rows of these relations: each number is that of a row, and no row of a relation is chosen twice
pub record AreRows (s : State) (relations : List RelId) (chosen : List ℕ) : Type 0 where
  pub as_many : length chosen ≡ length relations
  pub each : (k : ℕ) (r : RelId) → slice_get relations k ≡ Some r → get_or chosen k 0 < length (rows_of s r)
  pub different : (j k : ℕ) (r : RelId) → slice_get relations j ≡ Some r → slice_get relations k ≡ Some r
      → get_or chosen j 0 ≡ get_or chosen k 0 → j ≡ k

-- the cells of the chosen rows
abbrev pub cells_of : State → List RelId → List ℕ → List (List ℕ)
cells_of s [] chosen = []
cells_of s (r ∷ relations) [] = []
cells_of s (r ∷ relations) (k ∷ chosen) = get_or (rows_of s r) k [] ∷ cells_of s relations chosen

-- the values of the state's variables, of the chosen rows and of the data parameters
abbrev pub values_at : State → List RelId → List ℕ → List ℕ → Values
values_at s relations chosen params = record { vars = s.vars; rows = cells_of s relations chosen; params = params }

-- some choice of pairwise different rows and of elements for the data parameters makes every literal hold
abbrev pub Meets : RawDb → State → Problem → Type 0
Meets d s p =
    (chosen : List ℕ) × (params : List ℕ) × AreRows s p.rows chosen × AreElements d p.params params
    × AllHold d (values_at s p.rows chosen params) p.literals

-- the state meets one of the formulas
abbrev pub MeetsAny : RawDb → State → List Problem → Type 0
MeetsAny d s formulas = Any (Meets d s) formulas
