-- The cubes of the cases of a problem.
use Rattle.std.specs.Prelude.{◌≡◌, ℕ, ◌<◌, List, slice_get, Some}
use Rattle.ras_logic.specs.declared.problem.Problem.{Problem}
use Rattle.ras_logic.specs.Shapes.{ShapeParts}
use Rattle.ras_logic.specs.Formulas.{IsCube}
use Rattle.ras_split.specs.Among.{IsAmong}
use Rattle.ras_split.specs.Standing.{CaseParts}
use Rattle.ras_cubes.specs.Dues.{IsCubeFor}
use Rattle.ras_cover.specs.Within.{IsWithin}

-- cubes that stand for those of the first n cases
pub record AreCubesTo (shape : ShapeParts) (cases : List CaseParts) (n : ℕ) (cubes : List Problem) : Type 0 where
  pub each : (p : Problem) → IsAmong cubes p → (c : CaseParts) × IsAmong cases c × IsCubeFor shape c p
  pub all : (k : ℕ) (c : CaseParts) → k < n → slice_get cases k ≡ Some c → (p : Problem) × IsCubeFor shape c p × IsWithin shape p cubes

-- the problem's rows and literals, none of which names a data parameter
pub record IsOwnCube (p own : Problem) : Type 0 where
  pub cube : IsCube own
  pub rows : own.rows ≡ p.rows
  pub literals : own.literals ≡ p.literals

-- a case of the problem over the shape, whose cube is one
pub record IsCaseIn (shape : ShapeParts) (p : Problem) (c : CaseParts) : Type 0 where
  pub shape_is : c.closure.table.shape ≡ shape
  pub problem_is : c.closure.table.problem ≡ p
