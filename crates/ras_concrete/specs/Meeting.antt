-- Problems that a state meets in a database that extends its own.
use Rattle.std.specs.Prelude.{◌≡◌, ℕ, List, slice_get, Some}
use Rattle.ras_logic.specs.declared.raw_db.RawDb.{RawDb}
use Rattle.ras_logic.specs.declared.problem.Problem.{Problem}
use Rattle.ras_logic.specs.Shapes.{ShapeParts}
use Rattle.ras_logic.specs.Databases.{IsDatabase, Extends}
use Rattle.ras_logic.specs.Truth.{AreElements, AllHold}
use Rattle.ras_system.specs.declared.state.State.{State}
use Rattle.ras_system.specs.States.{AreRows, values_at, Meets}
use Rattle.ras_steps.specs.Choosing.{MeetsBy}
use Rattle.ras_concrete.specs.declared.extending.There.{There}

-- the state meets one of the cubes by these rows
pub record IsMetBySome (d : RawDb) (s : State) (cubes : List Problem) (rows : List ℕ) : Type 0 where
  pub place : ℕ
  pub cube : Problem
  pub known : slice_get cubes place ≡ Some cube
  pub by : MeetsBy d s cube rows

-- in a database that extends this one, the state meets the problem by these rows and elements
pub record IsMetThere (shape : ShapeParts) (d : RawDb) (s : State) (p : Problem) (there : There) : Type 0 where
  pub database : IsDatabase shape.schema there.db
  pub extends : Extends there.db d
  pub rows : AreRows s p.rows there.rows
  pub params : AreElements there.db p.params there.params
  pub literals : AllHold there.db (values_at s p.rows there.rows there.params) p.literals

-- in no database that extends this one the state meets the problem
abbrev pub CannotMeet : ShapeParts → RawDb → State → Problem → Type 0
CannotMeet shape d s p = (larger : RawDb) → IsDatabase shape.schema larger → Extends larger d → ¬ Meets larger s p
