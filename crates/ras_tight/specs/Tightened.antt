-- Cubes of which no literal can be left out.
use Rattle.std.specs.Prelude.{◌≡◌, ℕ, ◌<◌, List, length}
use Rattle.ras_logic.specs.declared.raw_db.RawDb.{RawDb}
use Rattle.ras_logic.specs.declared.problem.Problem.{Problem}
use Rattle.ras_logic.specs.Databases.{IsDatabase}
use Rattle.ras_logic.specs.Formulas.{Fits}
use Rattle.ras_logic.specs.Shapes.{ShapeParts}
use Rattle.ras_system.specs.declared.state.State.{State}
use Rattle.ras_system.specs.States.{IsState, Meets, MeetsAny}
use Rattle.ras_core.specs.Admissible.{without}
use Rattle.ras_entail.specs.Entailment.{IsAmong}

-- some state of the formula meets no cube of the list
pub record SomeEscapes (shape : ShapeParts) (p : Problem) (list : List Problem) : Type 0 where
  pub d : RawDb
  pub state : State
  pub database : IsDatabase shape.schema d
  pub is_state : IsState shape d state
  pub meets : Meets d state p
  pub none : ¬ MeetsAny d state list

-- A formula with the cube's rows that the cube's states meet. Its states are among the list; whichever literal is left out,
-- some state of what remains is not.
pub record IsTightened (shape : ShapeParts) (cube : Problem) (list : List Problem) (tight : Problem) : Type 0 where
  pub fits : Fits shape tight
  pub rows : tight.rows ≡ cube.rows
  pub weaker : (d : RawDb) (s : State) → Meets d s cube → Meets d s tight
  pub among : IsAmong shape tight list
  pub needed : (k : ℕ) → k < length tight.literals → SomeEscapes shape (without k tight) list
