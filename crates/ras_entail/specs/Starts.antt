-- Initial states that meet a formula.
use Rattle.ras_logic.specs.declared.raw_db.RawDb.{RawDb}
use Rattle.ras_logic.specs.declared.values.Values.{Values}
use Rattle.ras_logic.specs.declared.problem.Problem.{Problem}
use Rattle.ras_logic.specs.Shapes.{ShapeParts}
use Rattle.ras_logic.specs.Databases.{IsDatabase}
use Rattle.ras_logic.specs.Truth.{Satisfies}
use Rattle.ras_system.specs.declared.state.State.{State}
use Rattle.ras_system.specs.Systems.{SystemParts}
use Rattle.ras_system.specs.States.{IsInitial, Meets}
use Rattle.ras_steps.specs.declared.witness.Witness.{Witness}
use Rattle.ras_entail.specs.EscapeStates.{IsStateOfRows}

-- an initial state of a database that has just the formula's rows, and meets the formula
pub record MeetsAtStart (system : SystemParts) (formula : Problem) (w : Witness) : Type 0 where
  pub database : IsDatabase system.shape.schema w.db
  pub initial : IsInitial system w.db w.state
  pub values : Values
  pub rows : IsStateOfRows system.shape formula.rows values w.state
  pub meets : Meets w.db w.state formula

-- in no database an initial state meets the formula
abbrev pub NoneMeetsAtStart : SystemParts → Problem → Type 0
NoneMeetsAtStart system formula = (d : RawDb) (s : State) → IsDatabase system.shape.schema d → IsInitial system d s → ¬ Meets d s formula

-- a database, and a state with just the problem's rows, by values that satisfy the problem
pub record IsModelState (shape : ShapeParts) (problem : Problem) (w : Witness) : Type 0 where
  pub database : IsDatabase shape.schema w.db
  pub values : Values
  pub satisfies : Satisfies shape w.db values problem
  pub rows : IsStateOfRows shape problem.rows values w.state
