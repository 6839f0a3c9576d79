-- What a problem entails.
use Rattle.std.specs.Prelude.{List}
use Rattle.ras_logic.specs.declared.raw_db.RawDb.{RawDb}
use Rattle.ras_logic.specs.declared.values.Values.{Values}
use Rattle.ras_logic.specs.declared.problem.Problem.{Problem}
use Rattle.ras_logic.specs.Shapes.{ShapeParts}
use Rattle.ras_logic.specs.Databases.{IsDatabase}
use Rattle.ras_logic.specs.Truth.{Satisfies}
use Rattle.ras_system.specs.declared.state.State.{State}
use Rattle.ras_system.specs.States.{IsState, Meets, MeetsAny}
use Rattle.ras_steps.specs.declared.witness.Witness.{Witness}
use Rattle.ras_entail.specs.EscapeStates.{IsStateOfRows}

-- the states of the premise are among those of the list: in every database, each of its states that meets the premise meets
-- a cube of the list
abbrev pub IsAmong : ShapeParts → Problem → List Problem → Type 0
IsAmong shape premise list = (d : RawDb) (s : State) → IsDatabase shape.schema d → IsState shape d s → Meets d s premise → MeetsAny d s list

-- A state of a database that shows that the premise is not among the list: it has just the premise's rows in their order,
-- with values that satisfy the premise, and meets no cube of the list.
pub record Escapes (shape : ShapeParts) (premise : Problem) (list : List Problem) (w : Witness) : Type 0 where
  pub database : IsDatabase shape.schema w.db
  pub state : IsState shape w.db w.state
  pub values : Values
  pub satisfies : Satisfies shape w.db values premise
  pub rows : IsStateOfRows shape premise.rows values w.state
  pub meets : Meets w.db w.state premise
  pub none : ¬ MeetsAny w.db w.state list
