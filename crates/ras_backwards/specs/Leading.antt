-- Where a state leads by one step in its own database, no larger one.
use Rattle.std.specs.Prelude.{◌≡◌, ℕ, List, take, length}
use Rattle.ras_logic.specs.declared.raw_db.RawDb.{RawDb}
use Rattle.ras_logic.specs.declared.problem.Problem.{Problem}
use Rattle.ras_system.specs.declared.state.State.{State}
use Rattle.ras_system.specs.declared.choice.Choice.{Choice}
use Rattle.ras_system.specs.declared.transition.Transition.{Transition}
use Rattle.ras_system.specs.States.{Meets}
use Rattle.ras_system.specs.Steps.{StepBy, IsStep}
use Rattle.ras_system.specs.Systems.{SystemParts}

-- in this database, a step by this transition leads from the state to one that meets the cube
pub record LeadsBy (d : RawDb) (s : State) (t : Transition) (cube : Problem) : Type 0 where
  pub choice : Choice
  pub next : State
  pub step : StepBy d t s choice next
  pub meets : Meets d next cube

-- in this database, a step by the transition of this number leads from the state to one that meets the cube
pub record LeadsIn (system : SystemParts) (d : RawDb) (s : State) (transition : ℕ) (cube : Problem) : Type 0 where
  pub choice : Choice
  pub next : State
  pub by : choice.transition ≡ transition
  pub step : IsStep system d s choice next
  pub meets : Meets d next cube

-- in this database, the step by this choice leads from the state to one that meets the cube
pub record LeadsByChoice (system : SystemParts) (d : RawDb) (s : State) (c : Choice) (cube : Problem) : Type 0 where
  pub next : State
  pub step : IsStep system d s c next
  pub meets : Meets d next cube

-- the choice of the first rows, as many as the transition has row parameters, and of these values
abbrev pub choice_by : ℕ → Transition → List ℕ → List ℕ → Choice
choice_by number t rows values = record { transition = number; rows = take (length t.rows) rows; values = values }
