-- Runs along a chain of formulas.
use Rattle.std.specs.Prelude.{◌≡◌, ℕ, List, [], ◌∷◌, ◌++◌, map, slice_get, Option, Some, None}
use Rattle.ras_logic.specs.declared.raw_db.RawDb.{RawDb}
use Rattle.ras_logic.specs.declared.problem.Problem.{Problem}
use Rattle.ras_logic.specs.Databases.{IsDatabase, Extends}
use Rattle.ras_system.specs.declared.state.State.{State}
use Rattle.ras_system.specs.declared.choice.Choice.{Choice}
use Rattle.ras_system.specs.declared.transition.Transition.{Transition}
use Rattle.ras_system.specs.Systems.{SystemParts}
use Rattle.ras_system.specs.States.{Meets, MeetsAny}
use Rattle.ras_system.specs.Steps.{IsStep}
use Rattle.ras_system.specs.Runs.{IsRun}
use Rattle.ras_steps.specs.declared.witness.Witness.{Witness}
use Rattle.ras_extension.specs.Reaching.{IsStateOf}
use Rattle.ras_backwards.specs.Leading.{choice_by}
use Rattle.ras_core.specs.declared.link.Link.{Link}
use Rattle.ras_core.specs.Chains.{IsChain}
use Rattle.ras_concrete.specs.declared.here.StepHere.{StepHere}
use Rattle.ras_concrete.specs.declared.following.Led.{Led}
use Rattle.ras_concrete.specs.declared.concrete.Concrete.{Concrete}

-- a step by the transition to a state that meets the cube
pub record IsStepHere (system : SystemParts) (d : RawDb) (s : State) (transition : ℕ) (cube : Problem) (here : StepHere) : Type 0 where
  pub by : here.choice.transition ≡ transition
  pub step : IsStep system d s here.choice here.next
  pub meets : Meets d here.next cube

-- the choice of these rows and elements is a step of the transition of this number
pub record IsStepBy (system : SystemParts) (d : RawDb) (s : State) (number : ℕ) (rows values : List ℕ) : Type 0 where
  pub transition : Transition
  pub known : slice_get system.transitions number ≡ Some transition
  pub next : State
  pub step : IsStep system d s (choice_by number transition rows values) next

-- in a database that extends this one, a step by the transition to a state that meets the cube
pub record IsLed (system : SystemParts) (d : RawDb) (s : State) (transition : ℕ) (cube : Problem) (led : Led) : Type 0 where
  pub database : IsDatabase system.shape.schema led.db
  pub extends : Extends led.db d
  pub by : led.choice.transition ≡ transition
  pub step : IsStep system led.db s led.choice led.next
  pub meets : Meets led.db led.next cube

-- a chain that begins with a formula which the state meets
pub record IsChainFrom (system : SystemParts) (links : List Link) (w : Witness) : Type 0 where
  pub from : Problem
  pub chain : IsChain system from links
  pub state : IsStateOf system from w.db w.state

-- the transitions of the choices in order, and none behind them
abbrev pub ended_transitions : List Choice → List (Option ℕ)
ended_transitions choices = map (λ (c : Choice). Some c.transition) choices ++ None ∷ []

-- In a database that extends the witness's, a run from its state follows the transitions of the links to a state that meets
-- a goal.
pub record IsConcrete (system : SystemParts) (links : List Link) (w : Witness) (c : Concrete) : Type 0 where
  pub database : IsDatabase system.shape.schema c.db
  pub extends : Extends c.db w.db
  pub start : c.run.start ≡ w.state
  pub follows : map (λ (l : Link). l.transition) links ≡ ended_transitions c.run.choices
  pub last : State
  pub run : IsRun system c.db c.run.start c.run.choices last
  pub goal : MeetsAny c.db last system.goals
