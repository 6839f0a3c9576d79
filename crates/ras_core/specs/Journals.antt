-- Lawful journals, and the state that they leave.
use Rattle.std.specs.Prelude.{◌≡◌, ℕ, List, [], ◌∷◌, length, All}
use Rattle.ras_logic.specs.declared.raw_db.RawDb.{RawDb}
use Rattle.ras_logic.specs.declared.problem.Problem.{Problem}
use Rattle.ras_system.specs.declared.state.State.{State}
use Rattle.ras_system.specs.declared.choice.Choice.{Choice}
use Rattle.ras_system.specs.Systems.{SystemParts}
use Rattle.ras_system.specs.States.{MeetsAny}
use Rattle.ras_system.specs.Steps.{IsStep}
use Rattle.ras_extension.specs.Reaching.{IsStateIn}
use Rattle.ras_core.specs.declared.event.Event.{Event}
use Rattle.ras_core.specs.CoreStates.{CoreParts, start}
use Rattle.ras_core.specs.Admissible.{IsFormula, NoneIsInitial}
use Rattle.ras_core.specs.Events.{Allowed, after}

-- what a program keeps of the events: these, and room for so many more
pub record JournalParts : Type 0 where
  pub events : List Event
  pub room : ℕ

-- Formulas that a search may begin with: no initial state meets one, and each state with a step to a state that meets one
-- meets one.
pub record IsBase (system : SystemParts) (base : List Problem) : Type 0 where
  pub formulas : All (IsFormula system) base
  pub initial : All (NoneIsInitial system) base
  pub steps : (d : RawDb) (s : State) (c : Choice) (next : State) → IsStateIn system d s → IsStep system d s c next
      → MeetsAny d next base → MeetsAny d s base

-- the state after the events
abbrev pub replay_from : CoreParts → List Event → CoreParts
replay_from s [] = s
replay_from s (e ∷ events) = replay_from (after s e) events

-- each event is allowed after those before it
abbrev pub IsLawfulFrom : SystemParts → ℕ → CoreParts → List Event → Type 0
IsLawfulFrom system budget s [] = Unit {0}
IsLawfulFrom system budget s (e ∷ events) = Allowed system budget s e × IsLawfulFrom system budget (after s e) events

-- the state with which a search of the system begins
abbrev pub first_state : SystemParts → List Problem → CoreParts
first_state system base = start (length system.goals) base

abbrev pub IsLawful : SystemParts → ℕ → List Problem → List Event → Type 0
IsLawful system budget base journal = IsLawfulFrom system budget (first_state system base) journal

-- the journal is lawful for the system, the budget and the base, and leaves this state
pub record Replays (system : SystemParts) (budget : ℕ) (base : List Problem) (journal : List Event) (s : CoreParts) : Type 0 where
  pub is_base : IsBase system base
  pub lawful : IsLawful system budget base journal
  pub state : s ≡ replay_from (first_state system base) journal
