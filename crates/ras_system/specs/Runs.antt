-- Runs, violations, and when a system is safe.
use Rattle.std.specs.Prelude.{◌≡◌, List, [], ◌∷◌}
use Rattle.ras_logic.specs.declared.raw_db.RawDb.{RawDb}
use Rattle.ras_logic.specs.Databases.{IsDatabase}
use Rattle.ras_system.specs.declared.state.State.{State}
use Rattle.ras_system.specs.declared.choice.Choice.{Choice}
use Rattle.ras_system.specs.Systems.{SystemParts}
use Rattle.ras_system.specs.States.{IsInitial, MeetsAny}
use Rattle.ras_system.specs.Steps.{IsStep}

-- the choices lead from the first state to the last, one step after another
abbrev pub IsRun : SystemParts → RawDb → State → List Choice → State → Type 0
IsRun system d first [] last = last ≡ first
IsRun system d first (c ∷ choices) last = (mid : State) × IsStep system d first c mid × IsRun system d mid choices last

-- a run in a database from an initial state to a state that meets a goal
pub record IsViolation (system : SystemParts) (d : RawDb) (first : State) (choices : List Choice) (last : State) : Type 0 where
  pub database : IsDatabase system.shape.schema d
  pub initial : IsInitial system d first
  pub run : IsRun system d first choices last
  pub goal : MeetsAny d last system.goals

-- no run in any database is a violation
abbrev pub IsSafe : SystemParts → Type 0
IsSafe system = (d : RawDb) (first : State) (choices : List Choice) (last : State) → IsViolation system d first choices last → ⊥
