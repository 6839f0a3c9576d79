-- Invariants of the search backwards from the goals.
use Rattle.std.specs.Prelude.{List}
use Rattle.ras_logic.specs.declared.raw_db.RawDb.{RawDb}
use Rattle.ras_logic.specs.declared.problem.Problem.{Problem}
use Rattle.ras_logic.specs.Databases.{IsDatabase}
use Rattle.ras_system.specs.declared.state.State.{State}
use Rattle.ras_system.specs.declared.choice.Choice.{Choice}
use Rattle.ras_system.specs.Systems.{SystemParts}
use Rattle.ras_system.specs.States.{IsState, IsInitial, MeetsAny}
use Rattle.ras_system.specs.Steps.{IsStep}

-- no initial state meets a formula; each state of a goal does; and so does each state with a step to a state that does
pub record IsInvariant (system : SystemParts) (formulas : List Problem) : Type 0 where
  pub initial : (d : RawDb) (s : State) → IsDatabase system.shape.schema d → IsInitial system d s → MeetsAny d s formulas → ⊥
  pub goals : (d : RawDb) (s : State) → IsDatabase system.shape.schema d → IsState system.shape d s
      → MeetsAny d s system.goals → MeetsAny d s formulas
  pub steps : (d : RawDb) (s : State) (c : Choice) (next : State) → IsDatabase system.shape.schema d → IsState system.shape d s
      → IsStep system d s c next → MeetsAny d next formulas → MeetsAny d s formulas
