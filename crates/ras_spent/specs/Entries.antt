-- When an evidence of a spent budget is good.
use Rattle.std.specs.Prelude.{◌≡◌, ℕ, List, [], ◌∷◌, ◌++◌, All, take, slice_get, Some}
use Rattle.ras_logic.specs.declared.raw_db.RawDb.{RawDb}
use Rattle.ras_logic.specs.declared.problem.Problem.{Problem}
use Rattle.ras_logic.specs.Formulas.{Fits}
use Rattle.ras_logic.specs.Databases.{IsDatabase}
use Rattle.ras_system.specs.declared.state.State.{State}
use Rattle.ras_system.specs.Systems.{SystemParts}
use Rattle.ras_system.specs.States.{IsState, Meets, MeetsAny}
use Rattle.ras_system.specs.Runs.{IsRun}
use Rattle.ras_steps.specs.declared.run.Run.{Run}
use Rattle.ras_steps.specs.declared.witness.Witness.{Witness}
use Rattle.ras_evidence.specs.declared.value.Entry.{Entry}
use Rattle.ras_entail.specs.Starts.{MeetsAtStart}

-- the state meets the formula of none of the entries
abbrev pub MeetsNoEntry : RawDb → State → List Entry → Type 0
MeetsNoEntry d s entries = All (λ e. ¬ Meets d s e.cube) entries

-- the run leads to a last state that meets a goal
abbrev pub LeadsToGoal : SystemParts → RawDb → Run → Type 0
LeadsToGoal system d run = (last : State) × IsRun system d run.start run.choices last × MeetsAny d last system.goals

-- an initial state of some database meets the formula
abbrev pub IsMetAtStart : SystemParts → Problem → Type 0
IsMetAtStart system formula = (w : Witness) × MeetsAtStart system formula w

-- The formula fits, and no initial state of any database meets it.
pub record IsAway (system : SystemParts) (formula : Problem) : Type 0 where
  pub fits : Fits system.shape formula
  pub away : ¬ IsMetAtStart system formula

-- An entry behind others is good up to its run: its first state is one of its database, meets its formula, and none of theirs.
pub record StartsWell (system : SystemParts) (earlier : List Entry) (e : Entry) : Type 0 where
  pub formula : IsAway system e.cube
  pub database : IsDatabase system.shape.schema e.db
  pub state : IsState system.shape e.db e.run.start
  pub own : Meets e.db e.run.start e.cube
  pub new : MeetsNoEntry e.db e.run.start earlier

-- An entry behind others is good.
pub record IsGoodEntry (system : SystemParts) (earlier : List Entry) (e : Entry) : Type 0 where
  pub starts : StartsWell system earlier e
  pub leads : LeadsToGoal system e.db e.run

-- each is good behind those before it
abbrev pub AreGoodEntries : SystemParts → List Entry → Type 0
AreGoodEntries system entries = (number : ℕ) (e : Entry) → slice_get entries number ≡ Some e → IsGoodEntry system (take number entries) e

-- The entries and, as the last one, the spill are good.
abbrev pub IsGoodSpent : SystemParts → List Entry → Entry → Type 0
IsGoodSpent system entries spill = AreGoodEntries system (entries ++ spill ∷ [])
