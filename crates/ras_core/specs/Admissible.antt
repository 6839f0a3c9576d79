-- Where a cube comes from, and when it may become an entry.
use Rattle.std.specs.Prelude.{◌≡◌, ℕ, ◌+◌, ◌<◌, ◌≤◌, List, length, slice_get, Some}
use Rattle.std.specs.List.{remove}
use Rattle.ras_logic.specs.declared.raw_db.RawDb.{RawDb}
use Rattle.ras_logic.specs.declared.problem.Problem.{Problem}
use Rattle.ras_logic.specs.Databases.{IsDatabase}
use Rattle.ras_logic.specs.Formulas.{Fits, IsCube}
use Rattle.ras_system.specs.declared.state.State.{State}
use Rattle.ras_system.specs.declared.transition.Transition.{Transition}
use Rattle.ras_system.specs.Systems.{SystemParts}
use Rattle.ras_system.specs.States.{IsInitial, Meets, MeetsAny}
use Rattle.ras_extension.specs.Reaching.{IsStateOf, Leads}
use Rattle.ras_core.specs.declared.origin.Origin.{Origin}
use Rattle.ras_core.specs.declared.origin.Origin.TheVariants.{Goal, Step}

-- a cube of the system's shape
pub record IsFormula (system : SystemParts) (cube : Problem) : Type 0 where
  pub fits : Fits system.shape cube
  pub is_cube : IsCube cube

-- every state of the cube leads by the transition into the target
abbrev pub AllLead : SystemParts → ℕ → Problem → Problem → Type 0
AllLead system transition target cube = (d : RawDb) (s : State) → IsStateOf system cube d s → Leads system d s transition target

-- the cube without the literal of that number
abbrev pub without : ℕ → Problem → Problem
without k cube = record cube { literals = remove cube.literals k }

-- no more rows than the target and the transition's row parameters together; and whichever literal is left out, what remains
-- has a state that does not lead by the transition into the target
pub record IsTight (system : SystemParts) (transition : ℕ) (target cube : Problem) : Type 0 where
  pub rows : (t : Transition) → slice_get system.transitions transition ≡ Some t → length cube.rows ≤ length target.rows + length t.rows
  pub needed : (k : ℕ) → k < length cube.literals
      → (d : RawDb) × (s : State) × IsStateOf system (without k cube) d s × ¬ Leads system d s transition target

-- no initial state meets the cube
abbrev pub NoneIsInitial : SystemParts → Problem → Type 0
NoneIsInitial system cube = (d : RawDb) (s : State) → IsDatabase system.shape.schema d → IsInitial system d s → ¬ Meets d s cube

-- some initial state meets the cube
pub record SomeIsInitial (system : SystemParts) (cube : Problem) : Type 0 where
  pub d : RawDb
  pub state : State
  pub database : IsDatabase system.shape.schema d
  pub initial : IsInitial system d state
  pub meets : Meets d state cube

-- some state meets the cube, and none of the others and of the base
pub record HasNewState (system : SystemParts) (cube : Problem) (others base : List Problem) : Type 0 where
  pub d : RawDb
  pub state : State
  pub is_state : IsStateOf system cube d state
  pub no_other : ¬ MeetsAny d state others
  pub no_base : ¬ MeetsAny d state base

-- a formula whose states all lead by the transition into the entry of that number
pub record LeadsToEntry (system : SystemParts) (cubes : List Problem) (entry transition : ℕ) (cube : Problem) : Type 0 where
  pub formula : IsFormula system cube
  pub target : Problem
  pub known : slice_get cubes entry ≡ Some target
  pub leads : AllLead system transition target cube

-- among entries with these cubes, the cube comes from its origin: it is the goal, or it leads to the entry
abbrev pub ComesFrom : SystemParts → List Problem → Origin → Problem → Type 0
ComesFrom system cubes (Goal disjunct) cube = slice_get system.goals disjunct ≡ Some cube
ComesFrom system cubes (Step entry transition) cube = LeadsToEntry system cubes entry transition cube

-- the cube is tight for its origin; a goal is
abbrev pub IsTightFor : SystemParts → List Problem → Origin → Problem → Type 0
IsTightFor system cubes (Goal disjunct) cube = Unit {0}
IsTightFor system cubes (Step entry transition) cube = (target : Problem) → slice_get cubes entry ≡ Some target → IsTight system transition target cube

-- A cube that may become an entry behind entries with these cubes, kept or not: it comes from its origin and is tight for it,
-- no initial state meets it, and it has a state that meets no entry and no cube of the base.
pub record IsAdmissible (system : SystemParts) (cubes base : List Problem) (origin : Origin) (cube : Problem) : Type 0 where
  pub comes : ComesFrom system cubes origin cube
  pub tight : IsTightFor system cubes origin cube
  pub not_initial : NoneIsInitial system cube
  pub has_new : HasNewState system cube cubes base
