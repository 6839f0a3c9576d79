-- What is compared in a holding of the store.
use Rattle.std.specs.Prelude.{◌≡◌, ℕ, ◌<◌, ◌≤◌, List, map, slice_get, Some}
use Rattle.ras_logic.specs.declared.raw_db.RawDb.{RawDb}
use Rattle.ras_logic.specs.declared.problem.Problem.{Problem}
use Rattle.ras_system.specs.declared.state.State.{State}
use Rattle.ras_system.specs.States.{MeetsAny}
use Rattle.ras_core.specs.CoreStates.{EntryParts}

-- the cubes of entries
abbrev pub cubes_in : List EntryParts → List Problem
cubes_in es = map (λ (e : EntryParts). e.cube) es

-- the state meets none of the cubes
pub record MeetsNone (d : RawDb) (state : State) (cubes : List Problem) : Type 0 where
  pub none : ¬ MeetsAny d state cubes

-- the cube is none of those from one number up to another
pub record IsNotAmong (cubes : List Problem) (from to : ℕ) (cube : Problem) : Type 0 where
  pub none : (k : ℕ) → from ≤ k → k < to → slice_get cubes k ≡ Some cube → ⊥
