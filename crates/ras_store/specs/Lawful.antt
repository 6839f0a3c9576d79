-- What holds of every store.
use Rattle.std.specs.Prelude.{◌≡◌, ℕ, ◌≤◌, List, [], length, take, slice_get, Some}
use Rattle.ras_logic.specs.declared.problem.Problem.{Problem}
use Rattle.ras_system.specs.Systems.{SystemParts, IsSystem}
use Rattle.ras_system.specs.States.{MeetsAny}
use Rattle.ras_steps.specs.declared.witness.Witness.{Witness}
use Rattle.ras_core.specs.CoreStates.{cubes_of}
use Rattle.ras_core.specs.Journals.{Replays}
use Rattle.ras_store.specs.declared.found.Found.{Found}
use Rattle.ras_store.specs.Sites.{IsWitness, IsInitialWitness}
use Rattle.ras_store.specs.Stores.{StoreParts, found_of}

-- the witness is a state of the cube that meets none of the others
pub record IsNewWitness (system : SystemParts) (cube : Problem) (others : List Problem) (w : Witness) : Type 0 where
  pub is : IsWitness system cube w
  pub new : ¬ MeetsAny w.db w.state others

-- The journal is lawful for the system, the budget and the base, which is empty, and the state is what it leaves. Each entry
-- has a witness, a state that meets its cube and no earlier entry; that of the hit is initial, and that of the spill meets
-- no entry.
pub record IsLawfulStore (s : StoreParts) : Type 0 where
  pub system : IsSystem s.system
  pub budget : s.budget ≤ 4000
  pub replays : Replays s.system s.budget s.state.base s.journal s.state
  pub no_base : s.state.base ≡ []
  pub witnesses_are : length s.witnesses ≡ length s.state.entries
  pub serials_are : length s.serials ≡ length s.state.entries
  pub witnesses : (i : ℕ) (cube : Problem) (w : Witness) → slice_get (cubes_of s.state) i ≡ Some cube → slice_get s.witnesses i ≡ Some w
      → IsNewWitness s.system cube (take i (cubes_of s.state)) w
  pub hit_is : s.state.hit ≡ found_of s.hit
  pub hit : (f : Found) → s.hit ≡ Some f → IsInitialWitness s.system f.cube f.witness
  pub spill_is : s.state.spill ≡ found_of s.spill
  pub spill : (f : Found) → s.spill ≡ Some f → IsNewWitness s.system f.cube (cubes_of s.state) f.witness
