-- What holds of the state of a search after every lawful journal.
use Rattle.std.specs.Prelude.{◌≡◌, ℕ, ◌≤◌, true, length, take, slice_get, Some, All}
use Rattle.ras_logic.specs.declared.problem.Problem.{Problem}
use Rattle.ras_system.specs.Systems.{SystemParts}
use Rattle.ras_core.specs.declared.work.Work.TheVariants.{Done}
use Rattle.ras_core.specs.CoreStates.{FoundParts, EntryParts, CoreParts, IsEntry, cubes_of}
use Rattle.ras_core.specs.Covered.{AreCovered}
use Rattle.ras_core.specs.Admissible.{ComesFrom, SomeIsInitial, IsAdmissible}
use Rattle.ras_core.specs.Events.{IsWorkedOut}
use Rattle.ras_core.specs.Journals.{IsBase}

pub record IsSound (system : SystemParts) (budget : ℕ) (s : CoreParts) : Type 0 where
  -- each entry was admissible behind those before it
  pub entries : (i : ℕ) (e : EntryParts) → IsEntry s i e → IsAdmissible system (take i (cubes_of s)) s.base e.origin e.cube
  -- the states of each entry, of each submission and of each submitted goal are covered by the kept entries and the base
  pub covered : (i : ℕ) (e : EntryParts) → IsEntry s i e → AreCovered system s e.cube
  pub submissions : (i : ℕ) (e : EntryParts) → IsEntry s i e → All (AreCovered system s) e.submissions
  pub goals : (j : ℕ) (goal : Problem) → slice_get s.submitted j ≡ Some true → slice_get system.goals j ≡ Some goal → AreCovered system s goal
  -- what leads into a done entry is among its submissions
  pub worked_out : (i : ℕ) (e : EntryParts) → IsEntry s i e → e.work ≡ Done → IsWorkedOut system e
  -- some initial state meets the hit, and the spill is admissible behind all entries, which number the budget
  pub hit : (f : FoundParts) → s.hit ≡ Some f → ComesFrom system (cubes_of s) f.origin f.cube × SomeIsInitial system f.cube
  pub spill : (f : FoundParts) → s.spill ≡ Some f → IsAdmissible system (cubes_of s) s.base f.origin f.cube × (length s.entries ≡ budget)
  pub few : length s.entries ≤ budget
  pub each_goal : length s.submitted ≡ length system.goals
  pub base : IsBase system s.base
