-- What a search leaves of a store as it goes on.
use Rattle.std.specs.Prelude.{◌≡◌, ℕ, ◌≤◌, true, List, ◌++◌, length, slice_get, Some, Contains}
use Rattle.ras_logic.specs.declared.problem.Problem.{Problem}
use Rattle.ras_core.specs.declared.event.Event.{Event}
use Rattle.ras_core.specs.declared.work.Work.TheVariants.{Free}
use Rattle.ras_core.specs.CoreStates.{EntryParts, CoreParts, IsEntry}
use Rattle.ras_store.specs.Stores.{StoreParts}

-- An entry as it is later: it may have been dropped, and may have more submissions; the work on it is as it was.
pub record IsLater (before now : EntryParts) : Type 0 where
  pub cube : now.cube ≡ before.cube
  pub work : now.work ≡ before.work
  pub kept : now.kept ≡ true → before.kept ≡ true
  pub submissions : (cube : Problem) → Contains before.submissions cube → Contains now.submissions cube

-- A state as it is later, while no entry was claimed, given back or done: there may be more entries, which are free.
pub record StateGoesOn (before now : CoreParts) : Type 0 where
  pub goals : (goal : ℕ) → slice_get before.submitted goal ≡ Some true → slice_get now.submitted goal ≡ Some true
  pub entries : (number : ℕ) (e : EntryParts) → IsEntry before number e → (f : EntryParts) × IsEntry now number f × IsLater e f
  pub more : (number : ℕ) (f : EntryParts) → IsEntry now number f → length before.entries ≤ number → f.work ≡ Free

-- a store as it is later, by more events of that kind
pub record GoesOn (before now : StoreParts) : Type 0 where
  pub system : now.system ≡ before.system
  pub budget : now.budget ≡ before.budget
  pub events : List Event
  pub journal : now.journal ≡ before.journal ++ events
  pub state : StateGoesOn before.state now.state
  pub serials : (number serial : ℕ) → slice_get before.serials number ≡ Some serial → slice_get now.serials number ≡ Some serial
