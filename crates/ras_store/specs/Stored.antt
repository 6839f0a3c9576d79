-- What the program keeps beside what contracts see: room in the journal for the events that take no memory, the pointer that
-- the next ticket of a free entry carries, and the most rows that a cube has.
use Rattle.std.specs.Prelude.{◌≡◌, ℕ, ◌+◌, ◌≤◌, List, [], ◌∷◌, length, slice_get, Option, Some, All, Bool, true, false}
use Rattle.ras_logic.specs.declared.problem.Problem.{Problem}
use Rattle.ras_system.specs.Systems.{SystemParts}
use Rattle.ras_steps.specs.declared.witness.Witness.{Witness}
use Rattle.ras_core.specs.declared.work.Work.{Work}
use Rattle.ras_core.specs.declared.work.Work.TheVariants as work
use Rattle.ras_core.specs.declared.event.Event.{Event}
use Rattle.ras_core.specs.CoreStates.{EntryParts, CoreParts, IsEntry, cubes_of}
use Rattle.ras_core.specs.Bookkeeping.{SearchParts}
use Rattle.ras_store.specs.declared.found.Found.{Found}
use Rattle.ras_store.specs.Stores.{StoreParts}
use Rattle.ras_store.specs.Lawful.{IsLawfulStore}

-- the pointer of that number is there
pub record IsReadyAt (ready : List (Option Problem)) (number : ℕ) : Type 0 where
  pub cube : Problem
  pub at : slice_get ready number ≡ Some (Some cube)

-- what a contract sees of the fields
abbrev pub seen : SystemParts → SearchParts → List Event → List Witness → List ℕ → Option Found → Option Found → StoreParts
seen system core journal witnesses serials hit spill = record {
  system = system;
  budget = core.budget;
  journal = journal;
  state = core.state;
  witnesses = witnesses;
  serials = serials;
  hit = hit;
  spill = spill;
}

-- how many events may come of an entry that take no memory: that it is claimed, done and dropped
abbrev pub owes_at : Bool → Work → ℕ
owes_at false w = 0
owes_at true work.Free = 3
owes_at true work.Taken = 2
owes_at true work.Done = 1

abbrev pub owes : EntryParts → ℕ
owes e = owes_at e.kept e.work

abbrev pub owed_by : List EntryParts → ℕ
owed_by [] = 0
owed_by (e ∷ es) = owes e + owed_by es

abbrev pub unreported : Bool → ℕ
unreported true = 0
unreported false = 1

-- and how many in all, with the report of idleness
abbrev pub owed : CoreParts → ℕ
owed s = owed_by s.entries + unreported s.reported

pub record IsStored (s : StoreParts) (pointers : List (Option Problem)) (left most : ℕ) : Type 0 where
  pub lawful : IsLawfulStore s
  pub ready_are : length pointers ≡ length s.state.entries
  pub ready : (i : ℕ) (e : EntryParts) → IsEntry s.state i e → e.work ≡ work.Free → slice_get pointers i ≡ Some (Some e.cube)
  pub rows : All (λ (cube : Problem). length cube.rows ≤ most) (cubes_of s.state)
  pub room : owed s.state ≤ left
