-- The core state as a program keeps it: with its budget, and with how many of the first entries need not be looked at again.
use Rattle.std.specs.Prelude.{◌≡◌, ◌≢◌, ℕ, ◌<◌, ◌≤◌, Bool, true, List, length, slice_get, Some}
use Rattle.ras_core.specs.declared.work.Work.TheVariants as work
use Rattle.ras_core.specs.declared.origin.Origin.{Origin}
use Rattle.ras_core.specs.declared.origin.Origin.TheVariants.{Goal, Step}
use Rattle.ras_core.specs.declared.event.Event.{Event}
use Rattle.ras_core.specs.declared.sought.Sought.{Sought}
use Rattle.ras_core.specs.declared.sought.Sought.TheVariants as sought
use Rattle.ras_core.specs.Events.{after}
use Rattle.ras_core.specs.CoreStates.{EntryParts, CoreParts}

-- the state of a search, and how many entries it may have
pub record SearchParts : Type 0 where
  pub budget : ℕ
  pub state : CoreParts

-- the state after an event
abbrev pub with_event : SearchParts → Event → SearchParts
with_event s e = record s { state = after s.state e }

-- a kept entry on which nobody works, or one whose work is not done
abbrev pub IsSought : Sought → EntryParts → Type 0
IsSought sought.Free e = (e.kept ≡ true) × (e.work ≡ work.Free)
IsSought sought.Unfinished e = (e.kept ≡ true) × (e.work ≢ work.Done)

-- no entry before this number is such
abbrev pub NoneBefore : Sought → List EntryParts → ℕ → Type 0
NoneBefore what es n = (k : ℕ) (e : EntryParts) → k < n → slice_get es k ≡ Some e → ¬ IsSought what e

-- the number of the first entry that is such, or of all entries where none is
pub record IsFirst (what : Sought) (es : List EntryParts) (n : ℕ) : Type 0 where
  pub none : NoneBefore what es n
  pub within : n ≤ length es
  pub is : (e : EntryParts) → slice_get es n ≡ Some e → IsSought what e

-- What the program keeps: 64 marks for at most 64 goals, and entries within the budget and counted by a u32, of which so many
-- of the first are not free, and so many are finished or dropped.
pub record IsBooked (budget goals : ℕ) (marks : List Bool) (es : List EntryParts) (free_from unfinished_from : ℕ) : Type 0 where
  pub goals_fit : goals ≤ 64
  pub budget_fits : budget ≤ 4294967295
  pub marks_are : length marks ≡ 64
  pub few : length es ≤ budget
  pub counted : length es ≤ 4294967295
  pub free : NoneBefore sought.Free es free_from
  pub free_within : free_from ≤ length es
  pub unfinished : NoneBefore sought.Unfinished es unfinished_from
  pub unfinished_within : unfinished_from ≤ length es

-- the number of the origin is below these counts of goals and of entries
abbrev pub IsWithin : ℕ → ℕ → Origin → Type 0
IsWithin goals entries (Goal disjunct) = disjunct < goals
IsWithin goals entries (Step entry transition) = entry < entries
