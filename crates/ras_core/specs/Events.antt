-- Where each event is allowed, and what it leaves.
use Rattle.std.specs.Prelude.{◌≡◌, ◌≢◌, ℕ, ◌<◌, true, false, List, length, Some, None, All, Any, ◌⊎◌}
use Rattle.ras_logic.specs.declared.raw_db.RawDb.{RawDb}
use Rattle.ras_logic.specs.declared.problem.Problem.{Problem}
use Rattle.ras_system.specs.declared.state.State.{State}
use Rattle.ras_system.specs.Systems.{SystemParts}
use Rattle.ras_system.specs.States.{Meets, MeetsAny}
use Rattle.ras_extension.specs.Reaching.{IsStateIn, IsStateOf, Leads}
use Rattle.ras_core.specs.declared.origin.Origin.{Origin}
use Rattle.ras_core.specs.declared.origin.Origin.TheVariants.{Goal, Step}
use Rattle.ras_core.specs.declared.work.Work.TheVariants as work
use Rattle.ras_core.specs.declared.event.Event.{Event}
use Rattle.ras_core.specs.declared.event.Event.TheVariants as event
use Rattle.ras_core.specs.CoreStates.{EntryParts, CoreParts, IsEntry, IsKeptEntry, IsAt, IsQuiet, cubes_of, with_work, dropped, changed, submit, admit}
use Rattle.ras_core.specs.Admissible.{ComesFrom, SomeIsInitial, IsAdmissible}

-- someone works on the origin: there is such a goal, or the entry is kept and taken
abbrev pub IsOpen : CoreParts → Origin → Type 0
IsOpen s (Goal disjunct) = disjunct < length s.submitted
IsOpen s (Step entry transition) = (e : EntryParts) × IsAt s entry work.Taken e

-- the reasons are kept entries
pub record AreKept (s : CoreParts) (reasons : List ℕ) : Type 0 where
  pub each : All (λ (r : ℕ). (e : EntryParts) × IsKeptEntry s r e) reasons

-- each state of the cube meets one of the reasons or the base
abbrev pub IsReasoned : SystemParts → CoreParts → Problem → List ℕ → Type 0
IsReasoned system s cube reasons = (d : RawDb) (state : State) → IsStateOf system cube d state
    → Any (λ (r : ℕ). (e : EntryParts) × IsEntry s r e × Meets d state e.cube) reasons ⊎ MeetsAny d state s.base

-- each state of the one entry meets the other
abbrev pub IsInside : SystemParts → CoreParts → ℕ → ℕ → Type 0
IsInside system s entry by = (inner outer : EntryParts) → IsEntry s entry inner → IsEntry s by outer
    → (d : RawDb) (state : State) → IsStateOf system inner.cube d state → Meets d state outer.cube

-- each state that leads into the entry by some transition meets one of its submissions
abbrev pub IsWorkedOut : SystemParts → EntryParts → Type 0
IsWorkedOut system e = (d : RawDb) (state : State) (transition : ℕ) → IsStateIn system d state → Leads system d state transition e.cube
    → MeetsAny d state e.submissions

-- what allows an event by numbers, and by what is kept, taken, submitted or found
abbrev pub BookkeepingAllows : ℕ → CoreParts → Event → Type 0
BookkeepingAllows budget s (event.Claim entry) = (e : EntryParts) × IsAt s entry work.Free e
BookkeepingAllows budget s (event.Admit origin cube) = IsOpen s origin × (s.hit ≡ None) × (length s.entries < budget)
BookkeepingAllows budget s (event.Skip origin cube reasons) = IsOpen s origin × AreKept s reasons
BookkeepingAllows budget s (event.Drop entry by) = (entry ≢ by) × ((e : EntryParts) × IsKeptEntry s entry e) × ((e : EntryParts) × IsKeptEntry s by e)
BookkeepingAllows budget s (event.Done entry) = (e : EntryParts) × IsAt s entry work.Taken e
BookkeepingAllows budget s (event.GiveBack entry) = (e : EntryParts) × IsAt s entry work.Taken e
BookkeepingAllows budget s (event.Hit origin cube) = IsOpen s origin × (s.hit ≡ None)
BookkeepingAllows budget s (event.Spill origin cube) = IsOpen s origin × (s.hit ≡ None) × (s.spill ≡ None) × (length s.entries ≡ budget)
BookkeepingAllows budget s event.Idle = IsQuiet s × (s.reported ≡ false)

-- what allows it by the states of cubes
abbrev pub StatesAllow : SystemParts → CoreParts → Event → Type 0
StatesAllow system s (event.Claim entry) = Unit {0}
StatesAllow system s (event.Admit origin cube) = IsAdmissible system (cubes_of s) s.base origin cube
StatesAllow system s (event.Skip origin cube reasons) = ComesFrom system (cubes_of s) origin cube × IsReasoned system s cube reasons
StatesAllow system s (event.Drop entry by) = IsInside system s entry by
StatesAllow system s (event.Done entry) = (e : EntryParts) → IsEntry s entry e → IsWorkedOut system e
StatesAllow system s (event.GiveBack entry) = Unit {0}
StatesAllow system s (event.Hit origin cube) = ComesFrom system (cubes_of s) origin cube × SomeIsInitial system cube
StatesAllow system s (event.Spill origin cube) = IsAdmissible system (cubes_of s) s.base origin cube
StatesAllow system s event.Idle = Unit {0}

-- where an event is allowed in a search of the system with this budget
pub record Allowed (system : SystemParts) (budget : ℕ) (s : CoreParts) (e : Event) : Type 0 where
  pub bookkeeping : BookkeepingAllows budget s e
  pub states : StatesAllow system s e

-- what an event leaves
abbrev pub after : CoreParts → Event → CoreParts
after s (event.Claim entry) = changed (with_work work.Taken) entry s
after s (event.Admit origin cube) = submit origin cube (admit origin cube s)
after s (event.Skip origin cube reasons) = submit origin cube s
after s (event.Drop entry by) = changed dropped entry s
after s (event.Done entry) = changed (with_work work.Done) entry s
after s (event.GiveBack entry) = changed (with_work work.Free) entry s
after s (event.Hit origin cube) = record s { hit = Some (record { cube = cube; origin = origin }) }
after s (event.Spill origin cube) = record s { spill = Some (record { cube = cube; origin = origin }) }
after s event.Idle = record s { reported = true }
