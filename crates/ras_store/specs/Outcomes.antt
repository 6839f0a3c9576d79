-- What each answer of a call says: where it comes, and what it leaves. The conditions of the answers of one call exclude each
-- other and are all that there are, so each answer comes exactly where its condition holds.
use Rattle.std.specs.Prelude.{◌≡◌, ℕ, ◌<◌, true, false, List, [], ◌∷◌, length, slice_get, Some, None, ◌⊎◌}
use Rattle.ras_logic.specs.declared.problem.Problem.{Problem}
use Rattle.ras_steps.specs.declared.witness.Witness.{Witness}
use Rattle.ras_core.specs.declared.event.Event.TheVariants as event
use Rattle.ras_core.specs.declared.sought.Sought.TheVariants as sought
use Rattle.ras_core.specs.CoreStates.{EntryParts, IsEntry, IsQuiet, cubes_of}
use Rattle.ras_core.specs.Bookkeeping.{IsFirst}
use Rattle.ras_store.specs.declared.ticket.Ticket.{Ticket}
use Rattle.ras_store.specs.declared.named.Named.{Named}
use Rattle.ras_store.specs.declared.site.Site.{Site}
use Rattle.ras_store.specs.declared.outcome.Admitted.{Admitted}
use Rattle.ras_store.specs.declared.outcome.Admitted.TheVariants as admitted
use Rattle.ras_store.specs.declared.outcome.Skipped.{Skipped}
use Rattle.ras_store.specs.declared.outcome.Skipped.TheVariants as skipped
use Rattle.ras_store.specs.declared.outcome.Dropped.{Dropped}
use Rattle.ras_store.specs.declared.outcome.Dropped.TheVariants as dropped
use Rattle.ras_store.specs.declared.outcome.Finished.{Finished}
use Rattle.ras_store.specs.declared.outcome.Finished.TheVariants as finished
use Rattle.ras_store.specs.declared.outcome.Quiet.{Quiet}
use Rattle.ras_store.specs.declared.outcome.Quiet.TheVariants as quiet
use Rattle.ras_store.specs.Sites.{origin_of}
use Rattle.ras_store.specs.Stores.{StoreParts, with_event, with_entry, with_hit, with_spill, with_return}
use Rattle.ras_store.specs.Comparing.{MeetsNone}
use Rattle.ras_store.specs.Holding.{HasHit, HasSpill, IsFirstFree, IsGood, IsGoodSite, IsGone, IsGoneSite, IsKept, AreKept, IsFirstLost, IsFirstMet, AreSubmitted, IsFirstMissing, numbers_of}

-- the ticket is of the first kept entry that is free, which is then taken
pub record IsClaim (old new : StoreParts) (t : Ticket) : Type 0 where
  pub first : IsFirstFree old.state t.entry
  pub entry : EntryParts
  pub is_entry : IsEntry old.state t.entry entry
  pub cube : entry.cube ≡ t.cube
  pub serial : slice_get old.serials t.entry ≡ Some t.serial
  pub event : new ≡ with_event old (event.Claim t.entry)

-- no hit stands, and the ticket is good
pub record MayCome (s : StoreParts) (site : Site) : Type 0 where
  pub no_hit : s.state.hit ≡ None
  pub good : IsGoodSite s site

-- no hit stands, and the ticket is not good
pub record IsTurnedAway (old new : StoreParts) (site : Site) (number : ℕ) : Type 0 where
  pub no_hit : old.state.hit ≡ None
  pub gone : IsGoneSite old site number
  pub same : new ≡ old

-- a hit stands
pub record IsStopped (old new : StoreParts) : Type 0 where
  pub hit : HasHit old.state
  pub same : new ≡ old

-- the cube may come, but the witness meets an entry
pub record IsOvertaken (old new : StoreParts) (site : Site) (w : Witness) (number : ℕ) : Type 0 where
  pub may : MayCome old site
  pub met : IsFirstMet w.db w.state (cubes_of old.state) number
  pub same : new ≡ old

-- the cube may come and the witness meets no entry, but there is no room; the first such cube is the spill
pub record IsFull (old new : StoreParts) (site : Site) (cube : Problem) (w : Witness) (budget : ℕ) : Type 0 where
  pub may : MayCome old site
  pub new_to : MeetsNone w.db w.state (cubes_of old.state)
  pub full : length old.state.entries ≡ old.budget
  pub is : budget ≡ old.budget
  pub event : ((old.state.spill ≡ None) × (new ≡ with_spill old (origin_of site) cube w)) ⊎ (HasSpill old.state × (new ≡ old))

-- the cube is a new entry
pub record IsIn (old new : StoreParts) (site : Site) (cube : Problem) (w : Witness) (number : ℕ) : Type 0 where
  pub may : MayCome old site
  pub new_to : MeetsNone w.db w.state (cubes_of old.state)
  pub room : length old.state.entries < old.budget
  pub is : number ≡ length old.state.entries
  pub event : new ≡ with_entry old (origin_of site) cube w

abbrev pub IsAdmission : StoreParts → StoreParts → Site → Problem → Witness → Admitted → Type 0
IsAdmission old new site cube w admitted.Stopped = IsStopped old new
IsAdmission old new site cube w (admitted.Gone number) = IsTurnedAway old new site number
IsAdmission old new site cube w (admitted.Overtaken number) = IsOvertaken old new site w number
IsAdmission old new site cube w (admitted.Full budget) = IsFull old new site cube w budget
IsAdmission old new site cube w (admitted.In number) = IsIn old new site cube w number

-- the cube is the hit
pub record IsFound (old new : StoreParts) (site : Site) (cube : Problem) (w : Witness) (number : ℕ) : Type 0 where
  pub may : MayCome old site
  pub is : number ≡ length old.state.entries
  pub event : new ≡ with_hit old (origin_of site) cube w

abbrev pub IsHitting : StoreParts → StoreParts → Site → Problem → Witness → Admitted → Type 0
IsHitting old new site cube w admitted.Stopped = IsStopped old new
IsHitting old new site cube w (admitted.Gone number) = IsTurnedAway old new site number
IsHitting old new site cube w (admitted.In number) = IsFound old new site cube w number
IsHitting old new site cube w _ = ⊥

-- the ticket is good and the reasons are kept: the cube is a submission of its origin
pub record IsNoted (old new : StoreParts) (site : Site) (cube : Problem) (reasons : List Named) : Type 0 where
  pub good : IsGoodSite old site
  pub kept : AreKept old.state reasons
  pub event : new ≡ with_event old (event.Skip (origin_of site) cube (numbers_of reasons))

-- the ticket is not good, or it is and a reason is not kept
pub record IsNotNoted (old new : StoreParts) (site : Site) (reasons : List Named) (number : ℕ) : Type 0 where
  pub lost : IsGoneSite old site number ⊎ (IsGoodSite old site × IsFirstLost old.state reasons number)
  pub same : new ≡ old

abbrev pub IsSkipping : StoreParts → StoreParts → Site → Problem → List Named → Skipped → Type 0
IsSkipping old new site cube reasons skipped.Noted = IsNoted old new site cube reasons
IsSkipping old new site cube reasons (skipped.Gone number) = IsNotNoted old new site reasons number

-- both are kept: the one is dropped for the other
pub record IsDropped (old new : StoreParts) (entry by : Named) : Type 0 where
  pub entry_kept : IsKept old.state entry
  pub by_kept : IsKept old.state by
  pub event : new ≡ with_event old (event.Drop entry.number by.number)

pub record IsNotDropped (old new : StoreParts) (entry by : Named) (number : ℕ) : Type 0 where
  pub lost : IsFirstLost old.state (entry ∷ by ∷ []) number
  pub same : new ≡ old

abbrev pub IsDropping : StoreParts → StoreParts → Named → Named → Dropped → Type 0
IsDropping old new entry by dropped.Done = IsDropped old new entry by
IsDropping old new entry by (dropped.Gone number) = IsNotDropped old new entry by number

-- the ticket is not good
pub record IsLate (old new : StoreParts) (t : Ticket) (number : ℕ) : Type 0 where
  pub gone : IsGone old t number
  pub same : new ≡ old

-- the ticket is good and each of the cubes is a submission of its entry: the work on it is done
pub record IsDone (old new : StoreParts) (t : Ticket) (all : List Problem) : Type 0 where
  pub good : IsGood old t
  pub submitted : AreSubmitted old.state t.entry all
  pub event : new ≡ with_event old (event.Done t.entry)

pub record IsMissing (old new : StoreParts) (t : Ticket) (all : List Problem) (index : ℕ) : Type 0 where
  pub good : IsGood old t
  pub missing : IsFirstMissing old.state t.entry all index
  pub same : new ≡ old

abbrev pub IsFinishing : StoreParts → StoreParts → Ticket → List Problem → Finished → Type 0
IsFinishing old new t all finished.Done = IsDone old new t all
IsFinishing old new t all (finished.Gone number) = IsLate old new t number
IsFinishing old new t all (finished.Missing index) = IsMissing old new t all index

-- the ticket is good: its entry is free again
pub record IsReturned (old new : StoreParts) (t : Ticket) : Type 0 where
  pub good : IsGood old t
  pub event : new ≡ with_return old t.entry

abbrev pub IsReturn : StoreParts → StoreParts → Ticket → Finished → Type 0
IsReturn old new t finished.Done = IsReturned old new t
IsReturn old new t (finished.Gone number) = IsLate old new t number
IsReturn old new t _ = ⊥

-- the store is quiet, which is recorded once
pub record IsAtRest (old new : StoreParts) : Type 0 where
  pub quiet : IsQuiet old.state
  pub event : ((old.state.reported ≡ false) × (new ≡ with_event old event.Idle)) ⊎ ((old.state.reported ≡ true) × (new ≡ old))

-- it is not: this is the first kept entry that is not done, or the number of entries
pub record IsOpen (old new : StoreParts) (entry : ℕ) : Type 0 where
  pub not_quiet : ¬ IsQuiet old.state
  pub first : IsFirst sought.Unfinished old.state.entries entry
  pub same : new ≡ old

abbrev pub IsQuieting : StoreParts → StoreParts → Quiet → Type 0
IsQuieting old new quiet.Yes = IsAtRest old new
IsQuieting old new (quiet.Open entry) = IsOpen old new entry
