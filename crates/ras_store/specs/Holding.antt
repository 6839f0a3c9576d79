-- What a worker holds of the store, and whether it is still so.
use Rattle.std.specs.Prelude.{◌≡◌, ℕ, suc, Bool, true, false, List, [], ◌∷◌, ◌++◌, map, take, slice_get, Some, All, Contains}
use Rattle.ras_logic.specs.declared.raw_db.RawDb.{RawDb}
use Rattle.ras_logic.specs.declared.problem.Problem.{Problem}
use Rattle.ras_logic.specs.Places.{IsFirstBad}
use Rattle.ras_system.specs.declared.state.State.{State}
use Rattle.ras_system.specs.States.{Meets, MeetsAny}
use Rattle.ras_core.specs.declared.work.Work.TheVariants.{Free, Taken}
use Rattle.ras_core.specs.CoreStates.{FoundParts, EntryParts, CoreParts, IsEntry, IsKeptEntry, IsAt}
use Rattle.ras_core.specs.declared.sought.Sought.TheVariants as sought
use Rattle.ras_core.specs.Bookkeeping.{NoneBefore}
use Rattle.ras_store.specs.declared.ticket.Ticket.{Ticket}
use Rattle.ras_store.specs.declared.named.Named.{Named}
use Rattle.ras_store.specs.declared.site.Site.{Site}
use Rattle.ras_store.specs.declared.site.Site.TheVariants as site
use Rattle.ras_store.specs.Stores.{StoreParts}

-- a hit stands, or a spill
pub record HasHit (s : CoreParts) : Type 0 where
  pub found : FoundParts
  pub is : s.hit ≡ Some found

pub record HasSpill (s : CoreParts) : Type 0 where
  pub found : FoundParts
  pub is : s.spill ≡ Some found

-- the first kept entry that is free has this number, or no kept entry is free
pub record IsFirstFree (s : CoreParts) (n : ℕ) : Type 0 where
  pub entry : EntryParts
  pub at : IsAt s n Free entry
  pub first : NoneBefore sought.Free s.entries n

pub record NoneIsFree (s : CoreParts) : Type 0 where
  pub none : (n : ℕ) (e : EntryParts) → ¬ IsAt s n Free e

-- the ticket's entry is kept and taken with this serial number, and has the ticket's cube
pub record IsGood (s : StoreParts) (t : Ticket) : Type 0 where
  pub entry : EntryParts
  pub at : IsAt s.state t.entry Taken entry
  pub cube : entry.cube ≡ t.cube
  pub serial : slice_get s.serials t.entry ≡ Some t.serial

-- the ticket of the site, if it has one, is good
abbrev pub IsGoodSite : StoreParts → Site → Type 0
IsGoodSite s (site.Goal disjunct) = Unit {0}
IsGoodSite s (site.Step ticket transition) = IsGood s ticket.now

-- the ticket is of this entry, and is not good
pub record IsGone (s : StoreParts) (t : Ticket) (number : ℕ) : Type 0 where
  pub entry : t.entry ≡ number
  pub gone : ¬ IsGood s t

abbrev pub IsGoneSite : StoreParts → Site → ℕ → Type 0
IsGoneSite s (site.Goal disjunct) number = ⊥
IsGoneSite s (site.Step ticket transition) number = IsGone s ticket.now number

-- a kept entry has this number and this cube
pub record IsKept (s : CoreParts) (n : Named) : Type 0 where
  pub entry : EntryParts
  pub kept : IsKeptEntry s n.number entry
  pub cube : entry.cube ≡ n.cube

pub record AreKept (s : CoreParts) (names : List Named) : Type 0 where
  pub each : All (IsKept s) names

-- the first of these that is no kept entry has this number
pub record IsFirstLost (s : CoreParts) (names : List Named) (number : ℕ) : Type 0 where
  pub place : ℕ
  pub first : IsFirstBad (IsKept s) names place
  pub lost : Named
  pub at : slice_get names place ≡ Some lost
  pub has : lost.number ≡ number

-- the number of the first of the cubes that the state meets
pub record IsFirstMet (d : RawDb) (state : State) (cubes : List Problem) (k : ℕ) : Type 0 where
  pub cube : Problem
  pub at : slice_get cubes k ≡ Some cube
  pub meets : Meets d state cube
  pub first : ¬ MeetsAny d state (take k cubes)

-- the cubes are submissions of the entry
pub record AreSubmitted (s : CoreParts) (number : ℕ) (cubes : List Problem) : Type 0 where
  pub entry : EntryParts
  pub is : IsEntry s number entry
  pub each : All (Contains entry.submissions) cubes

-- the first of the cubes that is no submission of the entry
pub record IsFirstMissing (s : CoreParts) (number : ℕ) (cubes : List Problem) (k : ℕ) : Type 0 where
  pub entry : EntryParts
  pub is : IsEntry s number entry
  pub first : IsFirstBad (Contains entry.submissions) cubes k

-- the numbers and the cubes of named entries
abbrev pub numbers_of : List Named → List ℕ
numbers_of names = map (λ (n : Named). n.number) names

abbrev pub named_cubes : List Named → List Problem
named_cubes names = map (λ (n : Named). n.cube) names

-- these entries, named, the first by this number
abbrev pub named_from : ℕ → List EntryParts → List Named
named_from k [] = []
named_from k (e ∷ es) = record { number = k; cube = e.cube } ∷ named_from (suc k) es

-- those of them that are kept
abbrev pub named_if : Bool → Named → List Named
named_if true n = n ∷ []
named_if false n = []

abbrev pub kept_from : ℕ → List EntryParts → List Named
kept_from k [] = []
kept_from k (e ∷ es) = named_if e.kept (record { number = k; cube = e.cube }) ++ kept_from (suc k) es
