-- What a worker must know of a cube. It speaks of cubes alone and not of what the store holds, so a worker may have looked at
-- the store long ago.
use Rattle.std.specs.Prelude.{◌≡◌, ℕ, List, slice_get, Some}
use Rattle.ras_logic.specs.declared.raw_db.RawDb.{RawDb}
use Rattle.ras_logic.specs.declared.problem.Problem.{Problem}
use Rattle.ras_logic.specs.Databases.{IsDatabase}
use Rattle.ras_system.specs.declared.state.State.{State}
use Rattle.ras_system.specs.Systems.{SystemParts}
use Rattle.ras_system.specs.States.{IsInitial, Meets, MeetsAny}
use Rattle.ras_steps.specs.declared.witness.Witness.{Witness}
use Rattle.ras_extension.specs.Reaching.{IsStateIn, IsStateOf, Leads}
use Rattle.ras_core.specs.declared.origin.Origin.{Origin}
use Rattle.ras_core.specs.declared.origin.Origin.TheVariants as origin
use Rattle.ras_core.specs.Admissible.{IsFormula, AllLead, IsTight}
use Rattle.ras_store.specs.declared.site.Site.{Site}
use Rattle.ras_store.specs.declared.site.Site.TheVariants as site

-- the origin that a store keeps for a site
abbrev pub origin_of : Site → Origin
origin_of (site.Goal disjunct) = origin.Goal disjunct
origin_of (site.Step ticket transition) = origin.Step ticket.now.entry transition

-- a formula whose states all lead by the transition into the target
pub record IsStepInto (system : SystemParts) (transition : ℕ) (target cube : Problem) : Type 0 where
  pub formula : IsFormula system cube
  pub leads : AllLead system transition target cube

-- the cube is the goal, or its states lead into the ticket's cube
abbrev pub ComesFromSite : SystemParts → Site → Problem → Type 0
ComesFromSite system (site.Goal disjunct) cube = slice_get system.goals disjunct ≡ Some cube
ComesFromSite system (site.Step ticket transition) cube = IsStepInto system transition ticket.now.cube cube

-- the cube is tight for the ticket's cube; a goal is
abbrev pub IsTightForSite : SystemParts → Site → Problem → Type 0
IsTightForSite system (site.Goal disjunct) cube = Unit {0}
IsTightForSite system (site.Step ticket transition) cube = IsTight system transition ticket.now.cube cube

-- the witness is a state of the cube
abbrev pub IsWitness : SystemParts → Problem → Witness → Type 0
IsWitness system cube w = IsStateOf system cube w.db w.state

-- the witness is an initial state that meets the cube
pub record IsInitialWitness (system : SystemParts) (cube : Problem) (w : Witness) : Type 0 where
  pub database : IsDatabase system.shape.schema w.db
  pub initial : IsInitial system w.db w.state
  pub meets : Meets w.db w.state cube

-- each state of the cube meets one of the others
abbrev pub AllMeetAny : SystemParts → Problem → List Problem → Type 0
AllMeetAny system cube others = (d : RawDb) (s : State) → IsStateOf system cube d s → MeetsAny d s others

-- each state of the cube meets the other
abbrev pub AllMeet : SystemParts → Problem → Problem → Type 0
AllMeet system cube other = (d : RawDb) (s : State) → IsStateOf system cube d s → Meets d s other

-- each state that leads into the cube by some transition meets one of the others
abbrev pub LeadOnlyFrom : SystemParts → Problem → List Problem → Type 0
LeadOnlyFrom system cube others = (d : RawDb) (s : State) (transition : ℕ) → IsStateIn system d s → Leads system d s transition cube → MeetsAny d s others
