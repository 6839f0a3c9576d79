-- Cubes that are submitted.
use Rattle.std.specs.Prelude.{◌≡◌, ℕ, true, slice_get, Some, Contains}
use Rattle.ras_logic.specs.declared.problem.Problem.{Problem}
use Rattle.ras_core.specs.CoreStates.{EntryParts, IsEntry, IsKeptEntry}
use Rattle.ras_store.specs.declared.site.Site.{Site}
use Rattle.ras_store.specs.declared.site.Site.TheVariants as site
use Rattle.ras_store.specs.Holding.{HasSpill}
use Rattle.ras_store.specs.Stores.{StoreParts}
use Rattle.ras_submit.specs.Progress.{GoesOn}

-- the goal was submitted, or the cube is a submission of the ticket's entry
abbrev pub IsSubmission : StoreParts → Site → Problem → Type 0
IsSubmission s (site.Goal disjunct) cube = slice_get s.state.submitted disjunct ≡ Some true
IsSubmission s (site.Step ticket transition) cube = (e : EntryParts) × IsEntry s.state ticket.now.entry e × Contains e.submissions cube

-- the store went on, and the cube is a submission
pub record IsSubmitted (old new : StoreParts) (site : Site) (cube : Problem) : Type 0 where
  pub goes_on : GoesOn old new
  pub submission : IsSubmission new site cube

-- the store went on, and a spill stands
pub record IsSpilled (old new : StoreParts) : Type 0 where
  pub goes_on : GoesOn old new
  pub spill : HasSpill new.state

-- the store went on, and the cube is a submission and the kept entry of this number
pub record IsEntered (old new : StoreParts) (site : Site) (cube : Problem) (number : ℕ) : Type 0 where
  pub submitted : IsSubmitted old new site cube
  pub entry : EntryParts
  pub kept : IsKeptEntry new.state number entry
  pub cube_is : entry.cube ≡ cube
