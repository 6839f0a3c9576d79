-- Chains of cubes: the states of each lead into the next, and the last is a goal.
use Rattle.std.specs.Prelude.{◌≡◌, ℕ, List, [], ◌∷◌, ◌++◌, slice_get, Some, None}
use Rattle.ras_logic.specs.declared.problem.Problem.{Problem}
use Rattle.ras_system.specs.Systems.{SystemParts}
use Rattle.ras_core.specs.declared.link.Link.{Link}
use Rattle.ras_core.specs.Admissible.{IsFormula, AllLead}

-- the cube of the first link, or this one where there is none
abbrev pub first_cube : List Link → Problem → Problem
first_cube [] cube = cube
first_cube (l ∷ links) cube = l.cube

-- a formula whose states all lead by the link's transition into the cube
pub record LeadsOn (system : SystemParts) (l : Link) (next : Problem) : Type 0 where
  pub formula : IsFormula system l.cube
  pub transition : ℕ
  pub by : l.transition ≡ Some transition
  pub leads : AllLead system transition next l.cube

-- the states of each link lead into the next one's cube, and those of the last into this cube
abbrev pub LeadAlong : SystemParts → List Link → Problem → Type 0
LeadAlong system [] cube = Unit {0}
LeadAlong system (l ∷ links) cube = LeadsOn system l (first_cube links cube) × LeadAlong system links cube

-- a chain that begins with this cube: its last link is a goal, and has no transition
pub record IsChain (system : SystemParts) (from : Problem) (links : List Link) : Type 0 where
  pub front : List Link
  pub goal : Link
  pub parts : links ≡ front ++ goal ∷ []
  pub begins : first_cube front goal.cube ≡ from
  pub lead : LeadAlong system front goal.cube
  pub ends : goal.transition ≡ None
  pub disjunct : ℕ
  pub is_goal : slice_get system.goals disjunct ≡ Some goal.cube
