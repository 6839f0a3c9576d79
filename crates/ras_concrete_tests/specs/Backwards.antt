-- Chains that are made from the goal backwards.
use Rattle.std.specs.Prelude.{◌≡◌, ℕ, List, slice_get, Some}
use Rattle.ras_logic.specs.declared.problem.Problem.{Problem}
use Rattle.ras_system.specs.Systems.{SystemParts}
use Rattle.ras_core.specs.declared.link.Link.{Link}
use Rattle.ras_core.specs.Admissible.{IsFormula, AllLead}
use Rattle.ras_core.specs.Chains.{IsChain}

-- a chain, whichever formula it begins with
abbrev pub IsSomeChain : SystemParts → List Link → Type 0
IsSomeChain system links = (from : Problem) × IsChain system from links

-- a formula whose states all lead by the transition into the cube
pub record IsBefore (system : SystemParts) (transition : ℕ) (next cube : Problem) : Type 0 where
  pub formula : IsFormula system cube
  pub leads : AllLead system transition next cube

-- each of these cubes is one
abbrev pub AreBefore : SystemParts → ℕ → Problem → List Problem → Type 0
AreBefore system transition next cubes = (k : ℕ) (cube : Problem) → slice_get cubes k ≡ Some cube → IsBefore system transition next cube
