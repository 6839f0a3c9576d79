-- A mark for each formula that is named.
use Rattle.std.specs.Prelude.{◌≡◌, ◌↔◌, ℕ, ◌<◌, Bool, true, false, List, length, get_or, All, AllPairs, Contains}
use Rattle.ras_logic.specs.declared.tree.Node.{Node}
use Rattle.ras_reasons.specs.Naming.{Names}

-- so many marks: one is set exactly where its number is named
pub record IsMarking (nodes : List Node) (count : ℕ) (marks : List Bool) : Type 0 where
  pub as_many : length marks ≡ count
  pub exact : (number : ℕ) → number < count → (get_or marks number false ≡ true ↔ Names nodes number)

-- the numbers of the marks below one that are set, in ascending order
pub record AreMarked (marks : List Bool) (below : ℕ) (numbers : List ℕ) : Type 0 where
  pub in_order : AllPairs (λ (j k : ℕ). j < k) numbers
  pub each : All (λ (k : ℕ). (k < below) × (get_or marks k false ≡ true)) numbers
  pub every : (k : ℕ) → k < below → get_or marks k false ≡ true → Contains numbers k
