-- The formulas that the nodes of a tree name.
use Rattle.std.specs.Prelude.{◌≡◌, ℕ, ◌<◌, List, slice_get, Some, All, AllPairs, Contains}
use Rattle.std.specs.List.{AllZip}
use Rattle.ras_logic.specs.declared.problem.Problem.{Problem}
use Rattle.ras_logic.specs.declared.tree.Node.{Node}
use Rattle.ras_logic.specs.declared.tree.Node.TheVariants.{Split}

-- some node is a split by the formula of this number
pub record Names (nodes : List Node) (number : ℕ) : Type 0 where
  pub place : ℕ
  pub rows : List ℕ
  pub children : ℕ
  pub at : slice_get nodes place ≡ Some (Split number rows children)

-- each number that is named is below
abbrev pub NamesBelow : List Node → ℕ → Type 0
NamesBelow nodes count = (number : ℕ) → Names nodes number → number < count

-- the numbers that are named, in ascending order
pub record AreNamed (nodes : List Node) (numbers : List ℕ) : Type 0 where
  pub in_order : AllPairs (λ (j k : ℕ). j < k) numbers
  pub each : All (Names nodes) numbers
  pub every : (number : ℕ) → Names nodes number → Contains numbers number

-- the formulas of these numbers
abbrev pub ArePicked : List Problem → List ℕ → List Problem → Type 0
ArePicked list numbers picked = AllZip (λ (k : ℕ) (f : Problem). slice_get list k ≡ Some f) numbers picked
