-- Splits whose children are refuted one after the other.
use Rattle.std.specs.Prelude.{◌≡◌, ℕ, ◌<◌, ◌≤◌, List, [], ◌∷◌, ◌++◌, length, map, slice_get, Some, All, Contains}
use Rattle.ras_logic.specs.declared.literal.Literal.{Literal}
use Rattle.ras_logic.specs.declared.problem.Problem.{Problem}
use Rattle.ras_logic.specs.declared.tree.Tree.{Tree}
use Rattle.ras_logic.specs.Refutations.{CloseAll, Closes}
use Rattle.ras_sat.specs.declared.task.Task.{Task}
use Rattle.ras_sat.specs.declared.open_split.OpenSplit.{OpenSplit}
use Rattle.ras_sat.specs.Instances.{IsByInstance}
use Rattle.ras_sat.specs.Needed.{AllNeeded}
use Rattle.ras_sat.specs.Tasks.{schema_of, opposites_at}

-- the tree refutes these facts by cases on the instances, and no split of it is idle
pub record IsRefutation (t : Task) (facts : List Literal) (tree : Tree) : Type 0 where
  pub closes : CloseAll (schema_of t) t.formulas.now t.premise.now.rows (facts ∷ []) tree.nodes
  pub by_instances : All (IsByInstance t.instances.now) tree.nodes
  pub needed : AllNeeded (schema_of t) t.formulas.now t.premise.now.rows (facts ∷ []) tree.nodes

-- the first children of a split with these facts are refuted
pub record AreRefuted (t : Task) (facts : List Literal) (split : OpenSplit) : Type 0 where
  pub within : split.instance < length t.instances.now
  pub few : length split.done ≤ length (opposites_at t split.instance)
  pub each : (k : ℕ) (l : Literal) (tree : Tree) → slice_get (opposites_at t split.instance) k ≡ Some l → slice_get split.done k ≡ Some tree → IsRefutation t (l ∷ facts) tree

-- none of the trees closes with the facts
abbrev pub IsEachOpen : Task → Problem → List Tree → Type 0
IsEachOpen t facts trees = All (λ (tree : Tree). ¬ Closes (schema_of t) facts t.formulas.now tree.nodes) trees

-- the tree of that number closes with the facts
abbrev pub IsIdle : Task → Problem → List Tree → ℕ → Type 0
IsIdle t facts trees k = (tree : Tree) × (slice_get trees k ≡ Some tree) × Closes (schema_of t) facts t.formulas.now tree.nodes

-- the numbers of the instances of splits
abbrev pub instances_of : List OpenSplit → List ℕ
instances_of splits = map (λ (s : OpenSplit). s.instance) splits

-- The child at hand of a split: its facts are those of the split and its own, and the splits above are by other instances.
pub record IsEntered (t : Task) (own facts : List Literal) (split : OpenSplit) (above : List OpenSplit) : Type 0 where
  pub refuted : AreRefuted t own split
  pub literal : Literal
  pub known : slice_get (opposites_at t split.instance) (length split.done) ≡ Some literal
  pub facts_are : facts ≡ own ++ literal ∷ []
  pub other : ¬ Contains (instances_of above) split.instance

-- the facts are those below these splits, the last of them first
abbrev pub AreOpen : Task → List Literal → List OpenSplit → Type 0
AreOpen t facts [] = facts ≡ t.premise.now.literals
AreOpen t facts (split ∷ above) = (own : List Literal) × IsEntered t own facts split above × AreOpen t own above
