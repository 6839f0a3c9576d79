-- Trees in which no split is idle.
use Rattle.std.specs.Prelude.{◌≡◌, ℕ, List, [], ◌∷◌, ◌++◌, length, slice_get, Some, All, ⊤}
use Rattle.std.specs.List.{flat_map}
use Rattle.ras_logic.specs.declared.ids.RelId.{RelId}
use Rattle.ras_logic.specs.declared.literal.Literal.{Literal}
use Rattle.ras_logic.specs.declared.problem.Problem.{Problem}
use Rattle.ras_logic.specs.declared.tree.Node.{Node}
use Rattle.ras_logic.specs.declared.tree.Node.TheVariants.{Leaf, Split}
use Rattle.ras_logic.specs.Schemas.{SchemaParts}
use Rattle.ras_logic.specs.Trees.{AreTrees}
use Rattle.ras_logic.specs.Refutations.{children_facts, CloseAll}

-- The nodes begin with so many trees, those of the children of a split; none of these trees closes with the facts of the
-- split itself, without the literal that the split adds for it.
pub record AreChildrenNeeded (schema : SchemaParts) (formulas : List Problem) (rows : List RelId) (facts : List Literal) (children : ℕ) (nodes : List Node) : Type 0 where
  pub trees : List (List Node)
  pub rest : List Node
  pub first : nodes ≡ flat_map (λ (tree : List Node). tree) trees ++ rest
  pub as_many : length trees ≡ children
  pub whole : All (AreTrees 1) trees
  pub needed : All (λ (tree : List Node). ¬ CloseAll schema formulas rows (facts ∷ []) tree) trees

-- the nodes are trees in preorder, one for each of these lists of facts, and each child of a split needs the split
abbrev pub AllNeeded : SchemaParts → List Problem → List RelId → List (List Literal) → List Node → Type 0
AllNeeded schema formulas rows [] nodes = ⊤
AllNeeded schema formulas rows (facts ∷ pending) [] = ⊤
AllNeeded schema formulas rows (facts ∷ pending) (Leaf ∷ nodes) = AllNeeded schema formulas rows pending nodes
AllNeeded schema formulas rows (facts ∷ pending) (Split formula chosen children ∷ nodes) =
    (f : Problem) × (slice_get formulas formula ≡ Some f) × AreChildrenNeeded schema formulas rows facts children nodes
    × AllNeeded schema formulas rows (children_facts facts chosen f.literals ++ pending) nodes

-- no split of the tree is idle
abbrev pub IsEachSplitNeeded : SchemaParts → Problem → List Problem → List Node → Type 0
IsEachSplitNeeded schema premise formulas nodes = AllNeeded schema formulas premise.rows (premise.literals ∷ []) nodes
