-- Lists of nodes that are whole trees in preorder.
use Rattle.std.specs.Prelude.{ℕ, zero, suc, ◌+◌, List, [], ◌∷◌, ⊤}
use Rattle.ras_logic.specs.declared.tree.Node.{Node}
use Rattle.ras_logic.specs.declared.tree.Node.TheVariants.{Leaf, Split}
use Rattle.ras_logic.specs.declared.tree.Tree.{Tree}

-- how many trees stand below a node
abbrev pub children_of : Node → ℕ
children_of Leaf = 0
children_of (Split formula rows children) = children

-- the nodes are so many trees in preorder, one after the other
abbrev pub AreTrees : ℕ → List Node → Type 0
AreTrees zero [] = ⊤
AreTrees zero (node ∷ nodes) = ⊥
AreTrees (suc n) [] = ⊥
AreTrees (suc n) (node ∷ nodes) = AreTrees (children_of node + n) nodes

-- the nodes are one tree
abbrev pub IsWhole : Tree → Type 0
IsWhole t = AreTrees 1 t.nodes
