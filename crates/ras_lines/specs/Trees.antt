-- The words of trees in preorder.
use Rattle.std.specs.Prelude.{ℕ, ◌<◌, ◌^◌, List, [], ◌∷◌, ◌++◌, map, flat_map, codes}
use Rattle.std.specs.List.{AllByRecursion}
use Rattle.std.specs.Fmt.{decimal}
use Rattle.ras_logic.specs.declared.tree.Node.{Node}
use Rattle.ras_logic.specs.declared.tree.Node.TheVariants.{Leaf, Split}
use Rattle.ras_logic.specs.declared.tree.Tree.{Tree}
use Rattle.ras_logic.specs.Trees.{IsWhole}
use Rattle.ras_lines.specs.Lines.{line, counted, AreWritten}

-- `leaf`, or `split F K r1 .. rK C`
abbrev pub node_words : Node → List (List ℕ)
node_words Leaf = codes "leaf" ∷ []
node_words (Split formula rows children) = codes "split" ∷ decimal formula ∷ (counted (map decimal rows) ++ decimal children ∷ [])

-- `tree W`
abbrev pub tree_line : Tree → List ℕ
tree_line t = line (codes "tree") (flat_map node_words t.nodes)

-- What has words: the numbers and counts are below 4,294,967,296.

abbrev pub IsWrittenNumber : ℕ → Type 0
IsWrittenNumber n = n < 2 ^ 32

abbrev pub IsWrittenNode : Node → Type 0
IsWrittenNode Leaf = Unit {0}
IsWrittenNode (Split formula rows children) = IsWrittenNumber formula × AreWritten IsWrittenNumber rows × IsWrittenNumber children

-- a whole tree of such nodes
pub record IsWrittenTree (t : Tree) : Type 0 where
  pub whole : IsWhole t
  pub small : AllByRecursion IsWrittenNode t.nodes
