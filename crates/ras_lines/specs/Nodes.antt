-- Trees at the front of bytes.
use Rattle.std.specs.Prelude.{ℕ, zero, suc, ◌+◌, List, [], ◌∷◌, length, Ok, Err, codes}
use Rattle.ras_logic.specs.declared.tree.Node.{Node}
use Rattle.ras_logic.specs.declared.tree.Node.TheVariants.{Leaf, Split}
use Rattle.ras_logic.specs.declared.tree.Tree.{Tree}
use Rattle.ras_logic.specs.Trees.{children_of}
use Rattle.ras_lines.specs.Fronts.{Front, follow, prepend}
use Rattle.ras_lines.specs.Numbers.{behind, either, fixed, number, behind_blank, announced}

-- what stands behind `split`
abbrev pub split : List ℕ → Front ℕ Node
split bytes =
    follow (behind_blank number bytes) (λ formula more.
    follow (announced number more) (λ rows behind_rows.
    follow (behind_blank number behind_rows) (λ children rest. Ok (Split formula rows children, rest))))

abbrev pub node : List ℕ → Front ℕ Node
node bytes = either (behind (codes "leaf") bytes) (λ rest. Ok (Leaf, rest)) (either (behind (codes "split") bytes) split (Err bytes))

-- so many trees, with at most so many nodes
abbrev pub nodes_up_to : ℕ → ℕ → List ℕ → Front ℕ (List Node)
nodes_up_to k zero bytes = Ok ([], bytes)
nodes_up_to zero (suc trees) bytes = Err bytes
nodes_up_to (suc k) (suc trees) bytes = follow (behind_blank node bytes) (λ x rest. prepend (x ∷ []) (nodes_up_to k (children_of x + trees) rest))

abbrev pub nodes : ℕ → List ℕ → Front ℕ (List Node)
nodes trees bytes = nodes_up_to (length bytes) trees bytes

abbrev pub tree : List ℕ → Front ℕ Tree
tree bytes = follow (fixed (codes "tree") bytes) (λ _ more. follow (nodes 1 more) (λ ns rest. Ok (record { nodes = ns }, rest)))
