use Rattle.std.proofs.Common.{◌≡◌, ◌∷◌, length}
use Rattle.std.specs.List.{flat_map}
use Rattle.ras_logic.specs.declared.tree.Node.TheVariants.{Split}
use Rattle.ras_logic.specs.declared.tree.Tree.{Tree}
use Rattle.ras_sat.proofs.pruning.split_tree.Given as goal

abbrev pub invariant-loop-tree : goal.invariant-loop-tree
invariant-loop-tree l = l.nodes ≡ Split l.instance.formula l.instance.rows (length l.fn.trees) ∷ flat_map (λ (tree : Tree). tree.nodes) l.yielded
