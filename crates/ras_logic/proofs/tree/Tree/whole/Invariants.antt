use Rattle.std.proofs.Common.{◌+◌, ◌*◌, ◌≤◌, drop}
use Rattle.std.specs.Prelude.{◌↔◌}
use Rattle.ras_logic.specs.Trees.{AreTrees}
use Rattle.ras_logic.proofs.tree.Tree.whole.Given as goal

abbrev pub invariant-loop-node : goal.invariant-loop-node
invariant-loop-node l = record {
  few : l.pending ≤ 1 + 4294967295 * l.node-index;
  rest : AreTrees l.pending (drop l.node-index l.self.nodes) ↔ AreTrees 1 l.self.nodes;
}
