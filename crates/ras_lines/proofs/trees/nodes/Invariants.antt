use Rattle.std.proofs.Common.{◌≡◌, ◌≤◌, ◌+◌, ◌*◌, ◌^◌, length}
use Rattle.ras_lines.specs.Fronts.{prepend}
use Rattle.ras_lines.specs.Nodes as first
use Rattle.ras_lines.proofs.trees.nodes.Given as goal

abbrev pub invariant-loop-pending : goal.invariant-loop-pending
invariant-loop-pending l = record {
  reads : first.nodes 1 l.fn.words.rest.now ≡ prepend l.nodes (first.nodes l.pending l.words.rest.now);
  bound : l.pending ≤ 2 ^ 32 * (length l.nodes + 1);
}

abbrev pub decreases-loop-pending : goal.decreases-loop-pending
decreases-loop-pending l = length l.words.rest.now
