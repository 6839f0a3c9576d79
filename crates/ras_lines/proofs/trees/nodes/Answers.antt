use Rattle.std.proofs.Common.{◌-◌, ◌+◌, sym, ap, ◌∙◌, arith, length, ℕ, List}
use Rattle.std.proofs.lemmas.List.{length_push}
use Rattle.ras_logic.specs.declared.tree.Node.{Node}
use Rattle.ras_lines.specs.Fronts.{prepend}
use Rattle.ras_lines.specs.Nodes as first
use Rattle.ras_lines.proofs.NodeLaws.{nodes_next, node_takes}
use Rattle.ras_lines.proofs.trees.nodes.Goals as goal

pub loop-pending-smaller : goal.loop-pending-smaller
loop-pending-smaller c = node_takes c.loop-pending.words.rest.now c.fixed.new.self.rest.now c.node.new.words.rest.now c.in_ok-node.node c.in_ok-fixed.ensures c.in_ok-node.ensures

pub loop-pending-preserved : goal.loop-pending-preserved
loop-pending-preserved c = record {
  reads =
      c.loop-pending.invariant.reads
      ∙ nodes_next c.loop-pending.nodes c.loop-pending.pending (c.loop-pending.pending - 1 + c.from.result) c.loop-pending.words.rest.now c.fixed.new.self.rest.now c.node.new.words.rest.now c.in_ok-node.node
      c.loop-pending-test.true (ap (λ (k : ℕ). c.loop-pending.pending - 1 + k) (c.from.ensures ∙ c.children_count-below.ensures)) c.in_ok-fixed.ensures c.in_ok-node.ensures
      ∙ ap (λ (xs : List Node). prepend xs (first.nodes (c.loop-pending.pending - 1 + c.from.result) c.node.new.words.rest.now)) (sym c.in_ok-push.ensures.ok);
  bound = omega (arith, c.from.ensures, c.children_count-below.type_inv, c.loop-pending.invariant.bound, ap length c.in_ok-push.ensures.ok, length_push c.loop-pending.nodes c.in_ok-node.node);
}
