use Rattle.std.proofs.Common.{◌+◌, ◌-◌, ◌<◌, drop, arith, refl, ◌∙◌}
use Rattle.ras_logic.proofs.Preorder.{node-first, trees-next}
use Rattle.ras_logic.proofs.tree.Tree.whole.Goals as goal

pub loop-node-preserved : goal.loop-node-preserved
loop-node-preserved c =
    let first = node-first c.args.self.now.nodes c.as_slice-node-items.result.now c.loop-node.node-index c.node-item.result c.as_slice-node-items.ensures.items c.loop-node-test.true c.node-item.is in
    let some : 0 < c.loop-node.pending = omega (arith, c.if-pending-eq0.false) in
    let step = trees-next (drop c.loop-node.node-index c.args.self.now.nodes) (drop (c.loop-node.node-index + 1) c.args.self.now.nodes) c.node-item.result c.loop-node.pending c.from.result
    (c.loop-node.pending - 1 + c.from.result) some (c.from.ensures ∙ c.children.ensures) refl first in
    record {
      few = omega (arith, c.loop-node.invariant.few, c.from.ensures, c.children.type_inv);
      rest = (λ h. c.loop-node.invariant.rest.0 (step.0 h), λ h. step.1 (c.loop-node.invariant.rest.1 h));
    }
