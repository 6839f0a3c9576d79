use Rattle.std.proofs.Common.{arith}
use Rattle.ras_reasons.proofs.Marks.{split-below, marks-past-leaf, marks-past-split}
use Rattle.ras_reasons.proofs.named.marks_of.Goals.{in-Split, in_default}
use Rattle.ras_reasons.proofs.named.marks_of.Goals as goal

pub index_mut-requires : goal.index_mut-requires
index_mut-requires c =
    let below = split-below c.args.nodes.now c.args.count c.requires c.loop-node.node-index c.node-item.result c.loop-node-test.true c.node-item.is
    c.in-Split.formula c.in-Split.rows c.in-Split.children c.in-Split.is in
    omega (arith, below, c.loop-node.invariant.as_many)

pub loop-node-preserved : goal.loop-node-preserved
loop-node-preserved c =
    elim c.match-node.branch [
      | in-Split w ↦
          rw w.marks-is
          (marks-past-split c.args.nodes.now c.args.count c.requires c.loop-node.node-index c.node-item.result c.loop-node-test.true c.node-item.is c.loop-node.marks.items c.loop-node.invariant
          w.in-Split.formula w.in-Split.rows w.in-Split.children w.in-Split.is)
      | in_default w ↦
          rw w.marks-is
          (marks-past-leaf c.args.nodes.now c.args.count c.requires c.loop-node.node-index c.node-item.result c.loop-node-test.true c.node-item.is c.loop-node.marks.items c.loop-node.invariant
          w.in_default.is)
    ]
