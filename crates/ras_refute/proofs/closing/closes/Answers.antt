use Rattle.std.proofs.Common.{◌≡◌, ◌+◌, ◌∷◌, [], drop, reverse}
use Rattle.ras_refute.specs.declared.tree_fault.TreeFault.{TreeFault}
use Rattle.ras_logic.specs.Refutations.{Closes}
use Rattle.ras_refute.specs.Faults.{IsNodeFault, IsTreeFault}
use Rattle.ras_logic.proofs.Preorder.{node-first}
use Rattle.ras_refute.proofs.Passing.{walk-begins, walk-goes_on, walk-stops, fault-no_closing, err-handed, on_fault}
use Rattle.ras_refute.proofs.closing.closes.Goals as goal

pub loop-number-init : goal.loop-number-init
loop-number-init c =
    walk-begins c.args.shape.now.schema c.args.formulas.now c.args.premise.now.rows c.args.premise.now.literals c.args.tree.now.nodes c.in_ok-facts.facts.items c.new-splits.result.items
    c.in_ok-facts.ensures c.new-splits.ensures.items c.requires

pub returns-in_err-pass-clause-fault : goal.returns-in_err-pass-clause-fault
returns-in_err-pass-clause-fault c =
    let first = node-first c.args.tree.now.nodes c.as_slice-node-items.result.now c.loop-number.number c.node-item.result c.as_slice-node-items.ensures.items c.loop-number-test.true c.node-item.is in
    err-handed (IsTreeFault c.args.shape.now.schema c.args.premise.now c.args.formulas.now c.args.tree.now.nodes) c.from_residual-in_err-pass.result c.in_err-pass.field-0.0 c.from_residual-in_err-pass.ensures.1
    (on_fault (λ (f : TreeFault). (f.node ≡ c.loop-number.number) × IsNodeFault c.args.shape.now.schema c.args.formulas.now c.args.premise.now.rows (reverse c.loop-number.facts.items) c.node-item.result f.kind)
    (IsTreeFault c.args.shape.now.schema c.args.premise.now c.args.formulas.now c.args.tree.now.nodes)
    (λ f h. walk-stops c.args.shape.now.schema c.args.formulas.now c.args.premise.now.rows c.args.premise.now.literals c.args.tree.now.nodes c.loop-number.number
    c.loop-number.facts.items c.loop-number.splits.items c.node-item.result (drop (c.loop-number.number + 1) c.args.tree.now.nodes) f c.loop-number.invariant first h)
    c.in_err-pass.field-0.0 (rw (← c.schema.ensures) c.in_err-pass.ensures.fault))

pub returns-in_err-pass-clause-refused : goal.returns-in_err-pass-clause-refused
returns-in_err-pass-clause-refused c =
    let first = node-first c.args.tree.now.nodes c.as_slice-node-items.result.now c.loop-number.number c.node-item.result c.as_slice-node-items.ensures.items c.loop-number-test.true c.node-item.is in
    err-handed (λ (f : TreeFault). ¬ Closes c.args.shape.now.schema c.args.premise.now c.args.formulas.now c.args.tree.now.nodes) c.from_residual-in_err-pass.result c.in_err-pass.field-0.0
    c.from_residual-in_err-pass.ensures.1
    (on_fault (λ (f : TreeFault). (f.node ≡ c.loop-number.number) × IsNodeFault c.args.shape.now.schema c.args.formulas.now c.args.premise.now.rows (reverse c.loop-number.facts.items) c.node-item.result f.kind)
    (λ (f : TreeFault). ¬ Closes c.args.shape.now.schema c.args.premise.now c.args.formulas.now c.args.tree.now.nodes)
    (λ f h. fault-no_closing c.args.shape.now.schema c.args.formulas.now c.args.premise.now.rows c.args.tree.now.nodes 0 (c.args.premise.now.literals ∷ []) f
    (walk-stops c.args.shape.now.schema c.args.formulas.now c.args.premise.now.rows c.args.premise.now.literals c.args.tree.now.nodes c.loop-number.number
    c.loop-number.facts.items c.loop-number.splits.items c.node-item.result (drop (c.loop-number.number + 1) c.args.tree.now.nodes) f c.loop-number.invariant first h))
    c.in_err-pass.field-0.0 (rw (← c.schema.ensures) c.in_err-pass.ensures.fault))

pub loop-number-preserved : goal.loop-number-preserved
loop-number-preserved c =
    walk-goes_on c.args.shape.now.schema c.args.formulas.now c.args.premise.now.rows c.args.premise.now.literals c.args.tree.now.nodes c.loop-number.number
    c.loop-number.facts.items c.pass.new.facts.items c.loop-number.splits.items c.pass.new.splits.items c.node-item.result c.loop-number.invariant
    (node-first c.args.tree.now.nodes c.as_slice-node-items.result.now c.loop-number.number c.node-item.result c.as_slice-node-items.ensures.items c.loop-number-test.true c.node-item.is)
    (rw (← c.schema.ensures) c.in_ok-pass.ensures.passed)
