use Rattle.ras_refute.proofs.Walking.{leaf-err, leaf-passed}
use Rattle.std.proofs.Common.{reverse}
use Rattle.ras_refute.proofs.walk.pass.Goals as goal

pub returns-in_err-pass_leaf-in-Leaf-clause-fault : goal.returns-in_err-pass_leaf-in-Leaf-clause-fault
returns-in_err-pass_leaf-in-Leaf-clause-fault c =
    leaf-err c.args.schema.now c.args.formulas.now c.args.rows.now (reverse c.args.facts.now.items) c.args.node.now c.args.number c.from_residual.result c.in_err-pass_leaf-in-Leaf.field-0.0
    c.in-Leaf.is c.from_residual.ensures.1 c.in_err-pass_leaf-in-Leaf.ensures.fault

pub returns-in_ok-pass_leaf-in-Leaf-clause-passed : goal.returns-in_ok-pass_leaf-in-Leaf-clause-passed
returns-in_ok-pass_leaf-in-Leaf-clause-passed c =
    leaf-passed c.args.schema.now c.args.formulas.now c.args.rows.now c.args.node.now c.args.facts.now.items c.pass_leaf.new.facts.items c.args.splits.now.items c.pass_leaf.new.splits.items
    c.in-Leaf.is c.in_ok-pass_leaf-in-Leaf.ensures.clash c.in_ok-pass_leaf-in-Leaf.ensures.stands
