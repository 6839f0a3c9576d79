use Rattle.ras_syntax.specs.declared.tree.File as tree
use Rattle.ras_numbering.specs.FileValues.{system_value}
use Rattle.ras_scope.specs.Placing.{placed_file}
use Rattle.ras_elab.specs.Elaborating.{IsFaultOf, IsMemory}
use Rattle.ras_elab.proofs.Denoted.{of_tree, handed_error, denoted, fault_of, memory_alone}
use Rattle.ras_elab.proofs.elaborating.elaborate.Goals as goal

pub returns-in_err-parts-clause-fault : goal.returns-in_err-parts-clause-fault
returns-in_err-parts-clause-fault c =
    let tokens = c.args.tree.now in
    let file : tree.File = c.tree.inside.file in
    let of = of_tree c.a_tree_is_a_placed_file.ensures tokens file c.tree.view_is c.tree.invariant in
    let e = c.in_err-parts.field-0.0 in
    handed_error (IsFaultOf tokens) c.from_residual.result e c.from_residual.ensures.1 (fault_of tokens (placed_file file) of e c.in_err-parts.ensures.checks)

pub returns-in_err-parts-clause-only : goal.returns-in_err-parts-clause-only
returns-in_err-parts-clause-only c = λ system names h.
    let tokens = c.args.tree.now in
    let file : tree.File = c.tree.inside.file in
    let of = of_tree c.a_tree_is_a_placed_file.ensures tokens file c.tree.view_is c.tree.invariant in
    let e = c.in_err-parts.field-0.0 in
    handed_error IsMemory c.from_residual.result e c.from_residual.ensures.1
    (memory_alone tokens system names c.tokens_with_a_fault_denote_nothing.ensures h e (fault_of tokens (placed_file file) of e c.in_err-parts.ensures.checks))

pub returns : goal.returns
returns c =
    let tokens = c.args.tree.now in
    let file : tree.File = c.tree.inside.file in
    let p = placed_file file in
    let of = of_tree c.a_tree_is_a_placed_file.ensures tokens file c.tree.view_is c.tree.invariant in
    let clear = c.in_ok-parts.ensures.checks in
    record {
      denotes = denoted tokens p of (system_value p) c.in_ok-spec.spec.system c.in_ok-spec.spec.names (c.a_file_without_a_fault_denotes_its_value.ensures p clear) c.in_ok-spec.ensures.system c.in_ok-spec.ensures.names;
      fault = tt;
      only = λ system names h. tt;
    }
