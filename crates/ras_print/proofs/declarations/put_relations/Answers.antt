use Rattle.std.proofs.Common.{ℕ, ◌++◌, List, ◌∙◌, ap, arith}
use Rattle.ras_print.specs.Printed.{relation_text}
use Rattle.ras_print.proofs.Loops.{numbered_step}
use Rattle.ras_logic.specs.declared.ids.SortId.{SortId}
use Rattle.ras_print.proofs.declarations.put_relations.Goals as goal

pub loop-number-preserved : goal.loop-number-preserved
loop-number-preserved c =
    let names = c.args.names.now in
    let n : ℕ = c.loop-number.number in
    numbered_step (relation_text names) c.args.relations.now n c.index-relations-number.result c.args.out.now.items c.loop-number.out.items c.put_relation.new.out.items
    (omega arith) c.loop-number.invariant
    (c.in_ok-put_relation.ensures ∙ ap (λ (s : List SortId). c.loop-number.out.items ++ relation_text names n s) (c.as_slice.ensures.items ∙ c.index-relations-number.is))
