use Rattle.std.proofs.Common.{ℕ, ◌++◌, List, get_or, sym, ◌∙◌, ap, arith}
use Rattle.ras_print.specs.Printed.{variable_text}
use Rattle.ras_print.proofs.Loops.{numbered_step}
use Rattle.std.specs.Prelude.{Option}
use Rattle.ras_logic.specs.declared.ids.ConstId.{ConstId}
use Rattle.ras_names.specs.Canonical.{variable_line}
use Rattle.ras_print.specs.Lookup.{name_at, constant_name}
use Rattle.ras_print.proofs.declarations.put_variables.Goals as goal

pub loop-number-preserved : goal.loop-number-preserved
loop-number-preserved c =
    let names = c.args.names.now in
    let n : ℕ = c.loop-number.number in
    let sorts = c.vars-sort-items.result.now in
    let text : Option (Option ConstId) → List ℕ = λ o. variable_line (record { name = name_at names.vars n; sort = name_at names.sorts (get_or sorts n (record { n = 0 })).n; initial = constant_name names o }) in
    numbered_step (variable_text names c.args.system.now.initial) sorts n (record { n = 0 }) c.args.out.now.items c.loop-number.out.items c.put_variable.new.out.items
    (omega arith) c.loop-number.invariant (c.in_ok-put_variable.ensures ∙ ap (λ (o : Option (Option ConstId)). c.loop-number.out.items ++ text o) (sym c.initial_of-initial.ensures))
