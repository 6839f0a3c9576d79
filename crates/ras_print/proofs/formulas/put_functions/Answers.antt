use Rattle.std.proofs.Common.{ℕ, ◌++◌, List, ◌∙◌, ap, rules}
use Rattle.ras_print.proofs.Loops.{fronts_step}
use Rattle.ras_print.specs.Calls.{fronts}
use Rattle.ras_print.specs.Lookup.{name_at}
use Rattle.ras_print.proofs.formulas.put_functions.Goals as goal

pub loop-function-preserved : goal.loop-function-preserved
loop-function-preserved c =
    let names = c.args.names.now in
    fronts_step names c.loop-function.rest.now c.in-Some.inside.now c.in-Some.function.now c.loop-function.out.items c.put.new.out.items c.put-in-Some.new.out.items
    (c.args.out.now.items ++ fronts names c.args.path.now) (search rules)
    (c.in_ok-put.ensures ∙ ap (λ (z : List ℕ). c.loop-function.out.items ++ z) (c.name_at.ensures ∙ ap (λ (xs : List (List ℕ)). name_at xs c.in-Some.function.now.n) c.as_slice.ensures.items))
    (c.in_ok-put-2.ensures) c.loop-function.invariant
