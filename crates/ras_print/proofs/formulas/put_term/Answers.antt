use Rattle.std.proofs.Common.{◌≡◌, ℕ, ◌++◌, List, sym, ◌∙◌, ap, rules}
use Rattle.ras_names.specs.Canonical.{term_text}
use Rattle.ras_print.specs.Calls.{fronts, ends}
use Rattle.ras_print.specs.Items.{base_item, term_item}
use Rattle.ras_print.specs.Scopes.{scope_of}
use Rattle.ras_print.proofs.Loops.{called_text, on_ok, after}
use Rattle.ras_print.proofs.formulas.put_term.Goals as goal

pub returns : goal.returns
returns c =
    let scope = scope_of c.args.scope.now in
    let term = c.args.term.now in
    on_ok c.put_ends.result (c.put_ends.new.out.items ≡ c.put_base.new.out.items ++ ends term.path)
    (c.put_ends.new.out.items ≡ c.args.out.now.items ++ term_text (term_item scope term))
    (λ last. let first : c.put_functions.new.out.items ≡ c.args.out.now.items ++ fronts scope.names term.path = search rules in
    let base : c.put_base.new.out.items ≡ c.put_functions.new.out.items ++ term_text (base_item scope term.base) = search rules in
    let front = fronts scope.names term.path in
    let middle = term_text (base_item scope term.base) in
    after c.args.out.now.items c.put_functions.new.out.items c.put_ends.new.out.items front (middle ++ ends term.path) first
    (after c.put_functions.new.out.items c.put_base.new.out.items c.put_ends.new.out.items middle (ends term.path) base last)
    ∙ ap (λ (z : List ℕ). c.args.out.now.items ++ z) (sym (called_text scope.names term.path (base_item scope term.base))))
    (search rules)
