use Rattle.std.proofs.Common.{◌≡◌, ℕ, ◌++◌, List, map, flat_map, codes, rules}
use Rattle.ras_names.specs.Canonical.{line}
use Rattle.ras_names.specs.Terms.{Scope}
use Rattle.ras_print.specs.Items.{conjunction_item}
use Rattle.ras_print.specs.Printed.{numbered, row_text, param_text, update_text, when_line, each_texts, step_text, step_scope}
use Rattle.ras_print.proofs.Loops.{on_ok, after}
use Rattle.ras_print.proofs.steps.put_step.Goals as goal

pub returns : goal.returns
returns c =
    let names = c.args.names.now in
    let s = c.args.step.now in
    let t = c.args.transition.now in
    let scope : Scope = step_scope names s t in
    let o0 : List ℕ = c.args.out.now.items in
    let o1 : List ℕ = c.put_heading.new.out.items in
    let o2 : List ℕ = c.put_rows.new.out.items in
    let o3 : List ℕ = c.put_params.new.out.items in
    let o4 : List ℕ = c.put_guard.new.out.items in
    let o5 : List ℕ = c.put_updates.new.out.items in
    let o6 : List ℕ = c.put_eachs.new.out.items in
    let o7 : List ℕ = c.put.new.out.items in
    let t1 : List ℕ = line (codes "step " ++ (s.name ++ codes " {")) in
    let t2 : List ℕ = numbered (row_text names s.rows) 0 t.rows in
    let t3 : List ℕ = numbered (param_text names s.params) 0 t.params in
    let t4 : List ℕ = when_line (map (conjunction_item scope) t.guard) in
    let t5 : List ℕ = flat_map (update_text scope) t.updates in
    let t6 : List ℕ = each_texts names s t s.each t.bulk in
    let t7 : List ℕ = line (codes "}") in
    on_ok c.put.result (o7 ≡ o6 ++ t7) (o7 ≡ o0 ++ step_text names s t)
    (λ last. let heading : o1 ≡ o0 ++ t1 = search rules in
    let rows : o2 ≡ o1 ++ t2 = search rules in
    let params : o3 ≡ o2 ++ t3 = search rules in
    let guard : o4 ≡ o3 ++ t4 = search rules in
    let updates : o5 ≡ o4 ++ t5 = search rules in
    let eachs : o6 ≡ o5 ++ t6 = search rules in
    after o0 o1 o7 t1 (t2 ++ (t3 ++ (t4 ++ (t5 ++ (t6 ++ t7))))) heading
    (after o1 o2 o7 t2 (t3 ++ (t4 ++ (t5 ++ (t6 ++ t7)))) rows
    (after o2 o3 o7 t3 (t4 ++ (t5 ++ (t6 ++ t7))) params
    (after o3 o4 o7 t4 (t5 ++ (t6 ++ t7)) guard
    (after o4 o5 o7 t5 (t6 ++ t7) updates
    (after o5 o6 o7 t6 t7 eachs last))))))
    (search rules)
