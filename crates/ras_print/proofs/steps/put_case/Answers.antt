use Rattle.std.proofs.Common.{◌≡◌, ℕ, ◌++◌, List, [], ◌∷◌, codes, sym, ◌∙◌, ap, rules, append_assoc, map, flat_map}
use Rattle.ras_print.proofs.Loops.{on_ok, after, flat_mapped}
use Rattle.ras_print.specs.Printed.{assign_text}
use Rattle.ras_names.specs.Canonical.{conjunction_text, assignment_text, whole_case}
use Rattle.ras_print.specs.Items.{conjunction_item, assignment_item, case_item}
use Rattle.ras_print.specs.Scopes.{scope_of}
use Rattle.ras_print.proofs.steps.put_case.Goals as goal

pub returns : goal.returns
returns c =
    let scope = scope_of c.args.scope.now in
    let row : ℕ = c.args.row in
    let b = c.args.case.now in
    let start = c.args.out.now.items in
    let condition = conjunction_text (conjunction_item scope b.condition) in
    let all = flat_map (assign_text scope row) b.assigns in
    let make : List ℕ → List ℕ = λ z. codes "    if " ++ (condition ++ (codes " { " ++ (z ++ 125 ∷ 10 ∷ []))) in
    let o1 : List ℕ = c.put.new.out.items in
    let o2 : List ℕ = c.put_conjunction.new.out.items in
    let o3 : List ℕ = c.put-2.new.out.items in
    let o4 : List ℕ = c.put_assignments.new.out.items in
    let o5 : List ℕ = c.put-3.new.out.items in
    on_ok c.put-3.result (o5 ≡ o4 ++ 125 ∷ 10 ∷ []) (o5 ≡ start ++ whole_case (case_item scope row b))
    (λ last. let h1 : o1 ≡ start ++ codes "    if " = search rules in
    let h2 : o2 ≡ o1 ++ condition = search rules in
    let h3 : o3 ≡ o2 ++ codes " { " = search rules in
    let h4 : o4 ≡ o3 ++ all = search rules in
    after start o1 o5 (codes "    if ") (condition ++ (codes " { " ++ (all ++ 125 ∷ 10 ∷ []))) h1
    (after o1 o2 o5 condition (codes " { " ++ (all ++ 125 ∷ 10 ∷ [])) h2
    (after o2 o3 o5 (codes " { ") (all ++ 125 ∷ 10 ∷ []) h3
    (after o3 o4 o5 all (125 ∷ 10 ∷ []) h4 last)))
    ∙ ap (λ (z : List ℕ). start ++ make z) (sym (flat_mapped assignment_text (assignment_item scope row) b.assigns))
    ∙ (let e : start ++ make (flat_map assignment_text (map (assignment_item scope row) b.assigns)) ≡ start ++ whole_case (case_item scope row b) = simp append_assoc in e))
    (search rules)
