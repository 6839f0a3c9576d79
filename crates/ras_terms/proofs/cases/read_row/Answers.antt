use Rattle.std.proofs.Common.{◌≡◌, List, false, sym, ◌∙◌, ap}
use Rattle.ras_syntax.specs.Grammar.{Text}
use Rattle.ras_names.specs.Checks.{is_among}
use Rattle.ras_scope.specs.Placing.{placed_each}
use Rattle.ras_scope.specs.Seeing.{step_texts}
use Rattle.ras_terms.proofs.ReadCases.{new_name, relation_above, row_repeats, row_passes}
use Rattle.ras_terms.proofs.cases.read_row.Goals as goal

pub returns-then-contains-clause-checks : goal.returns-then-contains-clause-checks
returns-then-contains-clause-checks c = λ seen before sees same known.
    let s = c.args.scope.now in
    let e = placed_each c.args.each.now in
    let name = c.args.each.now.row.text in
    let shared : is_among s.declared.now.shared name ≡ false = sym c.has.ensures ∙ c.if-has.false in
    let rows : is_among s.rows.now.names name ≡ false = ap (λ (ts : List Text). is_among ts name) (sym c.names.ensures) ∙ sym c.has-else-has.ensures ∙ c.if-has-2.false in
    let params : is_among s.params.now.names name ≡ false = ap (λ (ts : List Text). is_among ts name) (sym c.names-else-has-2.ensures) ∙ sym c.has-else-has-2.ensures ∙ c.if-has-3.false in
    let repeated = sym (relation_above s seen sees before e c.in_ok-relation.ensures.checks c.args.above.now c.in_ok-relation.relation c.in_ok-relation.ensures.number same known) ∙ sym c.if-contains.ensures.value in
    rw c.fault-then-contains.ensures (row_repeats s seen sees before e c.in_ok-relation.ensures.checks (step_texts s) (new_name s name shared rows params) repeated)

pub returns-clause-checks : goal.returns-clause-checks
returns-clause-checks c = λ seen before sees same known.
    let s = c.args.scope.now in
    let e = placed_each c.args.each.now in
    let name = c.args.each.now.row.text in
    let shared : is_among s.declared.now.shared name ≡ false = sym c.has.ensures ∙ c.if-has.false in
    let rows : is_among s.rows.now.names name ≡ false = ap (λ (ts : List Text). is_among ts name) (sym c.names.ensures) ∙ sym c.has-else-has.ensures ∙ c.if-has-2.false in
    let params : is_among s.params.now.names name ≡ false = ap (λ (ts : List Text). is_among ts name) (sym c.names-else-has-2.ensures) ∙ sym c.has-else-has-2.ensures ∙ c.if-has-3.false in
    let new = sym (relation_above s seen sees before e c.in_ok-relation.ensures.checks c.args.above.now c.in_ok-relation.relation c.in_ok-relation.ensures.number same known) ∙ sym c.if-contains.ensures.value in
    row_passes s seen sees before e c.in_ok-relation.ensures.checks (step_texts s) (new_name s name shared rows params) new
