use Rattle.std.proofs.Common.{◌≡◌, [], List, length, map, refl, sym, ◌∙◌, ap, subst, arith}
use Rattle.std.specs.Prelude.{All}
use Rattle.std.proofs.lemmas.List.{length-map}
use Rattle.ras_logic.specs.declared.literal.Literal.{Literal}
use Rattle.ras_logic.specs.Formulas.{HasNoParam}
use Rattle.ras_syntax.specs.declared.tree.Row.{Row}
use Rattle.ras_syntax.specs.Grammar as grammar
use Rattle.ras_names.specs.Placed.{disjuncts}
use Rattle.ras_names.specs.Unplaced.{row_of, conjunction_of}
use Rattle.ras_names.specs.Checks.{for_each, declared_texts}
use Rattle.ras_names.specs.TermChecks.{guard_checks}
use Rattle.ras_names.specs.StepChecks.{row_checks}
use Rattle.ras_names.proofs.Among.{map-map}
use Rattle.ras_names.proofs.Passing.{Passes, pass_both}
use Rattle.ras_numbering.specs.Numbers.{declared_relation}
use Rattle.ras_numbering.specs.TermValues.{conjunction_value}
use Rattle.ras_numbering.specs.FileValues.{goal_names}
use Rattle.ras_scope.specs.Answering.{Faults}
use Rattle.ras_elab.specs.Bodies.{IsOfRelation}
use Rattle.ras_elab.specs.Goals.{cube_of, item_checks}
use Rattle.ras_scope.specs.Placing.{placed_row, placed_goal}
use Rattle.ras_scope.proofs.Following.{handed, faults_stay, faults_follow}
use Rattle.ras_elab.proofs.StepParts.{sees_step}
use Rattle.ras_elab.proofs.GoalParts.{few_disjuncts, guard_no_param}
use Rattle.ras_elab.proofs.goals.read_item.Goals as goal

pub returns-in_err-rows-clause-checks : goal.returns-in_err-rows-clause-checks
returns-in_err-rows-clause-checks c = λ p a.
    let g = placed_goal c.args.goal.now in
    let shared = c.args.declared.now.shared in
    let e = c.in_err-rows.field-0.0 in
    handed (item_checks p shared c.args.above g) c.from_residual.result e c.from_residual.ensures.1
    (faults_stay (for_each (row_checks p shared g.rows) g.rows) (guard_checks (goal_names p g) c.args.above g.guard) e
    (subst (λ (rs : List Row). Faults (for_each (row_checks p shared (map placed_row rs)) (map placed_row rs)) e) c.as_slice.ensures.value (c.in_err-rows.ensures.checks p a.relations)))

pub returns-in_err-disjuncts-clause-checks : goal.returns-in_err-disjuncts-clause-checks
returns-in_err-disjuncts-clause-checks c = λ p a.
    let g = placed_goal c.args.goal.now in
    let shared = c.args.declared.now.shared in
    let rows : Passes (for_each (row_checks p shared g.rows) g.rows) = subst (λ (rs : List Row). Passes (for_each (row_checks p shared (map placed_row rs)) (map placed_row rs))) c.as_slice.ensures.value (c.in_ok-rows.ensures.checks p a.relations) in
    let row_names : c.in_ok-rows.rows.names ≡ declared_texts g.rows = c.in_ok-rows.ensures.names ∙ ap (λ (rs : List Row). declared_texts (map placed_row rs)) c.as_slice.ensures.value in
    let relations : c.in_ok-rows.rows.values.items ≡ map (declared_relation p) g.rows = c.in_ok-rows.ensures.values p a.relations ∙ ap (λ (rs : List Row). map (declared_relation p) (map placed_row rs)) c.as_slice.ensures.value in
    let known : All (IsOfRelation p) g.rows = subst (λ (rs : List Row). All (IsOfRelation p) (map placed_row rs)) c.as_slice.ensures.value (c.in_ok-rows.ensures.known p a.relations) in
    let e = c.in_err-disjuncts.field-0.0 in
    handed (item_checks p shared c.args.above g) c.from_residual-in_err-disjuncts.result e c.from_residual-in_err-disjuncts.ensures.1
    (faults_follow (for_each (row_checks p shared g.rows) g.rows) (guard_checks (goal_names p g) c.args.above g.guard) e rows (c.in_err-disjuncts.ensures.checks (goal_names p g) (sees_step _ p g.rows [] a refl row_names relations known c.new-params.ensures.names c.new-params.ensures.values (λ k d lt. absurd (omega (arith, lt))))))

pub returns-clause-checks : goal.returns-clause-checks
returns-clause-checks c = λ p a.
    let g = placed_goal c.args.goal.now in
    let shared = c.args.declared.now.shared in
    let rows : Passes (for_each (row_checks p shared g.rows) g.rows) = subst (λ (rs : List Row). Passes (for_each (row_checks p shared (map placed_row rs)) (map placed_row rs))) c.as_slice.ensures.value (c.in_ok-rows.ensures.checks p a.relations) in
    let row_names : c.in_ok-rows.rows.names ≡ declared_texts g.rows = c.in_ok-rows.ensures.names ∙ ap (λ (rs : List Row). declared_texts (map placed_row rs)) c.as_slice.ensures.value in
    let relations : c.in_ok-rows.rows.values.items ≡ map (declared_relation p) g.rows = c.in_ok-rows.ensures.values p a.relations ∙ ap (λ (rs : List Row). map (declared_relation p) (map placed_row rs)) c.as_slice.ensures.value in
    let known : All (IsOfRelation p) g.rows = subst (λ (rs : List Row). All (IsOfRelation p) (map placed_row rs)) c.as_slice.ensures.value (c.in_ok-rows.ensures.known p a.relations) in
    pass_both (for_each (row_checks p shared g.rows) g.rows) (guard_checks (goal_names p g) c.args.above g.guard) rows (c.in_ok-disjuncts.ensures.checks (goal_names p g) (sees_step _ p g.rows [] a refl row_names relations known c.new-params.ensures.names c.new-params.ensures.values (λ k d lt. absurd (omega (arith, lt)))))

pub returns-clause-values : goal.returns-clause-values
returns-clause-values c = λ p a.
    let g = placed_goal c.args.goal.now in
    let shared = c.args.declared.now.shared in
    let row_names : c.in_ok-rows.rows.names ≡ declared_texts g.rows = c.in_ok-rows.ensures.names ∙ ap (λ (rs : List Row). declared_texts (map placed_row rs)) c.as_slice.ensures.value in
    let relations : c.in_ok-rows.rows.values.items ≡ map (declared_relation p) g.rows = c.in_ok-rows.ensures.values p a.relations ∙ ap (λ (rs : List Row). map (declared_relation p) (map placed_row rs)) c.as_slice.ensures.value in
    let known : All (IsOfRelation p) g.rows = subst (λ (rs : List Row). All (IsOfRelation p) (map placed_row rs)) c.as_slice.ensures.value (c.in_ok-rows.ensures.known p a.relations) in
    let made = c.in_ok-disjuncts.ensures.value (goal_names p g) (sees_step _ p g.rows [] a refl row_names relations known c.new-params.ensures.names c.new-params.ensures.values (λ k d lt. absurd (omega (arith, lt)))) in
    (λ i. map (cube_of (relations i)) (made i)) ∙ map-map (cube_of (map (declared_relation p) g.rows)) (conjunction_value (goal_names p g)) (disjuncts g.guard)

pub returns-clause-no_params : goal.returns-clause-no_params
returns-clause-no_params c = λ of.
    let p = of.file in
    let a = of.agrees in
    let g = placed_goal c.args.goal.now in
    let shared = c.args.declared.now.shared in
    let row_names : c.in_ok-rows.rows.names ≡ declared_texts g.rows = c.in_ok-rows.ensures.names ∙ ap (λ (rs : List Row). declared_texts (map placed_row rs)) c.as_slice.ensures.value in
    let relations : c.in_ok-rows.rows.values.items ≡ map (declared_relation p) g.rows = c.in_ok-rows.ensures.values p a.relations ∙ ap (λ (rs : List Row). map (declared_relation p) (map placed_row rs)) c.as_slice.ensures.value in
    let known : All (IsOfRelation p) g.rows = subst (λ (rs : List Row). All (IsOfRelation p) (map placed_row rs)) c.as_slice.ensures.value (c.in_ok-rows.ensures.known p a.relations) in
    let made = c.in_ok-disjuncts.ensures.value (goal_names p g) (sees_step _ p g.rows [] a refl row_names relations known c.new-params.ensures.names c.new-params.ensures.values (λ k d lt. absurd (omega (arith, lt)))) in
    subst (λ (ds : List (List Literal)). All (All HasNoParam) ds) (sym made) (guard_no_param (goal_names p g) refl c.args.above g.guard (c.in_ok-disjuncts.ensures.checks (goal_names p g) (sees_step _ p g.rows [] a refl row_names relations known c.new-params.ensures.names c.new-params.ensures.values (λ k d lt. absurd (omega (arith, lt))))))

pub returns-clause-few : goal.returns-clause-few
returns-clause-few c = λ of.
    let p = of.file in
    let a = of.agrees in
    let g = placed_goal c.args.goal.now in
    let shared = c.args.declared.now.shared in
    let row_names : c.in_ok-rows.rows.names ≡ declared_texts g.rows = c.in_ok-rows.ensures.names ∙ ap (λ (rs : List Row). declared_texts (map placed_row rs)) c.as_slice.ensures.value in
    let relations : c.in_ok-rows.rows.values.items ≡ map (declared_relation p) g.rows = c.in_ok-rows.ensures.values p a.relations ∙ ap (λ (rs : List Row). map (declared_relation p) (map placed_row rs)) c.as_slice.ensures.value in
    let known : All (IsOfRelation p) g.rows = subst (λ (rs : List Row). All (IsOfRelation p) (map placed_row rs)) c.as_slice.ensures.value (c.in_ok-rows.ensures.known p a.relations) in
    let made = c.in_ok-disjuncts.ensures.value (goal_names p g) (sees_step _ p g.rows [] a refl row_names relations known c.new-params.ensures.names c.new-params.ensures.values (λ k d lt. absurd (omega (arith, lt)))) in
    let few = few_disjuncts (goal_names p g) c.args.above g.guard (c.in_ok-disjuncts.ensures.checks (goal_names p g) (sees_step _ p g.rows [] a refl row_names relations known c.new-params.ensures.names c.new-params.ensures.values (λ k d lt. absurd (omega (arith, lt))))) in
    let n = ap length made in
    let m = length-map (disjuncts g.guard) (conjunction_value (goal_names p g)) in omega (arith, few, n, m)

pub returns-clause-names : goal.returns-clause-names
returns-clause-names c =
    let g = placed_goal c.args.goal.now in
    c.in_ok-rows.ensures.names ∙ ap (λ (rs : List Row). declared_texts (map placed_row rs)) c.as_slice.ensures.value ∙ sym (map-map (λ (r : grammar.Row). r.name) row_of g.rows)

pub returns-clause-count : goal.returns-clause-count
returns-clause-count c = λ of.
    let p = of.file in
    let a = of.agrees in
    let g = placed_goal c.args.goal.now in
    let shared = c.args.declared.now.shared in
    let row_names : c.in_ok-rows.rows.names ≡ declared_texts g.rows = c.in_ok-rows.ensures.names ∙ ap (λ (rs : List Row). declared_texts (map placed_row rs)) c.as_slice.ensures.value in
    let relations : c.in_ok-rows.rows.values.items ≡ map (declared_relation p) g.rows = c.in_ok-rows.ensures.values p a.relations ∙ ap (λ (rs : List Row). map (declared_relation p) (map placed_row rs)) c.as_slice.ensures.value in
    let known : All (IsOfRelation p) g.rows = subst (λ (rs : List Row). All (IsOfRelation p) (map placed_row rs)) c.as_slice.ensures.value (c.in_ok-rows.ensures.known p a.relations) in
    let made = c.in_ok-disjuncts.ensures.value (goal_names p g) (sees_step _ p g.rows [] a refl row_names relations known c.new-params.ensures.names c.new-params.ensures.values (λ k d lt. absurd (omega (arith, lt)))) in
    let n = ap length made in
    let m = length-map (disjuncts g.guard) (conjunction_value (goal_names p g)) in
    let k = length-map (disjuncts g.guard) conjunction_of in n ∙ m ∙ sym k
