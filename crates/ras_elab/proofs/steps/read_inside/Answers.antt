use Rattle.std.proofs.Common.{◌≡◌, ◌++◌, List, map, refl, sym, ◌∙◌, ap, subst}
use Rattle.std.specs.Prelude.{All}
use Rattle.ras_syntax.specs.declared.tree.Row.{Row}
use Rattle.ras_syntax.specs.declared.tree.Param.{Param}
use Rattle.ras_names.specs.Checks.{Check, for_each, declared_texts}
use Rattle.ras_names.specs.StepChecks.{row_checks, param_checks, inside_checks}
use Rattle.ras_names.proofs.Passing.{Passes}
use Rattle.ras_numbering.specs.Numbers.{declared_sort, declared_relation}
use Rattle.ras_numbering.specs.FileValues.{step_names}
use Rattle.ras_scope.specs.Answering.{Faults}
use Rattle.ras_scope.specs.Agreeing.{IsOfSort}
use Rattle.ras_elab.specs.Bodies.{IsOfRelation}
use Rattle.ras_scope.specs.Placing.{placed_row, placed_param, placed_step}
use Rattle.ras_scope.proofs.Following.{handed}
use Rattle.ras_elab.proofs.StepParts.{sees_step, step_names_are, row_part, param_part, rows_fail, params_fail, body_fails, inside_passes}
use Rattle.ras_elab.proofs.steps.read_inside.Goals as goal

pub returns-in_err-rows-clause-checks : goal.returns-in_err-rows-clause-checks
returns-in_err-rows-clause-checks c = λ p a.
    let s = c.args.step.now in
    let q = placed_step s in
    let d = c.args.declared.now in
    let e = c.in_err-rows.field-0.0 in
    handed (inside_checks p d.shared q) c.from_residual.result e c.from_residual.ensures.1
    (rows_fail p d.shared q e (subst (λ (rs : List Row). Faults (for_each (row_checks p d.shared (map placed_row rs)) (map placed_row rs)) e) c.as_slice.ensures.value (c.in_err-rows.ensures.checks p a.relations)))

pub returns-in_err-params-clause-checks : goal.returns-in_err-params-clause-checks
returns-in_err-params-clause-checks c = λ p a.
    let s = c.args.step.now in
    let q = placed_step s in
    let d = c.args.declared.now in
    let pass : Passes (row_part p d.shared q) = subst (λ (rs : List Row). Passes (for_each (row_checks p d.shared (map placed_row rs)) (map placed_row rs))) c.as_slice.ensures.value (c.in_ok-rows.ensures.checks p a.relations) in
    let row_names : c.in_ok-rows.rows.names ≡ declared_texts q.rows = c.in_ok-rows.ensures.names ∙ ap (λ (rs : List Row). declared_texts (map placed_row rs)) c.as_slice.ensures.value in
    let e = c.in_err-params.field-0.0 in
    handed (inside_checks p d.shared q) c.from_residual-in_err-params.result e c.from_residual-in_err-params.ensures.1
    (params_fail p d.shared q c.in_ok-rows.rows.names row_names pass e
    (subst (λ (cs : List Check). Faults cs e) (λ i. for_each (param_checks p (d.shared ++ c.names.ensures i) (map placed_param (c.as_slice-2.ensures.value i))) (map placed_param (c.as_slice-2.ensures.value i))) (c.in_err-params.ensures.checks p a.sorts)))

pub returns-in_err-body-clause-checks : goal.returns-in_err-body-clause-checks
returns-in_err-body-clause-checks c = λ p a.
    let s = c.args.step.now in
    let q = placed_step s in
    let d = c.args.declared.now in
    let pass : Passes (row_part p d.shared q) = subst (λ (rs : List Row). Passes (for_each (row_checks p d.shared (map placed_row rs)) (map placed_row rs))) c.as_slice.ensures.value (c.in_ok-rows.ensures.checks p a.relations) in
    let row_names : c.in_ok-rows.rows.names ≡ declared_texts q.rows = c.in_ok-rows.ensures.names ∙ ap (λ (rs : List Row). declared_texts (map placed_row rs)) c.as_slice.ensures.value in
    let also : Passes (param_part p d.shared q c.in_ok-rows.rows.names) =
    subst (λ (cs : List Check). Passes cs) (λ i. for_each (param_checks p (d.shared ++ c.names.ensures i) (map placed_param (c.as_slice-2.ensures.value i))) (map placed_param (c.as_slice-2.ensures.value i))) (c.in_ok-params.ensures.checks p a.sorts) in
    let param_names : c.in_ok-params.params.names ≡ declared_texts q.params = c.in_ok-params.ensures.names ∙ ap (λ (ps : List Param). declared_texts (map placed_param ps)) c.as_slice-2.ensures.value in
    let relations : c.in_ok-rows.rows.values.items ≡ map (declared_relation p) q.rows = c.in_ok-rows.ensures.values p a.relations ∙ ap (λ (rs : List Row). map (declared_relation p) (map placed_row rs)) c.as_slice.ensures.value in
    let known_rows : All (IsOfRelation p) q.rows = subst (λ (rs : List Row). All (IsOfRelation p) (map placed_row rs)) c.as_slice.ensures.value (c.in_ok-rows.ensures.known p a.relations) in
    let sorts : c.in_ok-params.params.values.items ≡ map (declared_sort p) q.params = c.in_ok-params.ensures.values p a.sorts ∙ ap (λ (ps : List Param). map (declared_sort p) (map placed_param ps)) c.as_slice-2.ensures.value in
    let known_params : All (IsOfSort p) q.params = subst (λ (ps : List Param). All (IsOfSort p) (map placed_param ps)) c.as_slice-2.ensures.value (c.in_ok-params.ensures.known p a.sorts) in
    let e = c.in_err-body.field-0.0 in
    handed (inside_checks p d.shared q) c.from_residual-in_err-body.result e c.from_residual-in_err-body.ensures.1
    (body_fails p d.shared q c.in_ok-rows.rows.names row_names pass c.in_ok-params.params.names param_names also e (c.in_err-body.ensures.checks (step_names p q) (sees_step _ p q.rows q.params a refl row_names relations known_rows param_names sorts known_params)))

pub returns-clause-checks : goal.returns-clause-checks
returns-clause-checks c = λ p a.
    let s = c.args.step.now in
    let q = placed_step s in
    let d = c.args.declared.now in
    let pass : Passes (row_part p d.shared q) = subst (λ (rs : List Row). Passes (for_each (row_checks p d.shared (map placed_row rs)) (map placed_row rs))) c.as_slice.ensures.value (c.in_ok-rows.ensures.checks p a.relations) in
    let row_names : c.in_ok-rows.rows.names ≡ declared_texts q.rows = c.in_ok-rows.ensures.names ∙ ap (λ (rs : List Row). declared_texts (map placed_row rs)) c.as_slice.ensures.value in
    let also : Passes (param_part p d.shared q c.in_ok-rows.rows.names) =
    subst (λ (cs : List Check). Passes cs) (λ i. for_each (param_checks p (d.shared ++ c.names.ensures i) (map placed_param (c.as_slice-2.ensures.value i))) (map placed_param (c.as_slice-2.ensures.value i))) (c.in_ok-params.ensures.checks p a.sorts) in
    let param_names : c.in_ok-params.params.names ≡ declared_texts q.params = c.in_ok-params.ensures.names ∙ ap (λ (ps : List Param). declared_texts (map placed_param ps)) c.as_slice-2.ensures.value in
    let relations : c.in_ok-rows.rows.values.items ≡ map (declared_relation p) q.rows = c.in_ok-rows.ensures.values p a.relations ∙ ap (λ (rs : List Row). map (declared_relation p) (map placed_row rs)) c.as_slice.ensures.value in
    let known_rows : All (IsOfRelation p) q.rows = subst (λ (rs : List Row). All (IsOfRelation p) (map placed_row rs)) c.as_slice.ensures.value (c.in_ok-rows.ensures.known p a.relations) in
    let sorts : c.in_ok-params.params.values.items ≡ map (declared_sort p) q.params = c.in_ok-params.ensures.values p a.sorts ∙ ap (λ (ps : List Param). map (declared_sort p) (map placed_param ps)) c.as_slice-2.ensures.value in
    let known_params : All (IsOfSort p) q.params = subst (λ (ps : List Param). All (IsOfSort p) (map placed_param ps)) c.as_slice-2.ensures.value (c.in_ok-params.ensures.known p a.sorts) in
    inside_passes p d.shared q c.in_ok-rows.rows.names row_names pass c.in_ok-params.params.names param_names also (c.in_ok-body.ensures.checks (step_names p q) (sees_step _ p q.rows q.params a refl row_names relations known_rows param_names sorts known_params))

pub returns-clause-value : goal.returns-clause-value
returns-clause-value c = λ p a.
    let s = c.args.step.now in
    let q = placed_step s in
    let d = c.args.declared.now in
    let row_names : c.in_ok-rows.rows.names ≡ declared_texts q.rows = c.in_ok-rows.ensures.names ∙ ap (λ (rs : List Row). declared_texts (map placed_row rs)) c.as_slice.ensures.value in
    let param_names : c.in_ok-params.params.names ≡ declared_texts q.params = c.in_ok-params.ensures.names ∙ ap (λ (ps : List Param). declared_texts (map placed_param ps)) c.as_slice-2.ensures.value in
    let relations : c.in_ok-rows.rows.values.items ≡ map (declared_relation p) q.rows = c.in_ok-rows.ensures.values p a.relations ∙ ap (λ (rs : List Row). map (declared_relation p) (map placed_row rs)) c.as_slice.ensures.value in
    let known_rows : All (IsOfRelation p) q.rows = subst (λ (rs : List Row). All (IsOfRelation p) (map placed_row rs)) c.as_slice.ensures.value (c.in_ok-rows.ensures.known p a.relations) in
    let sorts : c.in_ok-params.params.values.items ≡ map (declared_sort p) q.params = c.in_ok-params.ensures.values p a.sorts ∙ ap (λ (ps : List Param). map (declared_sort p) (map placed_param ps)) c.as_slice-2.ensures.value in
    let known_params : All (IsOfSort p) q.params = subst (λ (ps : List Param). All (IsOfSort p) (map placed_param ps)) c.as_slice-2.ensures.value (c.in_ok-params.ensures.known p a.sorts) in
    let guard = c.in_ok-body.ensures.guard (step_names p q) (sees_step _ p q.rows q.params a refl row_names relations known_rows param_names sorts known_params) in
    let updates = c.in_ok-body.ensures.updates (step_names p q) (sees_step _ p q.rows q.params a refl row_names relations known_rows param_names sorts known_params) in
    let bulk = c.in_ok-body.ensures.bulk (step_names p q) (sees_step _ p q.rows q.params a refl row_names relations known_rows param_names sorts known_params) in
    c.in_ok-read.ensures.transition ∙ (λ i. record { rows = relations i; params = sorts i; guard = guard i; updates = updates i; bulk = bulk i })

pub returns-clause-names : goal.returns-clause-names
returns-clause-names c =
    let s = c.args.step.now in
    let q = placed_step s in
    let row_names : c.in_ok-rows.rows.names ≡ declared_texts q.rows = c.in_ok-rows.ensures.names ∙ ap (λ (rs : List Row). declared_texts (map placed_row rs)) c.as_slice.ensures.value in
    let param_names : c.in_ok-params.params.names ≡ declared_texts q.params = c.in_ok-params.ensures.names ∙ ap (λ (ps : List Param). declared_texts (map placed_param ps)) c.as_slice-2.ensures.value in
    c.in_ok-read.ensures.names ∙ (λ i. record { name = s.name.text; rows = row_names i; params = param_names i; each = c.in_ok-body.ensures.rows i }) ∙ sym (step_names_are q)
