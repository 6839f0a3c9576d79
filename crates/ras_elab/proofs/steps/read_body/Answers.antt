use Rattle.std.proofs.Common.{◌++◌, List, map, ◌∙◌, ap, subst}
use Rattle.ras_syntax.specs.declared.tree.Update.{Update}
use Rattle.ras_syntax.specs.declared.tree.Each.{Each}
use Rattle.ras_names.specs.Checks.{Check, for_each}
use Rattle.ras_names.specs.TermChecks as checks
use Rattle.ras_names.specs.TermChecks.{guard_checks}
use Rattle.ras_names.specs.StepChecks.{update_checks, each_checks}
use Rattle.ras_names.proofs.Passing.{Passes, pass_both}
use Rattle.ras_names.specs.Placed as placed
use Rattle.ras_syntax.specs.Grammar.{Text}
use Rattle.ras_numbering.specs.FileValues.{update_value, cases_value}
use Rattle.ras_scope.specs.Answering.{Faults}
use Rattle.ras_elab.specs.Bodies.{body_checks}
use Rattle.ras_scope.specs.Seeing.{step_texts}
use Rattle.ras_scope.specs.Placing.{placed_update, placed_each, placed_step}
use Rattle.ras_scope.proofs.Following.{handed, faults_stay, faults_follow}
use Rattle.ras_elab.proofs.steps.read_body.Goals as goal

abbrev guards : checks.Scope → placed.Step → List Check
guards seen s = guard_checks seen 0 s.guard

abbrev updates_of : checks.Scope → List Update → List Check
updates_of seen us = for_each (update_checks seen (map placed_update us)) (map placed_update us)

abbrev eachs_of : checks.Scope → List Text → List Each → List Check
eachs_of seen names es = for_each (each_checks seen names (map placed_each es)) (map placed_each es)

pub returns-in_err-guard-clause-checks : goal.returns-in_err-guard-clause-checks
returns-in_err-guard-clause-checks c = λ seen sees.
    let s = c.args.step.now in
    let names = step_texts c.args.scope.now in
    let e = c.in_err-guard.field-0.0 in
    handed (body_checks seen names (placed_step s)) c.from_residual.result e c.from_residual.ensures.1
    (faults_stay (guards seen (placed_step s)) (updates_of seen s.updates.items ++ eachs_of seen names s.eachs.items) e (c.in_err-guard.ensures.checks seen sees))

pub returns-in_err-updates-clause-checks : goal.returns-in_err-updates-clause-checks
returns-in_err-updates-clause-checks c = λ seen sees.
    let s = c.args.step.now in
    let names = step_texts c.args.scope.now in
    let e = c.in_err-updates.field-0.0 in
    handed (body_checks seen names (placed_step s)) c.from_residual-in_err-updates.result e c.from_residual-in_err-updates.ensures.1
    (faults_follow (guards seen (placed_step s)) (updates_of seen s.updates.items ++ eachs_of seen names s.eachs.items) e (c.in_ok-guard.ensures.checks seen sees)
    (faults_stay (updates_of seen s.updates.items) (eachs_of seen names s.eachs.items) e
    (subst (λ (us : List Update). Faults (updates_of seen us) e) c.as_slice.ensures.value (c.in_err-updates.ensures.checks seen sees))))

pub returns-in_err-cases-clause-checks : goal.returns-in_err-cases-clause-checks
returns-in_err-cases-clause-checks c = λ seen sees.
    let s = c.args.step.now in
    let names = step_texts c.args.scope.now in
    let e = c.in_err-cases.field-0.0 in
    handed (body_checks seen names (placed_step s)) c.from_residual-in_err-cases.result e c.from_residual-in_err-cases.ensures.1
    (faults_follow (guards seen (placed_step s)) (updates_of seen s.updates.items ++ eachs_of seen names s.eachs.items) e (c.in_ok-guard.ensures.checks seen sees)
    (faults_follow (updates_of seen s.updates.items) (eachs_of seen names s.eachs.items) e
    (subst (λ (us : List Update). Passes (updates_of seen us)) c.as_slice.ensures.value (c.in_ok-updates.ensures.checks seen sees))
    (subst (λ (es : List Each). Faults (eachs_of seen names es) e) c.as_slice-2.ensures.value (c.in_err-cases.ensures.checks seen sees))))

pub returns : goal.returns
returns c =
    let s = c.args.step.now in
    let names = step_texts c.args.scope.now in
    record {
      checks = λ seen sees.
          pass_both (guards seen (placed_step s)) (updates_of seen s.updates.items ++ eachs_of seen names s.eachs.items) (c.in_ok-guard.ensures.checks seen sees)
          (pass_both (updates_of seen s.updates.items) (eachs_of seen names s.eachs.items)
          (subst (λ (us : List Update). Passes (updates_of seen us)) c.as_slice.ensures.value (c.in_ok-updates.ensures.checks seen sees))
          (subst (λ (es : List Each). Passes (eachs_of seen names es)) c.as_slice-2.ensures.value (c.in_ok-cases.ensures.checks seen sees)));
      guard = c.in_ok-guard.ensures.value;
      updates = λ seen sees. c.in_ok-updates.ensures.value seen sees ∙ ap (λ (us : List Update). map (update_value seen) (map placed_update us)) c.as_slice.ensures.value;
      bulk = λ seen sees. c.in_ok-cases.ensures.bulk seen sees ∙ ap (λ (es : List Each). cases_value seen (map placed_each es)) c.as_slice-2.ensures.value;
      rows = c.in_ok-cases.ensures.rows ∙ ap (λ (es : List Each). map (λ (e : placed.Each). e.row.text) (map placed_each es)) c.as_slice-2.ensures.value;
    }
