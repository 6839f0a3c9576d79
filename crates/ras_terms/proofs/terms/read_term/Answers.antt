use Rattle.std.proofs.Common.{◌≡◌, List, map, sym, ◌∙◌, ap, subst}
use Rattle.std.specs.Prelude.{IfOk}
use Rattle.ras_names.specs.TermChecks.{term_checks}
use Rattle.ras_terms.specs.declared.terms.Called.{Called}
use Rattle.ras_scope.specs.Answering.{Answers}
use Rattle.ras_terms.specs.Calling.{called_value, source_checks, applied, start_of}
use Rattle.ras_scope.specs.Placing.{placed_call, placed_term}
use Rattle.ras_scope.proofs.Following.{handed}
use Rattle.ras_terms.proofs.ReadTerms.{functions_pass, function_faults, base_faults, applied_checks, applied_read, bare_checks, bare_read}
use Rattle.ras_terms.proofs.terms.read_term.Goals as goal

pub returns-in_err-called-clause-checks : goal.returns-in_err-called-clause-checks
returns-in_err-called-clause-checks c = λ seen sees.
    let t = placed_term c.args.term.now in
    let e = c.in_err-called.field-0.0 in
    handed (term_checks seen t) c.from_residual.result e c.from_residual.ensures.1
    (function_faults c.args.scope.now seen sees t (map placed_call c.as_slice.result.now) e (ap (map placed_call) c.as_slice.ensures.value) c.in_err-called.ensures.checks)

pub returns-in_err-base-clause-checks : goal.returns-in_err-base-clause-checks
returns-in_err-base-clause-checks c = λ seen sees.
    let s = c.args.scope.now in
    let t = placed_term c.args.term.now in
    let e = c.in_err-base.field-0.0 in
    let functions = functions_pass s seen sees t (map placed_call c.as_slice.result.now) (ap (map placed_call) c.as_slice.ensures.value) c.in_ok-called.ensures.checks in
    handed (term_checks seen t) c.from_residual-in_err-base.result e c.from_residual-in_err-base.ensures.1 (base_faults s seen sees t functions e (c.in_err-base.ensures.checks seen sees))

pub returns-in-Some-clause-checks : goal.returns-in-Some-clause-checks
returns-in-Some-clause-checks c = λ seen sees.
    let s = c.args.scope.now in
    let t = placed_term c.args.term.now in
    let names = ap (map placed_call) c.as_slice.ensures.value in
    let functions = functions_pass s seen sees t (map placed_call c.as_slice.result.now) names c.in_ok-called.ensures.checks in
    let called = c.in_ok-called.ensures.value seen.file sees.agrees ∙ ap (map (called_value seen.file)) names in
    let start = ap (λ (cs : List Called). start_of cs c.in_ok-base.base) (sym c.as_slice-2.ensures.value) ∙ sym c.in-Some.ensures in
    applied_checks s seen sees t functions (c.in_ok-base.ensures.checks seen sees) c.in_ok-called.called.items called c.in_ok-base.base (c.in_ok-base.ensures.value seen sees) (c.in-Some.base, c.in-Some.sort)
    c.apply.result start (subst (λ (cs : List Called). Answers (source_checks c.in-Some.sort cs) c.apply.result) c.as_slice-in-Some.ensures.value c.apply.ensures.checks)

pub returns-in-Some-clause-value : goal.returns-in-Some-clause-value
returns-in-Some-clause-value c = λ seen sees.
    let s = c.args.scope.now in
    let t = placed_term c.args.term.now in
    let names = ap (map placed_call) c.as_slice.ensures.value in
    let functions = functions_pass s seen sees t (map placed_call c.as_slice.result.now) names c.in_ok-called.ensures.checks in
    let called = c.in_ok-called.ensures.value seen.file sees.agrees ∙ ap (map (called_value seen.file)) names in
    let start = ap (λ (cs : List Called). start_of cs c.in_ok-base.base) (sym c.as_slice-2.ensures.value) ∙ sym c.in-Some.ensures in
    applied_read s seen sees t functions (c.in_ok-base.ensures.checks seen sees) c.in_ok-called.called.items called c.in_ok-base.base (c.in_ok-base.ensures.value seen sees) (c.in-Some.base, c.in-Some.sort)
    c.apply.result start (subst (λ (cs : List Called). IfOk c.apply.result (λ m. m ≡ applied c.in-Some.base c.in-Some.sort cs)) c.as_slice-in-Some.ensures.value c.apply.ensures.value)

pub returns-clause-checks : goal.returns-clause-checks
returns-clause-checks c = λ seen sees.
    let s = c.args.scope.now in
    let t = placed_term c.args.term.now in
    let names = ap (map placed_call) c.as_slice.ensures.value in
    let functions = functions_pass s seen sees t (map placed_call c.as_slice.result.now) names c.in_ok-called.ensures.checks in
    let called = c.in_ok-called.ensures.value seen.file sees.agrees ∙ ap (map (called_value seen.file)) names in
    let start = ap (λ (cs : List Called). start_of cs c.in_ok-base.base) (sym c.as_slice-2.ensures.value) ∙ sym c.in-None.ensures in
    bare_checks s seen sees t functions (c.in_ok-base.ensures.checks seen sees) c.in_ok-called.called.items called c.in_ok-base.base (c.in_ok-base.ensures.value seen sees) start

pub returns-clause-value : goal.returns-clause-value
returns-clause-value c = λ seen sees.
    let s = c.args.scope.now in
    let t = placed_term c.args.term.now in
    let names = ap (map placed_call) c.as_slice.ensures.value in
    let functions = functions_pass s seen sees t (map placed_call c.as_slice.result.now) names c.in_ok-called.ensures.checks in
    let called = c.in_ok-called.ensures.value seen.file sees.agrees ∙ ap (map (called_value seen.file)) names in
    let start = ap (λ (cs : List Called). start_of cs c.in_ok-base.base) (sym c.as_slice-2.ensures.value) ∙ sym c.in-None.ensures in
    bare_read s seen sees t functions (c.in_ok-base.ensures.checks seen sees) c.in_ok-called.called.items called c.in_ok-base.base (c.in_ok-base.ensures.value seen sees) start
