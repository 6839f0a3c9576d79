use Rattle.std.proofs.Common.{◌≡◌, [], ◌∷◌, refl, subst, ◌∙◌, ap, arith, ◌≤◌, length, map}
use Rattle.std.specs.Prelude.{None}
use Rattle.ras_syntax.specs.declared.tree.Call.{Call}
use Rattle.ras_names.specs.Checks.{first_of, used_check}
use Rattle.ras_scope.specs.Placing.{placed_call}
use Rattle.ras_scope.specs.Answering.{Faults}
use Rattle.ras_terms.proofs.InOrder.{passed_more, passed_error, passed_all}
use Rattle.ras_terms.specs.Calling.{called_value}
use Rattle.ras_names.proofs.Among.{map-map}
use Rattle.ras_scope.proofs.Following.{handed}
use Rattle.ras_terms.proofs.Applying.{function_found}
use Rattle.ras_scope.proofs.Reading.{read_more, read_end}
use Rattle.ras_terms.proofs.terms.read_calls.Goals as goal

pub loop-call-init : goal.loop-call-init
loop-call-init c = record { passed = refl; read = λ file agrees. cc }

pub returns-in_err-function-clause-checks : goal.returns-in_err-function-clause-checks
returns-in_err-function-clause-checks c =
    let names = c.args.declared.now.functions.names in
    let check = λ (call : Call). used_check names (placed_call call) in
    rw (map-map (used_check names) placed_call c.args.calls.now) (handed (map check c.args.calls.now) c.from_residual.result c.in_err-function.field-0.0 c.from_residual.ensures.1
    (passed_error check c.args.calls.now c.loop-call.call-index c.call-item.result c.in_err-function.field-0.0 c.loop-call-test.true c.loop-call.invariant.passed
    (subst (λ (x : Call). Faults (used_check names (placed_call x) ∷ []) c.in_err-function.field-0.0) c.call-item.is c.in_err-function.ensures.checks)))

pub loop-call-preserved : goal.loop-call-preserved
loop-call-preserved c =
    let names = c.args.declared.now.functions.names in
    let call = c.call-item.result in record {
      passed = passed_more (λ (x : Call). used_check names (placed_call x)) c.args.calls.now c.loop-call.call-index call c.loop-call-test.true c.loop-call.invariant.passed
          (subst (λ (x : Call). first_of (used_check names (placed_call x) ∷ []) ≡ None) c.call-item.is c.in_ok-function.ensures.checks);
      read = λ file agrees. let e = read_more placed_call (called_value file) c.args.calls.now c.loop-call.call-index call c.loop-call.called.items _ c.loop-call-test.true c.call-item.is
          (c.loop-call.invariant.read file agrees) (function_found file c.args.declared.now (placed_call call) c.in_ok-function.function.n c.in_ok-function.decl agrees c.in_ok-function.ensures.found) in c.in_ok-push.ensures.items ∙ e;
    }

pub returns-clause-checks : goal.returns-clause-checks
returns-clause-checks c =
    let names = c.args.declared.now.functions.names in
    let done : length c.args.calls.now ≤ c.loop-call.call-index = omega (arith, c.loop-call-test.false) in
    ap first_of (map-map (used_check names) placed_call c.args.calls.now) ∙ passed_all (λ (call : Call). used_check names (placed_call call)) c.args.calls.now c.loop-call.call-index done c.loop-call.invariant.passed

pub returns-clause-value : goal.returns-clause-value
returns-clause-value c = λ file agrees.
    let done : length c.args.calls.now ≤ c.loop-call.call-index = omega (arith, c.loop-call-test.false) in
    read_end placed_call (called_value file) c.args.calls.now c.loop-call.call-index c.loop-call.called.items done (c.loop-call.invariant.read file agrees)
