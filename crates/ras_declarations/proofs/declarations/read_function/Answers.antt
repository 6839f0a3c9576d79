use Rattle.std.proofs.Common.{◌≡◌, ◌<◌, ℕ, List, length, sym, ◌∙◌, ap, subst, arith}
use Rattle.std.specs.Prelude.{All, Result, Err}
use Rattle.ras_logic.specs.declared.function.FunDecl.{FunDecl}
use Rattle.ras_logic.specs.Schemas.{HasSorts}
use Rattle.ras_logic.proofs.Walks.{lead}
use Rattle.ras_names.specs.declared.spec_fault.SpecKind.TheVariants.{Cycle}
use Rattle.ras_names.specs.Checks.{declared_checks}
use Rattle.ras_names.specs.FileChecks.{function_checks}
use Rattle.ras_names.proofs.Passing.{Passes}
use Rattle.ras_scope.specs.declared.fault.SpecError.{SpecError}
use Rattle.ras_scope.specs.declared.fault.SpecError.TheVariants.{Fault}
use Rattle.ras_scope.specs.Answering.{Answers, Faults}
use Rattle.ras_scope.specs.Placing.{placed_function}
use Rattle.ras_scope.proofs.Following.{handed}
use Rattle.ras_declarations.proofs.NamedLeads.{number_below}
use Rattle.ras_declarations.proofs.FunctionParts.{name_fails, source_fails, target_fails, closes_is, cycle_fails, all_pass}
use Rattle.ras_declarations.proofs.declarations.read_function.Goals as goal

pub leads-requires-clause-from : goal.leads-requires-clause-from
leads-requires-clause-from c =
    let lt : c.in_ok-target.target.n < length c.args.sorts.now = number_below c.args.sorts.now c.args.function.now.target.text c.in_ok-target.target.n c.in_ok-target.ensures.number in
    omega (arith, lt, c.requires.few)

pub leads-requires-clause-to : goal.leads-requires-clause-to
leads-requires-clause-to c =
    let lt : c.in_ok-source.source.n < length c.args.sorts.now = number_below c.args.sorts.now c.args.function.now.source.text c.in_ok-source.source.n c.in_ok-source.ensures.number in
    omega (arith, lt, c.requires.few)

pub leads-requires-clause-functions : goal.leads-requires-clause-functions
leads-requires-clause-functions c = subst (λ (fs : List FunDecl). All (HasSorts 64) fs) (sym c.values.ensures.values) c.requires.known

pub returns-in_err-check_name-clause-checks : goal.returns-in_err-check_name-clause-checks
returns-in_err-check_name-clause-checks c = λ p n a.
    let f = placed_function c.args.function.now in
    let shared = c.args.shared.now in
    let e = c.in_err-check_name.field-0.0 in
    let count : c.len.result ≡ length c.args.above.now.names = c.len.ensures ∙ ap length c.names.ensures in
    handed (function_checks p n f) c.from_residual.result e c.from_residual.ensures.1
    (name_fails p n shared c.args.sorts.now c.args.above.now f a e (subst (λ (k : ℕ). Faults (declared_checks 256 k shared f.name) e) count c.in_err-check_name.ensures))

pub returns-in_err-source-clause-checks : goal.returns-in_err-source-clause-checks
returns-in_err-source-clause-checks c = λ p n a.
    let f = placed_function c.args.function.now in
    let shared = c.args.shared.now in
    let e = c.in_err-source.field-0.0 in
    let count : c.len.result ≡ length c.args.above.now.names = c.len.ensures ∙ ap length c.names.ensures in
    let pass : Passes (declared_checks 256 (length c.args.above.now.names) shared f.name) = subst (λ (k : ℕ). Passes (declared_checks 256 k shared f.name)) count c.in_ok-check_name.ensures in
    handed (function_checks p n f) c.from_residual-in_err-source.result e c.from_residual-in_err-source.ensures.1
    (source_fails p n shared c.args.sorts.now c.args.above.now f a e pass c.in_err-source.ensures.checks)

pub returns-in_err-target-clause-checks : goal.returns-in_err-target-clause-checks
returns-in_err-target-clause-checks c = λ p n a.
    let f = placed_function c.args.function.now in
    let shared = c.args.shared.now in
    let e = c.in_err-target.field-0.0 in
    let count : c.len.result ≡ length c.args.above.now.names = c.len.ensures ∙ ap length c.names.ensures in
    let pass : Passes (declared_checks 256 (length c.args.above.now.names) shared f.name) = subst (λ (k : ℕ). Passes (declared_checks 256 k shared f.name)) count c.in_ok-check_name.ensures in
    handed (function_checks p n f) c.from_residual-in_err-target.result e c.from_residual-in_err-target.ensures.1
    (target_fails p n shared c.args.sorts.now c.args.above.now f a e pass c.in_ok-source.ensures.checks c.in_err-target.ensures.checks)

pub returns-then-leads-clause-checks : goal.returns-then-leads-clause-checks
returns-then-leads-clause-checks c = λ p n a.
    let f = placed_function c.args.function.now in
    let shared = c.args.shared.now in
    let sorts = c.args.sorts.now in
    let above = c.args.above.now in
    let count : c.len.result ≡ length above.names = c.len.ensures ∙ ap length c.names.ensures in
    let pass : Passes (declared_checks 256 (length above.names) shared f.name) = subst (λ (k : ℕ). Passes (declared_checks 256 k shared f.name)) count c.in_ok-check_name.ensures in
    let closes = closes_is p n shared sorts above f a c.in_ok-source.source.n c.in_ok-target.target.n c.in_ok-source.ensures.number c.in_ok-target.ensures.number c.in_ok-source.ensures.checks c.in_ok-target.ensures.checks in
    let code : c.leads.result ≡ lead above.values.items (length sorts) c.in_ok-target.target.n c.in_ok-source.source.n =
    c.leads.ensures ∙ (λ i. lead (c.values.ensures.values i) (c.len-sort_count.ensures i) c.in_ok-target.target.n c.in_ok-source.source.n) in
    let is = sym closes ∙ sym code ∙ c.if-leads.true in
    let counted : c.count.result ≡ length above.names = c.count.ensures ∙ ap length c.names-then-leads.ensures in
    subst (λ (r : Result FunDecl SpecError). Answers (function_checks p n f) r) (sym (c.fault.ensures ∙ (λ i. Err (Fault (record { at = f.name.at; kind = Cycle (record { n = counted i }) })))))
    (cycle_fails p n shared sorts above f a pass c.in_ok-source.ensures.checks c.in_ok-target.ensures.checks is)

pub returns-clause-checks : goal.returns-clause-checks
returns-clause-checks c = λ p n a.
    let f = placed_function c.args.function.now in
    let shared = c.args.shared.now in
    let sorts = c.args.sorts.now in
    let above = c.args.above.now in
    let count : c.len.result ≡ length above.names = c.len.ensures ∙ ap length c.names.ensures in
    let pass : Passes (declared_checks 256 (length above.names) shared f.name) = subst (λ (k : ℕ). Passes (declared_checks 256 k shared f.name)) count c.in_ok-check_name.ensures in
    let closes = closes_is p n shared sorts above f a c.in_ok-source.source.n c.in_ok-target.target.n c.in_ok-source.ensures.number c.in_ok-target.ensures.number c.in_ok-source.ensures.checks c.in_ok-target.ensures.checks in
    let code : c.leads.result ≡ lead above.values.items (length sorts) c.in_ok-target.target.n c.in_ok-source.source.n =
    c.leads.ensures ∙ (λ i. lead (c.values.ensures.values i) (c.len-sort_count.ensures i) c.in_ok-target.target.n c.in_ok-source.source.n) in
    all_pass p n shared sorts above f a pass c.in_ok-source.ensures.checks c.in_ok-target.ensures.checks (sym closes ∙ sym code ∙ c.if-leads.false)
