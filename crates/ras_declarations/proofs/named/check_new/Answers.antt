use Rattle.std.proofs.Common.{ℕ, List, ◌++◌, length, sym, ◌∙◌, subst}
use Rattle.std.specs.Prelude.{Result}
use Rattle.ras_syntax.specs.Grammar.{Text}
use Rattle.ras_names.specs.Checks.{declared_checks}
use Rattle.ras_names.proofs.Passing.{Passes}
use Rattle.ras_scope.specs.declared.fault.SpecError.{SpecError}
use Rattle.ras_scope.specs.Answering.{Answers, Faults}
use Rattle.ras_scope.specs.Placing.{placed_name}
use Rattle.ras_scope.proofs.Following.{handed}
use Rattle.ras_declarations.proofs.InnerNames.{behind_fails, behind_repeats, behind_new}
use Rattle.ras_declarations.proofs.named.check_new.Goals as goal

pub returns-in_err-check_inner : goal.returns-in_err-check_inner
returns-in_err-check_inner c =
    let name = placed_name c.args.name.now in
    let e = c.in_err-check_inner.field-0.0 in
    let above : List Text = c.args.above.now ++ c.args.more.now in
    let own = c.args.own.now in
    handed (declared_checks c.args.limit (length own) (above ++ own) name) c.from_residual.result e c.from_residual.ensures.1
    (behind_fails c.args.limit (length own) above own name e (subst (λ (n : ℕ). Faults (declared_checks c.args.limit n above name) e) c.len.ensures c.in_err-check_inner.ensures))

pub returns-then-has : goal.returns-then-has
returns-then-has c =
    let name = placed_name c.args.name.now in
    let above : List Text = c.args.above.now ++ c.args.more.now in
    let own = c.args.own.now in
    let pass : Passes (declared_checks c.args.limit (length own) above name) = subst (λ (n : ℕ). Passes (declared_checks c.args.limit n above name)) c.len.ensures c.in_ok-check_inner.ensures in
    subst (λ (r : Result Unit SpecError). Answers (declared_checks c.args.limit (length own) (above ++ own) name) r) (sym c.fault.ensures)
    (behind_repeats c.args.limit (length own) above own name pass (sym c.has.ensures ∙ c.if-has.true))

pub returns : goal.returns
returns c =
    let name = placed_name c.args.name.now in
    let above : List Text = c.args.above.now ++ c.args.more.now in
    let own = c.args.own.now in
    let pass : Passes (declared_checks c.args.limit (length own) above name) = subst (λ (n : ℕ). Passes (declared_checks c.args.limit n above name)) c.len.ensures c.in_ok-check_inner.ensures in
    behind_new c.args.limit (length own) above own name pass (sym c.has.ensures ∙ c.if-has.false)
