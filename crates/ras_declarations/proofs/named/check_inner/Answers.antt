use Rattle.std.proofs.Common.{◌++◌, sym, ◌∙◌, subst}
use Rattle.std.specs.Prelude.{Result}
use Rattle.ras_names.specs.Checks.{declared_checks}
use Rattle.ras_scope.specs.declared.fault.SpecError.{SpecError}
use Rattle.ras_scope.specs.Answering.{Answers}
use Rattle.ras_scope.specs.Placing.{placed_name}
use Rattle.ras_scope.proofs.Following.{handed}
use Rattle.ras_declarations.proofs.InnerNames.{behind_fails, behind_repeats, behind_new}
use Rattle.ras_declarations.proofs.named.check_inner.Goals as goal

pub returns-in_err-check_name : goal.returns-in_err-check_name
returns-in_err-check_name c =
    let name = placed_name c.args.name.now in
    let e = c.in_err-check_name.field-0.0 in
    handed (declared_checks c.args.limit c.args.count (c.args.above.now ++ c.args.more.now) name) c.from_residual.result e c.from_residual.ensures.1
    (behind_fails c.args.limit c.args.count c.args.above.now c.args.more.now name e c.in_err-check_name.ensures)

pub returns-then-has : goal.returns-then-has
returns-then-has c =
    let name = placed_name c.args.name.now in
    subst (λ (r : Result Unit SpecError). Answers (declared_checks c.args.limit c.args.count (c.args.above.now ++ c.args.more.now) name) r) (sym c.fault.ensures)
    (behind_repeats c.args.limit c.args.count c.args.above.now c.args.more.now name c.in_ok-check_name.ensures (sym c.has.ensures ∙ c.if-has.true))

pub returns : goal.returns
returns c = behind_new c.args.limit c.args.count c.args.above.now c.args.more.now (placed_name c.args.name.now) c.in_ok-check_name.ensures (sym c.has.ensures ∙ c.if-has.false)
