use Rattle.std.proofs.Common.{◌∷◌, ◌++◌, [], List, subst}
use Rattle.ras_syntax.specs.Grammar.{Text}
use Rattle.ras_names.specs.Checks.{declared_checks}
use Rattle.ras_names.specs.StepChecks.{inside_checks}
use Rattle.ras_scope.specs.Answering.{Answers}
use Rattle.ras_scope.specs.Placing.{placed_step}
use Rattle.ras_scope.proofs.Following.{handed, faults_stay, answers_follow}
use Rattle.ras_declarations.proofs.Answered.{on_ok}
use Rattle.ras_elab.proofs.SharedNames.{agrees_shared}
use Rattle.ras_elab.proofs.steps.read_step.Goals as goal

pub returns-in_err-check_name-clause-checks : goal.returns-in_err-check_name-clause-checks
returns-in_err-check_name-clause-checks c = λ p a.
    let s = placed_step c.args.step.now in
    let shared = c.args.declared.now.shared in
    let first = declared_checks 256 c.args.count shared s.name in
    let inside = inside_checks p (shared ++ s.name.text ∷ []) s in
    let e = c.in_err-check_name.field-0.0 in
    handed (first ++ inside) c.from_residual.result e c.from_residual.ensures.1 (faults_stay first inside e c.in_err-check_name.ensures)

pub returns : goal.returns
returns c =
    let s = placed_step c.args.step.now in
    let d = c.args.declared.now in
    let first = declared_checks 256 c.args.count d.shared s.name in
    let grown = c.in_ok-add.ensures.ok in
    record {
      checks = λ p a.
          answers_follow first (inside_checks p (d.shared ++ s.name.text ∷ []) s) c.read_inside.result c.in_ok-check_name.ensures
          (subst (λ (names : List Text). Answers (inside_checks p names s) c.read_inside.result) grown (c.read_inside.ensures.checks p (agrees_shared p d c.add.new.self a)));
      value = λ p a. c.read_inside.ensures.value p (agrees_shared p d c.add.new.self a);
      names = c.read_inside.ensures.names;
      shared = on_ok _ c.read_inside.result (λ i. record d { shared = grown i });
    }
