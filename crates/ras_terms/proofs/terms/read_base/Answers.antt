use Rattle.std.proofs.Common.{subst, [], ◌∷◌, List}
use Rattle.ras_syntax.specs.Grammar.{Text}
use Rattle.ras_names.specs.Checks.{used_check, declared_texts}
use Rattle.ras_names.specs.TermChecks.{plain_names}
use Rattle.ras_names.proofs.Passing.{Passes}
use Rattle.ras_scope.specs.Answering.{Faults}
use Rattle.ras_scope.specs.Placing.{placed_name}
use Rattle.ras_scope.proofs.Following.{handed}
use Rattle.ras_scope.proofs.SeenNames.{plain_texts}
use Rattle.ras_terms.proofs.terms.read_base.Goals as goal

pub returns-in_err-plain-in-Plain-clause-checks : goal.returns-in_err-plain-in-Plain-clause-checks
returns-in_err-plain-in-Plain-clause-checks c = λ seen sees.
    let n = placed_name c.in-Plain.name in
    let e = c.in_err-plain-in-Plain.field-0.0 in
    rw c.in-Plain.is (handed (used_check (declared_texts (plain_names seen)) n ∷ []) c.from_residual.result e c.from_residual.ensures.1
    (subst (λ (ts : List Text). Faults (used_check ts n ∷ []) e) (plain_texts c.args.scope.now seen sees) c.in_err-plain-in-Plain.ensures.checks))

pub returns-in_ok-plain-in-Plain-clause-checks : goal.returns-in_ok-plain-in-Plain-clause-checks
returns-in_ok-plain-in-Plain-clause-checks c = λ seen sees.
    let n = placed_name c.in-Plain.name in
    rw c.in-Plain.is (subst (λ (ts : List Text). Passes (used_check ts n ∷ [])) (plain_texts c.args.scope.now seen sees) c.in_ok-plain-in-Plain.ensures.checks)
