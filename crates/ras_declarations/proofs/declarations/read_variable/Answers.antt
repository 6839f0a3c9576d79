use Rattle.std.proofs.Common.{◌≡◌, true, List, [], ◌∷◌, ◌++◌, ◌∙◌, subst, append_assoc}
use Rattle.std.specs.Prelude.{option_map}
use Rattle.ras_syntax.specs.Grammar.{Text}
use Rattle.ras_names.specs.Placed as placed
use Rattle.ras_names.specs.Checks.{Check, is_among, texts, declared_checks, used_check}
use Rattle.ras_names.specs.FileChecks.{initial_checks}
use Rattle.ras_names.proofs.Passing.{Passes, pass_both}
use Rattle.ras_numbering.specs.Numbers.{number_in, sort_named}
use Rattle.ras_scope.specs.Answering.{Faults}
use Rattle.ras_scope.specs.Agreeing.{IsSortText}
use Rattle.ras_scope.specs.Placing.{placed_name, placed_initial}
use Rattle.ras_scope.proofs.Following.{handed, faults_stay, faults_follow}
use Rattle.ras_declarations.proofs.declarations.read_variable.Goals as goal

-- the name and the sort, and then the rest
joined : (first more : List Check) (sorts all : List Text) (sort : placed.Name) → sorts ≡ all → (first ++ used_check sorts sort ∷ []) ++ more ≡ first ++ (used_check all sort ∷ more)
joined first more sorts all sort same = append_assoc first (used_check sorts sort ∷ []) more ∙ (λ i. first ++ (used_check (same i) sort ∷ more))

pub returns-in_err-sort-clause-checks : goal.returns-in_err-sort-clause-checks
returns-in_err-sort-clause-checks c = λ p all a.
    let v = c.args.variable.now in
    let first = declared_checks 64 c.args.count c.args.shared.now (placed_name v.name) in
    let more = initial_checks p (placed_name v.sort) (option_map placed_initial v.initial) in
    let e = c.in_err-sort.field-0.0 in
    handed (first ++ (used_check (texts p.sorts) (placed_name v.sort) ∷ more)) c.from_residual.result e c.from_residual.ensures.1
    (subst (λ (cs : List Check). Faults cs e) (joined first more c.args.sorts.now (texts p.sorts) (placed_name v.sort) all)
    (faults_stay (first ++ used_check c.args.sorts.now (placed_name v.sort) ∷ []) more e c.in_err-sort.ensures.checks))

pub returns-in_err-initial-clause-checks : goal.returns-in_err-initial-clause-checks
returns-in_err-initial-clause-checks c = λ p all a.
    let v = c.args.variable.now in
    let first = declared_checks 64 c.args.count c.args.shared.now (placed_name v.name) in
    let more = initial_checks p (placed_name v.sort) (option_map placed_initial v.initial) in
    let e = c.in_err-initial.field-0.0 in
    let known : IsSortText p v.sort.text = subst (λ (ss : List Text). is_among ss v.sort.text ≡ true) all c.in_ok-sort.ensures.known in
    let value : c.in_ok-sort.sort ≡ sort_named p v.sort.text = c.in_ok-sort.ensures.value ∙ (λ i. record { n = number_in (all i) v.sort.text }) in
    handed (first ++ (used_check (texts p.sorts) (placed_name v.sort) ∷ more)) c.from_residual-in_err-initial.result e c.from_residual-in_err-initial.ensures.1
    (subst (λ (cs : List Check). Faults cs e) (joined first more c.args.sorts.now (texts p.sorts) (placed_name v.sort) all)
    (faults_follow (first ++ used_check c.args.sorts.now (placed_name v.sort) ∷ []) more e c.in_ok-sort.ensures.checks (c.in_err-initial.ensures.checks p (placed_name v.sort) a known value)))

pub returns-clause-checks : goal.returns-clause-checks
returns-clause-checks c = λ p all a.
    let v = c.args.variable.now in
    let first = declared_checks 64 c.args.count c.args.shared.now (placed_name v.name) in
    let more = initial_checks p (placed_name v.sort) (option_map placed_initial v.initial) in
    let known : IsSortText p v.sort.text = subst (λ (ss : List Text). is_among ss v.sort.text ≡ true) all c.in_ok-sort.ensures.known in
    let value : c.in_ok-sort.sort ≡ sort_named p v.sort.text = c.in_ok-sort.ensures.value ∙ (λ i. record { n = number_in (all i) v.sort.text }) in
    subst Passes (joined first more c.args.sorts.now (texts p.sorts) (placed_name v.sort) all)
    (pass_both (first ++ used_check c.args.sorts.now (placed_name v.sort) ∷ []) more c.in_ok-sort.ensures.checks (c.in_ok-initial.ensures.checks p (placed_name v.sort) a known value))

pub returns-clause-sort : goal.returns-clause-sort
returns-clause-sort c = λ p all. c.in_ok-sort.ensures.value ∙ (λ i. record { n = number_in (all i) c.args.variable.now.sort.text })
