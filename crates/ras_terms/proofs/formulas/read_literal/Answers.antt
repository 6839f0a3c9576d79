use Rattle.std.proofs.Common.{◌≡◌, sym, ◌∙◌, ap}
use Rattle.std.specs.Prelude.{Some, None}
use Rattle.ras_terms.specs.Literals.{common, side_checks}
use Rattle.ras_terms.specs.Meanings.{sort_alone}
use Rattle.ras_scope.specs.Placing.{placed_literal}
use Rattle.ras_logic.specs.declared.ids.SortId.{SortId}
use Rattle.ras_logic.specs.declared.literal.Literal.TheVariants.{Equal}
use Rattle.ras_numbering.specs.TermValues.{literal_sort, term_value}
use Rattle.ras_scope.proofs.Following.{handed}
use Rattle.ras_terms.proofs.ReadLiterals.{left_faults, right_faults, sign_faults, sides_pass, sort_is_common, same_comparison}
use Rattle.ras_terms.proofs.formulas.read_literal.Goals as goal

pub returns-in_err-left-clause-checks : goal.returns-in_err-left-clause-checks
returns-in_err-left-clause-checks c = λ seen sees.
    let l = placed_literal c.args.literal.now in
    let e = c.in_err-left.field-0.0 in
    handed (side_checks seen l) c.from_residual.result e c.from_residual.ensures.1 (left_faults seen l e (c.in_err-left.ensures.checks seen sees))

pub returns-in_err-right-clause-checks : goal.returns-in_err-right-clause-checks
returns-in_err-right-clause-checks c = λ seen sees.
    let l = placed_literal c.args.literal.now in
    let e = c.in_err-right.field-0.0 in
    handed (side_checks seen l) c.from_residual-in_err-right.result e c.from_residual-in_err-right.ensures.1
    (right_faults seen l e (c.in_ok-left.ensures.checks seen sees) (c.in_err-right.ensures.checks seen sees))

pub returns-in-None-clause-checks : goal.returns-in-None-clause-checks
returns-in-None-clause-checks c = λ seen sees.
    let none : common (sort_alone c.in_ok-left.left) (sort_alone c.in_ok-right.right) ≡ None = (λ i. common (sym c.sort.ensures i) (sym c.sort-2.ensures i)) ∙ sym c.in-None.ensures in
    rw c.fault.ensures (sign_faults seen (placed_literal c.args.literal.now) c.in_ok-left.left c.in_ok-right.right (c.in_ok-left.ensures.value seen sees) (c.in_ok-right.ensures.value seen sees)
    (c.in_ok-left.ensures.checks seen sees) (c.in_ok-right.ensures.checks seen sees) none)

pub returns-in-Some-clause-checks : goal.returns-in-Some-clause-checks
returns-in-Some-clause-checks c = λ seen sees.
    let some : common (sort_alone c.in_ok-left.left) (sort_alone c.in_ok-right.right) ≡ Some c.in-Some.sort = (λ i. common (sym c.sort.ensures i) (sym c.sort-2.ensures i)) ∙ sym c.in-Some.ensures in
    sides_pass seen (placed_literal c.args.literal.now) c.in_ok-left.left c.in_ok-right.right (c.in_ok-left.ensures.value seen sees) (c.in_ok-right.ensures.value seen sees)
    (c.in_ok-left.ensures.checks seen sees) (c.in_ok-right.ensures.checks seen sees) c.in-Some.sort some

pub returns-in-Some-clause-value : goal.returns-in-Some-clause-value
returns-in-Some-clause-value c = λ seen sees.
    let l = placed_literal c.args.literal.now in
    let left = c.in_ok-left.ensures.value seen sees in
    let right = c.in_ok-right.ensures.value seen sees in
    let some : common (sort_alone c.in_ok-left.left) (sort_alone c.in_ok-right.right) ≡ Some c.in-Some.sort = (λ i. common (sym c.sort.ensures i) (sym c.sort-2.ensures i)) ∙ sym c.in-Some.ensures in
    let sort : c.in-Some.sort ≡ literal_sort seen l =
    sort_is_common seen l c.in_ok-left.left c.in_ok-right.right left right (c.in_ok-left.ensures.checks seen sees) (c.in_ok-right.ensures.checks seen sees) c.in-Some.sort some in
    let one : c.at_sort.result ≡ term_value seen (literal_sort seen l) l.left = c.at_sort.ensures ∙ left.value c.in-Some.sort ∙ ap (λ (s : SortId). term_value seen s l.left) sort in
    let other : c.at_sort-in-Some.result ≡ term_value seen (literal_sort seen l) l.right = c.at_sort-in-Some.ensures ∙ right.value c.in-Some.sort ∙ ap (λ (s : SortId). term_value seen s l.right) sort in
    let same : c.eq.result ≡ l.equal = c.eq.ensures ∙ same_comparison c.args.literal.now.comparison in
    λ i. Equal (one i) (other i) (same i)
