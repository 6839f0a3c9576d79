use Rattle.std.proofs.Common.{◌≡◌, ℕ, ◌+◌, ◌<◌, ◌≤◌, List, [], ◌∷◌, ◌++◌, length, get_or, map, refl, ◌∙◌, ap, subst, arith}
use Rattle.ras_syntax.specs.declared.tree.OrConjunction.{OrConjunction}
use Rattle.ras_logic.specs.declared.literal.Literal.{Literal}
use Rattle.ras_names.specs.Checks.{for_each_from}
use Rattle.ras_names.specs.TermChecks.{disjunct_checks}
use Rattle.ras_names.proofs.Passing.{Passes, pass_both}
use Rattle.ras_numbering.specs.TermValues.{conjunction_value}
use Rattle.ras_scope.specs.Answering.{Faults}
use Rattle.ras_scope.specs.Placing.{placed_conjunction, placed_or}
use Rattle.ras_scope.proofs.Following.{handed, faults_stay, faults_follow}
use Rattle.ras_scope.proofs.Reading.{count_read, one_more, one_faults, all_pass}
use Rattle.ras_terms.proofs.formulas.read_guard.Goals as goal

-- the number of the first disjunct
first_number : (above : ℕ) (ds : List (List Literal)) → ds ≡ [] → above + length ds ≡ above
first_number above ds e = ap (λ (xs : List (List Literal)). above + length xs) e ∙ (let q : above + 0 ≡ above = omega arith in q)

pub returns-in_err-add_disjunct-clause-checks : goal.returns-in_err-add_disjunct-clause-checks
returns-in_err-add_disjunct-clause-checks c = λ seen sees.
    let f = placed_conjunction c.args.guard.now.first in
    let e = c.in_err-add_disjunct.field-0.0 in
    let first = disjunct_checks seen c.args.above f in
    let rest = for_each_from (c.args.above + 1) (disjunct_checks seen) (map placed_or c.args.guard.now.others.items) in
    handed (first ++ rest) c.from_residual.result e c.from_residual.ensures.1
    (faults_stay first rest e (subst (λ (n : ℕ). Faults (disjunct_checks seen n f) e) (first_number c.args.above c.new-disjuncts.result c.new-disjuncts.ensures) (c.in_err-add_disjunct.ensures.checks seen sees)))

pub returns-in_err-add_disjunct-2-clause-checks : goal.returns-in_err-add_disjunct-2-clause-checks
returns-in_err-add_disjunct-2-clause-checks c = λ seen sees.
    let f = placed_conjunction c.args.guard.now.first in
    let others = c.args.guard.now.others.items in
    let n = c.loop-other.other-index in
    let m = c.args.above + 1 in
    let e = c.in_err-add_disjunct-2.field-0.0 in
    let first = disjunct_checks seen c.args.above f in
    let rest = for_each_from m (disjunct_checks seen) (map placed_or others) in
    let passed = subst (λ (k : ℕ). Passes (disjunct_checks seen k f)) (first_number c.args.above c.new-disjuncts.result c.new-disjuncts.ensures) (c.in_ok-add_disjunct.ensures.checks seen sees) in
    let before = conjunction_value seen f ∷ [] in
    let lt : n < length others = omega (arith, c.loop-other-test.true, c.deref-other-items.ensures.len) in
    let count = count_read m (disjunct_checks seen) placed_or (conjunction_value seen) before others n c.loop-other.disjuncts (omega (arith, lt)) (c.loop-other.invariant seen sees) in
    let here = c.other-item.is ∙ ap (λ (xs : List OrConjunction). get_or xs n c.other-item.result) c.deref-other-items.ensures.value in
    let number : c.args.above + length c.loop-other.disjuncts ≡ m + n = omega (arith, count) in
    handed (first ++ rest) c.from_residual-in_err-add_disjunct-2.result e c.from_residual-in_err-add_disjunct-2.ensures.1
    (faults_follow first rest e passed
    (one_faults m (disjunct_checks seen) placed_or (conjunction_value seen) before others n (c.args.above + length c.loop-other.disjuncts) c.other-item.result c.loop-other.disjuncts e
    lt here number (c.loop-other.invariant seen sees) (c.in_err-add_disjunct-2.ensures.checks seen sees)))

pub loop-other-preserved : goal.loop-other-preserved
loop-other-preserved c = λ seen sees.
    let others = c.args.guard.now.others.items in
    let n = c.loop-other.other-index in
    let m = c.args.above + 1 in
    let before = conjunction_value seen (placed_conjunction c.args.guard.now.first) ∷ [] in
    let lt : n < length others = omega (arith, c.loop-other-test.true, c.deref-other-items.ensures.len) in
    let count = count_read m (disjunct_checks seen) placed_or (conjunction_value seen) before others n c.loop-other.disjuncts (omega (arith, lt)) (c.loop-other.invariant seen sees) in
    let here = c.other-item.is ∙ ap (λ (xs : List OrConjunction). get_or xs n c.other-item.result) c.deref-other-items.ensures.value in
    let number : c.args.above + length c.loop-other.disjuncts ≡ m + n = omega (arith, count) in
    one_more m (disjunct_checks seen) placed_or (conjunction_value seen) before others n (c.args.above + length c.loop-other.disjuncts) c.other-item.result c.loop-other.disjuncts
    c.add_disjunct-in-loop-other.new.disjuncts (conjunction_value seen (placed_or c.other-item.result)) lt here number (c.loop-other.invariant seen sees)
    (c.in_ok-add_disjunct-2.ensures.checks seen sees) (c.in_ok-add_disjunct-2.ensures.value seen sees) refl

pub returns-clause-checks : goal.returns-clause-checks
returns-clause-checks c = λ seen sees.
    let f = placed_conjunction c.args.guard.now.first in
    let others = c.args.guard.now.others.items in
    let m = c.args.above + 1 in
    let first = disjunct_checks seen c.args.above f in
    let rest = for_each_from m (disjunct_checks seen) (map placed_or others) in
    let passed = subst (λ (k : ℕ). Passes (disjunct_checks seen k f)) (first_number c.args.above c.new-disjuncts.result c.new-disjuncts.ensures) (c.in_ok-add_disjunct.ensures.checks seen sees) in
    let before = conjunction_value seen f ∷ [] in
    let done : length others ≤ c.loop-other.other-index = omega (arith, c.loop-other-test.false, c.deref-other-items.ensures.len) in
    pass_both first rest passed
    (all_pass m (disjunct_checks seen) placed_or (conjunction_value seen) before others c.loop-other.other-index c.loop-other.disjuncts done (c.loop-other.invariant seen sees))
