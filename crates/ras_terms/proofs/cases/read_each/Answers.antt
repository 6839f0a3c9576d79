use Rattle.std.proofs.Common.{◌≡◌, ◌+◌, ◌<◌, ◌≤◌, List, [], ◌∷◌, ◌++◌, length, get_or, map, refl, ◌∙◌, ap, arith, append_assoc}
use Rattle.std.proofs.lemmas.List.{length_push}
use Rattle.ras_syntax.specs.declared.tree.Case.{Case}
use Rattle.ras_names.specs.Checks.{for_each_from}
use Rattle.ras_names.specs.StepChecks.{case_checks}
use Rattle.ras_names.proofs.Passing.{pass_both}
use Rattle.ras_numbering.specs.FileValues.{case_value}
use Rattle.ras_scope.specs.Placing.{placed_case, placed_each}
use Rattle.ras_scope.proofs.Following.{handed, faults_stay, faults_follow}
use Rattle.ras_scope.proofs.Reading.{none_read, count_read, one_more, one_faults, all_pass, all_read}
use Rattle.ras_terms.proofs.cases.read_each.Goals as goal

pub returns-in_err-add_case-clause-checks : goal.returns-in_err-add_case-clause-checks
returns-in_err-add_case-clause-checks c = λ seen sees is.
    let e = placed_each c.args.each.now in
    let x = c.in_err-add_case.field-0.0 in
    let n = length c.args.bulk.now in
    let first = case_checks seen e n (placed_case c.args.each.now.first) in
    let rest = for_each_from (n + 1) (case_checks seen e) (map placed_case c.args.each.now.others.items) in
    handed (first ++ rest) c.from_residual.result x c.from_residual.ensures.1 (faults_stay first rest x (c.in_err-add_case.ensures.checks seen e sees is))

pub loop-case-init : goal.loop-case-init
loop-case-init c = λ seen sees is.
    let e = placed_each c.args.each.now in
    let before = c.args.bulk.now ++ case_value seen e (placed_case c.args.each.now.first) ∷ [] in
    none_read (length c.args.bulk.now + 1) (case_checks seen e) placed_case (case_value seen e) before c.args.each.now.others.items c.add_case.new.bulk (c.in_ok-add_case.ensures.value seen e sees is)

pub returns-in_err-add_case-2-clause-checks : goal.returns-in_err-add_case-2-clause-checks
returns-in_err-add_case-2-clause-checks c = λ seen sees is.
    let e = placed_each c.args.each.now in
    let x = c.in_err-add_case-2.field-0.0 in
    let m = length c.args.bulk.now + 1 in
    let f = placed_case c.args.each.now.first in
    let others = c.args.each.now.others.items in
    let i = c.loop-case.case-index in
    let first = case_checks seen e (length c.args.bulk.now) f in
    let rest = for_each_from m (case_checks seen e) (map placed_case others) in
    let before = c.args.bulk.now ++ case_value seen e f ∷ [] in
    let lt : i < length others = omega (arith, c.loop-case-test.true, c.deref-case-items.ensures.len) in
    let here = c.case-item.is ∙ ap (λ (xs : List Case). get_or xs i c.case-item.result) c.deref-case-items.ensures.value in
    let count = count_read m (case_checks seen e) placed_case (case_value seen e) before others i c.loop-case.bulk (omega (arith, lt)) (c.loop-case.invariant seen sees is) in
    let number : length c.loop-case.bulk ≡ m + i = let p = length_push c.args.bulk.now (case_value seen e f) in omega (arith, count, p) in
    handed (first ++ rest) c.from_residual-in_err-add_case-2.result x c.from_residual-in_err-add_case-2.ensures.1
    (faults_follow first rest x (c.in_ok-add_case.ensures.checks seen e sees is)
    (one_faults m (case_checks seen e) placed_case (case_value seen e) before others i (length c.loop-case.bulk) c.case-item.result c.loop-case.bulk x lt here number (c.loop-case.invariant seen sees is)
    (c.in_err-add_case-2.ensures.checks seen e sees is)))

pub loop-case-preserved : goal.loop-case-preserved
loop-case-preserved c = λ seen sees is.
    let e = placed_each c.args.each.now in
    let m = length c.args.bulk.now + 1 in
    let f = placed_case c.args.each.now.first in
    let others = c.args.each.now.others.items in
    let i = c.loop-case.case-index in
    let before = c.args.bulk.now ++ case_value seen e f ∷ [] in
    let lt : i < length others = omega (arith, c.loop-case-test.true, c.deref-case-items.ensures.len) in
    let here = c.case-item.is ∙ ap (λ (xs : List Case). get_or xs i c.case-item.result) c.deref-case-items.ensures.value in
    let count = count_read m (case_checks seen e) placed_case (case_value seen e) before others i c.loop-case.bulk (omega (arith, lt)) (c.loop-case.invariant seen sees is) in
    let number : length c.loop-case.bulk ≡ m + i = let p = length_push c.args.bulk.now (case_value seen e f) in omega (arith, count, p) in
    one_more m (case_checks seen e) placed_case (case_value seen e) before others i (length c.loop-case.bulk) c.case-item.result c.loop-case.bulk c.add_case-in-loop-case.new.bulk
    (case_value seen e (placed_case c.case-item.result)) lt here number (c.loop-case.invariant seen sees is) (c.in_ok-add_case-2.ensures.checks seen e sees is) (c.in_ok-add_case-2.ensures.value seen e sees is) refl

pub returns-clause-checks : goal.returns-clause-checks
returns-clause-checks c = λ seen sees is.
    let e = placed_each c.args.each.now in
    let m = length c.args.bulk.now + 1 in
    let f = placed_case c.args.each.now.first in
    let others = c.args.each.now.others.items in
    let first = case_checks seen e (length c.args.bulk.now) f in
    let rest = for_each_from m (case_checks seen e) (map placed_case others) in
    let done : length others ≤ c.loop-case.case-index = omega (arith, c.loop-case-test.false, c.deref-case-items.ensures.len) in
    pass_both first rest (c.in_ok-add_case.ensures.checks seen e sees is)
    (all_pass m (case_checks seen e) placed_case (case_value seen e) (c.args.bulk.now ++ case_value seen e f ∷ []) others c.loop-case.case-index c.loop-case.bulk done (c.loop-case.invariant seen sees is))

pub returns-clause-value : goal.returns-clause-value
returns-clause-value c = λ seen sees is.
    let e = placed_each c.args.each.now in
    let m = length c.args.bulk.now + 1 in
    let f = placed_case c.args.each.now.first in
    let others = c.args.each.now.others.items in
    let done : length others ≤ c.loop-case.case-index = omega (arith, c.loop-case-test.false, c.deref-case-items.ensures.len) in
    all_read m (case_checks seen e) placed_case (case_value seen e) (c.args.bulk.now ++ case_value seen e f ∷ []) others c.loop-case.case-index c.loop-case.bulk done (c.loop-case.invariant seen sees is)
    ∙ append_assoc c.args.bulk.now (case_value seen e f ∷ []) (map (case_value seen e) (map placed_case others))
