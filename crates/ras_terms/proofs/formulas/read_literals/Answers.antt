use Rattle.std.proofs.Common.{◌≤◌, List, [], ◌∷◌, ◌++◌, length, map, refl, subst, arith}
use Rattle.ras_logic.specs.declared.literal.Literal.{Literal}
use Rattle.ras_names.specs.Checks.{for_each_from}
use Rattle.ras_names.specs.TermChecks.{literal_checks}
use Rattle.ras_names.proofs.Passing.{Passes, pass_both}
use Rattle.ras_numbering.specs.TermValues.{literal_value}
use Rattle.ras_scope.specs.Answering.{Faults}
use Rattle.ras_scope.specs.Placing.{placed_and, placed_literal}
use Rattle.ras_scope.proofs.Following.{handed, faults_stay, faults_follow}
use Rattle.ras_scope.proofs.Reading.{count_read, one_more, one_faults, all_pass}
use Rattle.ras_terms.proofs.formulas.read_literals.Goals as goal

pub returns-in_err-add_literal-clause-checks : goal.returns-in_err-add_literal-clause-checks
returns-in_err-add_literal-clause-checks c = λ seen sees.
    let f = placed_literal c.args.first.now in
    let e = c.in_err-add_literal.field-0.0 in
    let first = literal_checks seen c.args.limit 0 f in
    let rest = for_each_from 1 (literal_checks seen c.args.limit) (map placed_and c.args.others.now) in
    handed (first ++ rest) c.from_residual.result e c.from_residual.ensures.1
    (faults_stay first rest e (subst (λ (ls : List Literal). Faults (literal_checks seen c.args.limit (length ls) f) e) c.new-literals.ensures (c.in_err-add_literal.ensures.checks seen sees)))

pub returns-in_err-add_literal-2-clause-checks : goal.returns-in_err-add_literal-2-clause-checks
returns-in_err-add_literal-2-clause-checks c = λ seen sees.
    let f = placed_literal c.args.first.now in
    let e = c.in_err-add_literal-2.field-0.0 in
    let first = literal_checks seen c.args.limit 0 f in
    let rest = for_each_from 1 (literal_checks seen c.args.limit) (map placed_and c.args.others.now) in
    let passed = subst (λ (ls : List Literal). Passes (literal_checks seen c.args.limit (length ls) f)) c.new-literals.ensures (c.in_ok-add_literal.ensures.checks seen sees) in
    let before = literal_value seen f ∷ [] in
    let le : c.loop-other.other-index ≤ length c.args.others.now = omega (arith, c.loop-other-test.true) in
    let number = count_read 1 (literal_checks seen c.args.limit) placed_and (literal_value seen) before c.args.others.now c.loop-other.other-index c.loop-other.literals le (c.loop-other.invariant seen sees) in
    handed (first ++ rest) c.from_residual-in_err-add_literal-2.result e c.from_residual-in_err-add_literal-2.ensures.1
    (faults_follow first rest e passed
    (one_faults 1 (literal_checks seen c.args.limit) placed_and (literal_value seen) before c.args.others.now c.loop-other.other-index (length c.loop-other.literals) c.other-item.result c.loop-other.literals e
    c.loop-other-test.true c.other-item.is number (c.loop-other.invariant seen sees) (c.in_err-add_literal-2.ensures.checks seen sees)))

pub loop-other-preserved : goal.loop-other-preserved
loop-other-preserved c = λ seen sees.
    let before = literal_value seen (placed_literal c.args.first.now) ∷ [] in
    let le : c.loop-other.other-index ≤ length c.args.others.now = omega (arith, c.loop-other-test.true) in
    let number = count_read 1 (literal_checks seen c.args.limit) placed_and (literal_value seen) before c.args.others.now c.loop-other.other-index c.loop-other.literals le (c.loop-other.invariant seen sees) in
    one_more 1 (literal_checks seen c.args.limit) placed_and (literal_value seen) before c.args.others.now c.loop-other.other-index (length c.loop-other.literals) c.other-item.result c.loop-other.literals
    c.add_literal-in-loop-other.new.literals (literal_value seen (placed_and c.other-item.result)) c.loop-other-test.true c.other-item.is number (c.loop-other.invariant seen sees)
    (c.in_ok-add_literal-2.ensures.checks seen sees) (c.in_ok-add_literal-2.ensures.value seen sees) refl

pub returns-clause-checks : goal.returns-clause-checks
returns-clause-checks c = λ seen sees.
    let f = placed_literal c.args.first.now in
    let first = literal_checks seen c.args.limit 0 f in
    let rest = for_each_from 1 (literal_checks seen c.args.limit) (map placed_and c.args.others.now) in
    let passed = subst (λ (ls : List Literal). Passes (literal_checks seen c.args.limit (length ls) f)) c.new-literals.ensures (c.in_ok-add_literal.ensures.checks seen sees) in
    let before = literal_value seen f ∷ [] in
    let done : length c.args.others.now ≤ c.loop-other.other-index = omega (arith, c.loop-other-test.false) in
    pass_both first rest passed
    (all_pass 1 (literal_checks seen c.args.limit) placed_and (literal_value seen) before c.args.others.now c.loop-other.other-index c.loop-other.literals done (c.loop-other.invariant seen sees))
