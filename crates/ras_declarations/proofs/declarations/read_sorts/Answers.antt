use Rattle.std.proofs.Common.{◌≡◌, ◌∷◌, ◌++◌, [], ℕ, ◌<◌, ◌≤◌, List, length, map, take, sym, ◌∙◌, ap, subst, arith}
use Rattle.ras_syntax.specs.declared.tree.Sort.{Sort}
use Rattle.ras_syntax.specs.Grammar.{Text}
use Rattle.ras_names.specs.Placed.{Name}
use Rattle.ras_names.specs.Checks.{Check, for_each, is_among, texts, declared_checks}
use Rattle.ras_names.specs.FileChecks.{sort_checks}
use Rattle.ras_names.proofs.Passing.{Passes}
use Rattle.ras_scope.specs.Answering.{Faults}
use Rattle.ras_scope.specs.Placing.{placed_sort, placed_file}
use Rattle.ras_scope.proofs.Following.{handed}
use Rattle.ras_declarations.proofs.Turns.{turn_within, turn_item, turns_end, turn_passed, turn_failed, turns_passed}
use Rattle.ras_declarations.proofs.NewNames.{name_within, name_new, same_declared, keys_more, taken, taken_most, whole}
use Rattle.ras_declarations.proofs.declarations.read_sorts.Goals as goal

abbrev taken_texts : List Sort → ℕ → List Text
taken_texts xs i = texts (take i (map placed_sort xs))

-- the checks of a sort
same_checks : (xs : List Sort) (i count : ℕ) (read shared : List Text) (name : Name) → i < length xs → read ≡ taken_texts xs i → shared ≡ taken_texts xs i → count ≡ length read
    → declared_checks 64 count shared name ≡ declared_checks 64 i (taken_texts xs i) name
same_checks xs i count read shared name lt r s n =
    same_declared 64 count i shared (taken_texts xs i) name (n ∙ ap length r ∙ taken placed_sort (λ (m : Name). m.text) xs i (omega (arith, lt))) s

pub returns-in_err-check_name-clause-checks : goal.returns-in_err-check_name-clause-checks
returns-in_err-check_name-clause-checks c =
    let xs = c.args.file.now.sorts.items in
    let i = c.loop-sort.sort-index in
    let item = c.sort-item.result in
    let lt = turn_within c.deref-sort-items.result.now xs i c.deref-sort-items.ensures.value c.loop-sort-test.true in
    let is = turn_item c.deref-sort-items.result.now xs i item c.deref-sort-items.ensures.value c.sort-item.is in
    let same = same_checks xs i c.len.result c.loop-sort.sorts c.loop-sort.shared (placed_sort item) lt c.loop-sort.invariant.read c.loop-sort.invariant.shared c.len.ensures in
    handed (for_each (sort_checks (placed_file c.args.file.now)) (map placed_sort xs)) c.from_residual.result c.in_err-check_name.field-0.0 c.from_residual.ensures.1
    (turn_failed (sort_checks (placed_file c.args.file.now)) placed_sort xs i item c.in_err-check_name.field-0.0 lt is c.loop-sort.invariant.passed
    (subst (λ (checks : List Check). Faults checks c.in_err-check_name.field-0.0) same c.in_err-check_name.ensures))

pub loop-sort-preserved : goal.loop-sort-preserved
loop-sort-preserved c =
    let xs = c.args.file.now.sorts.items in
    let i = c.loop-sort.sort-index in
    let item = c.sort-item.result in
    let lt = turn_within c.deref-sort-items.result.now xs i c.deref-sort-items.ensures.value c.loop-sort-test.true in
    let is = turn_item c.deref-sort-items.result.now xs i item c.deref-sort-items.ensures.value c.sort-item.is in
    let same = same_checks xs i c.len.result c.loop-sort.sorts c.loop-sort.shared (placed_sort item) lt c.loop-sort.invariant.read c.loop-sort.invariant.shared c.len.ensures in
    let pass : Passes (sort_checks (placed_file c.args.file.now) i (placed_sort item)) = subst Passes same c.in_ok-check_name.ensures in
    let below : i < 64 = name_within 64 i (taken_texts xs i) (placed_sort item) pass in
    let more = keys_more placed_sort xs i item lt is (λ (n : Name). n.text) in
    record {
      read = c.in_ok-add-2.ensures.ok ∙ ap (λ (ts : List Text). ts ++ item.name.text ∷ []) c.loop-sort.invariant.read ∙ sym more;
      shared = c.in_ok-add.ensures.ok ∙ ap (λ (ts : List Text). ts ++ item.name.text ∷ []) c.loop-sort.invariant.shared ∙ sym more;
      few = omega (arith, below);
      passed = turn_passed (sort_checks (placed_file c.args.file.now)) placed_sort xs i item lt is c.loop-sort.invariant.passed pass;
    }

pub add-requires-in-loop-sort : goal.add-requires-in-loop-sort
add-requires-in-loop-sort c =
    ap (λ (ts : List Text). is_among ts c.sort-item.result.name.text) (c.loop-sort.invariant.read ∙ sym c.loop-sort.invariant.shared)
    ∙ name_new 64 c.len.result c.loop-sort.shared (placed_sort c.sort-item.result) c.in_ok-check_name.ensures

pub returns : goal.returns
returns c =
    let xs = c.args.file.now.sorts.items in
    let i = c.loop-sort.sort-index in
    let le = turns_end c.deref-sort-items.result.now xs i c.deref-sort-items.ensures.value c.loop-sort-test.false in
    let all : taken_texts xs i ≡ texts (map placed_sort xs) = ap texts (whole placed_sort xs i le) in
    let few : length c.loop-sort.sorts ≤ 64 =
    let n = ap length c.loop-sort.invariant.read in let most = taken_most placed_sort (λ (m : Name). m.text) xs i in omega (arith, n, most, c.loop-sort.invariant.few) in
    record {
      checks = turns_passed (sort_checks (placed_file c.args.file.now)) placed_sort xs i le c.loop-sort.invariant.passed;
      sorts = record { all_sorts = c.loop-sort.invariant.read ∙ all; few = few; shared_names = c.loop-sort.invariant.shared ∙ all };
    }
