use Rattle.std.proofs.Common.{◌≡◌, ◌∷◌, ◌++◌, [], ℕ, ◌<◌, true, List, length, map, take, refl, sym, ◌∙◌, ap, subst, arith, append-nil}
use Rattle.std.specs.Prelude.{All}
use Rattle.ras_syntax.specs.declared.tree.Constant.{Constant}
use Rattle.ras_syntax.specs.Grammar.{Text}
use Rattle.ras_names.specs.Placed.{Declared as Item}
use Rattle.ras_names.specs.Checks.{Check, for_each, is_among, texts, declared_texts, declared_checks, used_check}
use Rattle.ras_names.specs.FileChecks.{above_constants, constant_checks}
use Rattle.ras_names.specs.Placed as placed
use Rattle.ras_names.proofs.Passing.{Passes}
use Rattle.ras_numbering.specs.Numbers.{number_in, declared_sort}
use Rattle.ras_scope.specs.Placing.{placed_constant, placed_file}
use Rattle.ras_scope.specs.Answering.{Faults}
use Rattle.ras_scope.specs.Agreeing.{IsOfSort}
use Rattle.ras_scope.proofs.Following.{handed}
use Rattle.ras_declarations.proofs.Turns.{turn_within, turn_item, turns_end, turns_none, turn_passed, turn_failed, turns_passed}
use Rattle.ras_declarations.proofs.NewNames.{none_behind, keys_more, all_more, taken, whole, pushed, pushed_as, pushed_behind}
use Rattle.ras_declarations.proofs.declarations.read_constants.Goals as goal

abbrev key : Item → Text
key d = d.name.text

-- the checks of a constant, by what was read
same_checks : (p : placed.File) (xs : List Constant) (i count : ℕ) (shared sorts names : List Text) (d : Item) → p.constants ≡ map placed_constant xs → i < length xs → count ≡ length names
    → names ≡ declared_texts (take i (map placed_constant xs)) → shared ≡ above_constants p ++ declared_texts (take i (map placed_constant xs)) → sorts ≡ texts p.sorts
    → declared_checks 256 count shared d.name ++ used_check sorts d.of ∷ [] ≡ constant_checks p i d
same_checks p xs i count shared sorts names d own lt n made above all =
    let counted : count ≡ i = n ∙ ap length made ∙ taken placed_constant key xs i (omega (arith, lt)) in
    let whole_above = above ∙ ap (λ (ds : List Item). above_constants p ++ declared_texts (take i ds)) (sym own) in
    λ j. declared_checks 256 (counted j) (whole_above j) d.name ++ used_check (all j) d.of ∷ []

pub loop-constant-init : goal.loop-constant-init
loop-constant-init c = record {
  names = c.requires.names;
  values = c.requires.values;
  sort_texts = λ k d lt. absurd (omega (arith, lt));
  shared = c.requires.shared ∙ sym (append-nil (above_constants (placed_file c.args.file.now)));
  passed = turns_none (constant_checks (placed_file c.args.file.now)) placed_constant c.args.file.now.constants.items;
}

pub returns-in_err-sort-clause-checks : goal.returns-in_err-sort-clause-checks
returns-in_err-sort-clause-checks c =
    let p = placed_file c.args.file.now in
    let xs = c.args.file.now.constants.items in
    let i = c.loop-constant.constant-index in
    let item = c.constant-item.result in
    let e = c.in_err-sort.field-0.0 in
    let lt = turn_within c.deref-constant-items.result.now xs i c.deref-constant-items.ensures.value c.loop-constant-test.true in
    let is = turn_item c.deref-constant-items.result.now xs i item c.deref-constant-items.ensures.value c.constant-item.is in
    let v = c.loop-constant.invariant in
    let same = same_checks p xs i c.len-count.result c.loop-constant.shared c.args.sorts.now c.loop-constant.constants.names (placed_constant item) refl lt (c.len-count.ensures ∙ ap length c.names.ensures) v.names v.shared c.requires.sorts in
    handed (for_each (constant_checks p) (map placed_constant xs)) c.from_residual.result e c.from_residual.ensures.1
    (turn_failed (constant_checks p) placed_constant xs i item e lt is v.passed (subst (λ (cs : List Check). Faults cs e) same c.in_err-sort.ensures.checks))

pub loop-constant-preserved : goal.loop-constant-preserved
loop-constant-preserved c =
    let p = placed_file c.args.file.now in
    let xs = c.args.file.now.constants.items in
    let i = c.loop-constant.constant-index in
    let item = c.constant-item.result in
    let lt = turn_within c.deref-constant-items.result.now xs i c.deref-constant-items.ensures.value c.loop-constant-test.true in
    let is = turn_item c.deref-constant-items.result.now xs i item c.deref-constant-items.ensures.value c.constant-item.is in
    let v = c.loop-constant.invariant in
    let same = same_checks p xs i c.len-count.result c.loop-constant.shared c.args.sorts.now c.loop-constant.constants.names (placed_constant item) refl lt (c.len-count.ensures ∙ ap length c.names.ensures) v.names v.shared c.requires.sorts in
    let names = keys_more placed_constant xs i item lt is key in
    let values = keys_more placed_constant xs i item lt is (declared_sort p) in
    let value : c.in_ok-sort.sort ≡ declared_sort p (placed_constant item) = c.in_ok-sort.ensures.value ∙ (λ j. record { n = number_in (c.requires.sorts j) item.sort.text }) in
    record {
      names = pushed _ _ _ _ _ c.in_ok-add-2.ensures.names v.names (sym names);
      values = pushed_as _ _ _ _ _ (declared_sort p (placed_constant item)) c.in_ok-add-2.ensures.values value v.values (sym values);
      sort_texts = all_more placed_constant xs i item lt is (IsOfSort p) v.sort_texts (subst (λ (ss : List Text). is_among ss item.sort.text ≡ true) c.requires.sorts c.in_ok-sort.ensures.known);
      shared = pushed_behind _ _ (above_constants p) _ _ _ c.in_ok-add.ensures.ok v.shared (sym names);
      passed = turn_passed (constant_checks p) placed_constant xs i item lt is v.passed (subst Passes same c.in_ok-sort.ensures.checks);
    }

pub add-requires-in-loop-constant : goal.add-requires-in-loop-constant
add-requires-in-loop-constant c =
    let name = c.constant-item.result.name.text in
    ap (λ (ts : List Text). is_among ts name) c.loop-constant.invariant.names
    ∙ none_behind (above_constants (placed_file c.args.file.now)) _ name (sym (ap (λ (ts : List Text). is_among ts name) c.loop-constant.invariant.shared) ∙ c.in_ok-sort.ensures.new)

pub returns : goal.returns
returns c =
    let p = placed_file c.args.file.now in
    let xs = c.args.file.now.constants.items in
    let i = c.loop-constant.constant-index in
    let le = turns_end c.deref-constant-items.result.now xs i c.deref-constant-items.ensures.value c.loop-constant-test.false in
    let all : take i (map placed_constant xs) ≡ map placed_constant xs = whole placed_constant xs i le in
    let v = c.loop-constant.invariant in
    record {
      checks = turns_passed (constant_checks p) placed_constant xs i le v.passed;
      constants = record {
        names = v.names ∙ ap declared_texts all;
        values = v.values ∙ ap (map (declared_sort p)) all;
        sort_texts = subst (All (IsOfSort p)) all v.sort_texts;
      };
      shared = v.shared ∙ ap (λ (ds : List Item). above_constants p ++ declared_texts ds) all;
    }
