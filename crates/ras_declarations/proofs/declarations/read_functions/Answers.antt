use Rattle.std.proofs.Common.{◌≡◌, ◌++◌, ℕ, ◌<◌, List, length, map, take, refl, sym, ◌∙◌, ap, subst, arith, append-nil}
use Rattle.std.specs.Prelude.{All}
use Rattle.ras_syntax.specs.declared.tree.Function.{Function}
use Rattle.ras_syntax.specs.Grammar.{Text}
use Rattle.ras_logic.specs.declared.function.FunDecl.{FunDecl}
use Rattle.ras_logic.specs.Schemas.{HasSorts}
use Rattle.ras_names.specs.Placed as placed
use Rattle.ras_names.specs.Checks.{for_each, is_among, texts}
use Rattle.ras_names.specs.TermChecks.{function_texts}
use Rattle.ras_names.specs.FileChecks.{above_functions, function_checks}
use Rattle.ras_numbering.specs.FileValues.{function_value}
use Rattle.ras_scope.specs.Placing.{placed_function, placed_file}
use Rattle.ras_scope.specs.Agreeing.{HasSortTexts}
use Rattle.ras_declarations.specs.Declaring.{AreAbove}
use Rattle.ras_scope.specs.declared.table.Table.{Table}
use Rattle.ras_scope.proofs.Following.{handed}
use Rattle.ras_declarations.proofs.Turns.{turn_within, turn_item, turns_end, turns_none, turn_passed, turn_failed, turns_passed}
use Rattle.ras_declarations.proofs.NewNames.{none_behind, keys_more, all_more, all_push, taken, whole, all_none, pushed, pushed_as, pushed_behind}
use Rattle.ras_declarations.proofs.declarations.read_functions.Goals as goal

abbrev key : placed.Function → Text
key f = f.name.text

are_above : (p : placed.File) (xs : List Function) (i : ℕ) (shared sorts : List Text) (read : Table FunDecl) → p.functions ≡ map placed_function xs → sorts ≡ texts p.sorts → i < length xs
    → read.names ≡ function_texts (take i (map placed_function xs)) → read.values.items ≡ map (function_value p) (take i (map placed_function xs))
    → All (HasSortTexts p) (take i (map placed_function xs)) → shared ≡ above_functions p ++ function_texts (take i (map placed_function xs)) → AreAbove p i shared sorts read
are_above p xs i shared sorts read own all lt names values known above = record {
  shared_names = above ∙ ap (λ (fs : List placed.Function). above_functions p ++ function_texts (take i fs)) (sym own);
  all_sorts = all;
  count = ap length names ∙ taken placed_function key xs i (omega (arith, lt));
  values = values ∙ ap (λ (fs : List placed.Function). map (function_value p) (take i fs)) (sym own);
  sort_texts = subst (λ (fs : List placed.Function). All (HasSortTexts p) (take i fs)) (sym own) known;
}

pub loop-function-init : goal.loop-function-init
loop-function-init c = record {
  names = c.requires.names;
  values = c.requires.values;
  sort_texts = λ k d lt. absurd (omega (arith, lt));
  known = all_none (HasSorts 64) c.args.functions.now.values.items c.requires.values;
  shared = c.requires.sorts.shared_names ∙ sym (append-nil (above_functions (placed_file c.args.file.now)));
  passed = turns_none (function_checks (placed_file c.args.file.now)) placed_function c.args.file.now.functions.items;
}

pub returns-in_err-decl-clause-checks : goal.returns-in_err-decl-clause-checks
returns-in_err-decl-clause-checks c =
    let p = placed_file c.args.file.now in
    let xs = c.args.file.now.functions.items in
    let i = c.loop-function.function-index in
    let item = c.function-item.result in
    let e = c.in_err-decl.field-0.0 in
    let lt = turn_within c.deref-function-items.result.now xs i c.deref-function-items.ensures.value c.loop-function-test.true in
    let is = turn_item c.deref-function-items.result.now xs i item c.deref-function-items.ensures.value c.function-item.is in
    let v = c.loop-function.invariant in
    let above = are_above p xs i c.loop-function.shared c.args.sorts.now c.loop-function.functions refl c.requires.sorts.all_sorts lt v.names v.values v.sort_texts v.shared in
    handed (for_each (function_checks p) (map placed_function xs)) c.from_residual.result e c.from_residual.ensures.1
    (turn_failed (function_checks p) placed_function xs i item e lt is v.passed (c.in_err-decl.ensures.checks p i above))

pub loop-function-preserved : goal.loop-function-preserved
loop-function-preserved c =
    let p = placed_file c.args.file.now in
    let xs = c.args.file.now.functions.items in
    let i = c.loop-function.function-index in
    let item = c.function-item.result in
    let lt = turn_within c.deref-function-items.result.now xs i c.deref-function-items.ensures.value c.loop-function-test.true in
    let is = turn_item c.deref-function-items.result.now xs i item c.deref-function-items.ensures.value c.function-item.is in
    let v = c.loop-function.invariant in
    let above = are_above p xs i c.loop-function.shared c.args.sorts.now c.loop-function.functions refl c.requires.sorts.all_sorts lt v.names v.values v.sort_texts v.shared in
    let names = keys_more placed_function xs i item lt is key in
    let values = keys_more placed_function xs i item lt is (function_value p) in
    record {
      names = pushed _ _ _ _ _ c.in_ok-add-2.ensures.names v.names (sym names);
      values = pushed_as _ _ _ _ _ (function_value p (placed_function item)) c.in_ok-add-2.ensures.values (c.in_ok-decl.ensures.value p c.requires.sorts.all_sorts) v.values (sym values);
      sort_texts = all_more placed_function xs i item lt is (HasSortTexts p) v.sort_texts (c.in_ok-decl.ensures.sorts p c.requires.sorts.all_sorts);
      known = subst (λ (fs : List FunDecl). All (HasSorts 64) fs) (sym c.in_ok-add-2.ensures.values) (all_push (HasSorts 64) c.loop-function.functions.values.items c.in_ok-decl.decl v.known c.in_ok-decl.ensures.known);
      shared = pushed_behind _ _ (above_functions p) _ _ _ c.in_ok-add.ensures.ok v.shared (sym names);
      passed = turn_passed (function_checks p) placed_function xs i item lt is v.passed (c.in_ok-decl.ensures.checks p i above);
    }

pub read_function-requires : goal.read_function-requires
read_function-requires c = record { few = c.requires.sorts.few; known = c.loop-function.invariant.known }

pub add-requires-in-loop-function : goal.add-requires-in-loop-function
add-requires-in-loop-function c =
    let name = c.function-item.result.name.text in
    ap (λ (ts : List Text). is_among ts name) c.loop-function.invariant.names
    ∙ none_behind (above_functions (placed_file c.args.file.now)) _ name (sym (ap (λ (ts : List Text). is_among ts name) c.loop-function.invariant.shared) ∙ c.in_ok-decl.ensures.new)

pub returns : goal.returns
returns c =
    let p = placed_file c.args.file.now in
    let xs = c.args.file.now.functions.items in
    let i = c.loop-function.function-index in
    let le = turns_end c.deref-function-items.result.now xs i c.deref-function-items.ensures.value c.loop-function-test.false in
    let all : take i (map placed_function xs) ≡ map placed_function xs = whole placed_function xs i le in
    let v = c.loop-function.invariant in
    record {
      checks = turns_passed (function_checks p) placed_function xs i le v.passed;
      functions = record {
        names = v.names ∙ ap function_texts all;
        values = v.values ∙ ap (map (function_value p)) all;
        sort_texts = subst (All (HasSortTexts p)) all v.sort_texts;
        shared_names = v.shared ∙ ap (λ (fs : List placed.Function). above_functions p ++ function_texts fs) all;
      };
    }
