use Rattle.std.proofs.Common.{◌≡◌, ◌∷◌, ◌++◌, ℕ, ◌<◌, true, List, length, map, take, refl, sym, ◌∙◌, ap, subst, arith, append-nil}
use Rattle.std.specs.Prelude.{All}
use Rattle.ras_syntax.specs.declared.tree.Variable.{Variable}
use Rattle.ras_syntax.specs.Grammar.{Text}
use Rattle.ras_names.specs.Placed as placed
use Rattle.ras_names.specs.Checks.{Check, for_each, is_among, texts, declared_checks, used_check}
use Rattle.ras_names.specs.FileChecks.{above_variables, initial_checks, variable_checks}
use Rattle.ras_names.proofs.Passing.{Passes}
use Rattle.ras_numbering.specs.FileValues.{variable_value, initial_value}
use Rattle.ras_scope.specs.Placing.{placed_variable, placed_file}
use Rattle.ras_scope.specs.Answering.{Faults}
use Rattle.ras_declarations.specs.Declaring.{IsOfSortText}
use Rattle.ras_scope.proofs.Following.{handed}
use Rattle.ras_declarations.proofs.Turns.{turn_within, turn_item, turns_end, turns_none, turn_passed, turn_failed, turns_passed}
use Rattle.ras_declarations.proofs.NewNames.{none_behind, keys_more, all_more, taken, whole, pushed, pushed_as, pushed_behind}
use Rattle.ras_declarations.proofs.declarations.read_variables.Goals as goal

abbrev key : placed.Variable → Text
key v = v.name.text

-- the checks of a variable, by what was read
same_checks : (p : placed.File) (xs : List Variable) (i count : ℕ) (shared names : List Text) (v : placed.Variable) → p.variables ≡ map placed_variable xs → i < length xs → count ≡ length names
    → names ≡ map key (take i (map placed_variable xs)) → shared ≡ above_variables p ++ map key (take i (map placed_variable xs))
    → declared_checks 64 count shared v.name ++ (used_check (texts p.sorts) v.sort ∷ initial_checks p v.sort v.initial) ≡ variable_checks p i v
same_checks p xs i count shared names v own lt n made above =
    let counted : count ≡ i = n ∙ ap length made ∙ taken placed_variable key xs i (omega (arith, lt)) in
    let whole_above = above ∙ ap (λ (vs : List placed.Variable). above_variables p ++ map key (take i vs)) (sym own) in
    λ j. declared_checks 64 (counted j) (whole_above j) v.name ++ (used_check (texts p.sorts) v.sort ∷ initial_checks p v.sort v.initial)

pub loop-variable-init : goal.loop-variable-init
loop-variable-init c = record {
  names = c.requires.names;
  values = c.requires.values;
  initial = c.requires.initials;
  sort_texts = λ k d lt. absurd (omega (arith, lt));
  shared = c.requires.shared ∙ sym (append-nil (above_variables (placed_file c.args.file.now)));
  passed = turns_none (variable_checks (placed_file c.args.file.now)) placed_variable c.args.file.now.variables.items;
}

pub returns-in_err-sort-clause-checks : goal.returns-in_err-sort-clause-checks
returns-in_err-sort-clause-checks c =
    let p = placed_file c.args.file.now in
    let xs = c.args.file.now.variables.items in
    let i = c.loop-variable.variable-index in
    let item = c.variable-item.result in
    let e = c.in_err-sort.field-0.0 in
    let lt = turn_within c.deref-variable-items.result.now xs i c.deref-variable-items.ensures.value c.loop-variable-test.true in
    let is = turn_item c.deref-variable-items.result.now xs i item c.deref-variable-items.ensures.value c.variable-item.is in
    let v = c.loop-variable.invariant in
    let same = same_checks p xs i c.len-count.result c.loop-variable.shared c.loop-variable.vars.names (placed_variable item) refl lt (c.len-count.ensures ∙ ap length c.names.ensures) v.names v.shared in
    handed (for_each (variable_checks p) (map placed_variable xs)) c.from_residual.result e c.from_residual.ensures.1
    (turn_failed (variable_checks p) placed_variable xs i item e lt is v.passed (subst (λ (cs : List Check). Faults cs e) same (c.in_err-sort.ensures.checks p c.requires.sorts c.requires.constants)))

pub loop-variable-preserved : goal.loop-variable-preserved
loop-variable-preserved c =
    let p = placed_file c.args.file.now in
    let xs = c.args.file.now.variables.items in
    let i = c.loop-variable.variable-index in
    let item = c.variable-item.result in
    let lt = turn_within c.deref-variable-items.result.now xs i c.deref-variable-items.ensures.value c.loop-variable-test.true in
    let is = turn_item c.deref-variable-items.result.now xs i item c.deref-variable-items.ensures.value c.variable-item.is in
    let v = c.loop-variable.invariant in
    let same = same_checks p xs i c.len-count.result c.loop-variable.shared c.loop-variable.vars.names (placed_variable item) refl lt (c.len-count.ensures ∙ ap length c.names.ensures) v.names v.shared in
    let names = keys_more placed_variable xs i item lt is key in
    let values = keys_more placed_variable xs i item lt is (variable_value p) in
    let initial = keys_more placed_variable xs i item lt is (initial_value p) in
    record {
      names = pushed _ _ _ _ _ c.in_ok-add-2.ensures.names v.names (sym names);
      values = pushed_as _ _ _ _ _ (variable_value p (placed_variable item)) c.in_ok-add-2.ensures.values (c.in_ok-sort.ensures.sort p c.requires.sorts) v.values (sym values);
      initial = pushed_as _ _ _ _ _ (initial_value p (placed_variable item)) c.in_ok-push.ensures.ok (c.in_ok-sort.ensures.initial p c.requires.constants.names) v.initial (sym initial);
      sort_texts = all_more placed_variable xs i item lt is (IsOfSortText p) v.sort_texts (subst (λ (ss : List Text). is_among ss item.sort.text ≡ true) c.requires.sorts c.in_ok-sort.ensures.known);
      shared = pushed_behind _ _ (above_variables p) _ _ _ c.in_ok-add.ensures.ok v.shared (sym names);
      passed = turn_passed (variable_checks p) placed_variable xs i item lt is v.passed (subst Passes same (c.in_ok-sort.ensures.checks p c.requires.sorts c.requires.constants));
    }

pub add-requires-in-loop-variable : goal.add-requires-in-loop-variable
add-requires-in-loop-variable c =
    let name = c.variable-item.result.name.text in
    ap (λ (ts : List Text). is_among ts name) c.loop-variable.invariant.names
    ∙ none_behind (above_variables (placed_file c.args.file.now)) _ name (sym (ap (λ (ts : List Text). is_among ts name) c.loop-variable.invariant.shared) ∙ c.in_ok-sort.ensures.new)

pub returns : goal.returns
returns c =
    let p = placed_file c.args.file.now in
    let xs = c.args.file.now.variables.items in
    let i = c.loop-variable.variable-index in
    let le = turns_end c.deref-variable-items.result.now xs i c.deref-variable-items.ensures.value c.loop-variable-test.false in
    let all : take i (map placed_variable xs) ≡ map placed_variable xs = whole placed_variable xs i le in
    let v = c.loop-variable.invariant in
    record {
      checks = turns_passed (variable_checks p) placed_variable xs i le v.passed;
      variables = record {
        names = v.names ∙ ap (map key) all;
        values = v.values ∙ ap (map (variable_value p)) all;
        initials = v.initial ∙ ap (map (initial_value p)) all;
        sort_texts = subst (All (IsOfSortText p)) all v.sort_texts;
      };
      shared = v.shared ∙ ap (λ (vs : List placed.Variable). above_variables p ++ map key vs) all;
    }
