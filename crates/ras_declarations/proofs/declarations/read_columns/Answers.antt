use Rattle.std.proofs.Common.{◌≡◌, List, [], ◌∷◌, ◌++◌, length, map, ◌∙◌, ap, subst}
use Rattle.std.specs.Prelude.{All}
use Rattle.ras_syntax.specs.Grammar.{Text}
use Rattle.ras_logic.specs.declared.ids.SortId.{SortId}
use Rattle.ras_names.specs.Placed as placed
use Rattle.ras_names.specs.Placed.{Declared as Item}
use Rattle.ras_names.specs.Checks.{Check, for_each, for_each_from, texts, declared_texts, declared_checks, used_check}
use Rattle.ras_names.specs.FileChecks.{column_checks}
use Rattle.ras_names.proofs.Passing.{Passes, pass_both}
use Rattle.ras_syntax.specs.declared.tree.CommaColumn.{CommaColumn}
use Rattle.ras_scope.specs.Answering.{Answers, Faults}
use Rattle.ras_declarations.specs.Naming.{named_checks, IsOneOf}
use Rattle.ras_scope.specs.Placing.{placed_column, placed_comma}
use Rattle.ras_scope.proofs.Following.{handed, faults_stay, faults_follow}
use Rattle.ras_declarations.proofs.ColumnParts.{numbered_column, front_all}
use Rattle.ras_declarations.proofs.declarations.read_columns.Goals as goal

-- the checks of the first column, of which no names are above, and of the others
first_same : (p : placed.File) (none sorts names : List Text) (first : Item) (others : List Item) → none ≡ [] → names ≡ [] → sorts ≡ texts p.sorts
    → declared_checks 32 (length names) ((none ++ none) ++ names) first.name ++ used_check sorts first.of ∷ [] ≡ column_checks p (first ∷ others) 0 first
first_same p none sorts names first others empty fresh same = λ i. declared_checks 32 (length (fresh i)) ((empty i ++ empty i) ++ fresh i) first.name ++ used_check (same i) first.of ∷ []

others_same : (p : placed.File) (none sorts : List Text) (first : Item) (others : List Item) → none ≡ [] → sorts ≡ texts p.sorts
    → for_each_from 1 (named_checks 32 (none ++ none) sorts (first ∷ others)) others ≡ for_each_from 1 (column_checks p (first ∷ others)) others
others_same p none sorts first others empty same = λ i. for_each_from 1 (named_checks 32 (empty i ++ empty i) (same i) (first ∷ others)) others

pub returns-in_err-add_named-clause-checks : goal.returns-in_err-add_named-clause-checks
returns-in_err-add_named-clause-checks c = λ p same.
    let first = placed_column c.args.relation.now.first in
    let others = map placed_comma c.args.relation.now.others.items in
    let cs : List Item = first ∷ others in
    let e = c.in_err-add_named.field-0.0 in
    handed (for_each (column_checks p cs) cs) c.from_residual.result e c.from_residual.ensures.1
    (faults_stay (column_checks p cs 0 first) (for_each_from 1 (column_checks p cs) others) e
    (subst (λ (checks : List Check). Faults checks e) (first_same p c.new-none.result c.args.sorts.now c.new-columns.result.names first others c.new-none.ensures c.new-columns.ensures.names same) c.in_err-add_named.ensures.checks))

pub returns-in_err-add_all_named-clause-checks : goal.returns-in_err-add_all_named-clause-checks
returns-in_err-add_all_named-clause-checks c = λ p same.
    let first = placed_column c.args.relation.now.first in
    let others = map placed_comma c.as_slice.result.now in
    let cs : List Item = first ∷ others in
    let e = c.in_err-add_all_named.field-0.0 in
    let r = c.from_residual-in_err-add_all_named.result in
    let made = c.in_ok-add_named.ensures.names ∙ ap (λ (ts : List Text). ts ++ first.name.text ∷ []) c.new-columns.ensures.names in
    let pass : Passes (column_checks p cs 0 first) =
    subst Passes (first_same p c.new-none.result c.args.sorts.now c.new-columns.result.names first others c.new-none.ensures c.new-columns.ensures.names same) c.in_ok-add_named.ensures.checks in
    subst (λ (xs : List CommaColumn). Answers (for_each (column_checks p (first ∷ map placed_comma xs)) (first ∷ map placed_comma xs)) r) c.as_slice.ensures.value
    (handed (for_each (column_checks p cs) cs) r e c.from_residual-in_err-add_all_named.ensures.1
    (faults_follow (column_checks p cs 0 first) (for_each_from 1 (column_checks p cs) others) e pass
    (subst (λ (checks : List Check). Faults checks e) (others_same p c.new-none.result c.args.sorts.now first others c.new-none.ensures same) (c.in_err-add_all_named.ensures.checks (first ∷ []) made))))

pub returns : goal.returns
returns c =
    let sorts = c.args.sorts.now in
    let first = placed_column c.args.relation.now.first in
    let others = map placed_comma c.as_slice.result.now in
    let cs : List Item = first ∷ others in
    let same_items = ap (λ (xs : List CommaColumn). first ∷ map placed_comma xs) c.as_slice.ensures.value in
    let made = c.in_ok-add_named.ensures.names ∙ ap (λ (ts : List Text). ts ++ first.name.text ∷ []) c.new-columns.ensures.names in
    let value = c.in_ok-add_named.ensures.values ∙ ap (λ (vs : List SortId). vs ++ numbered_column sorts first ∷ []) c.new-columns.ensures.values in
    let known : All (IsOneOf sorts) cs = front_all (IsOneOf sorts) first others c.in_ok-add_named.ensures.known c.in_ok-add_all_named.ensures.known in
    record {
      checks = λ p same.
          let pass : Passes (column_checks p cs 0 first) =
          subst Passes (first_same p c.new-none.result sorts c.new-columns.result.names first others c.new-none.ensures c.new-columns.ensures.names same) c.in_ok-add_named.ensures.checks in
          subst (λ (ds : List Item). Passes (for_each (column_checks p ds) ds)) same_items
          (pass_both (column_checks p cs 0 first) (for_each_from 1 (column_checks p cs) others) pass
          (subst Passes (others_same p c.new-none.result sorts first others c.new-none.ensures same) (c.in_ok-add_all_named.ensures.checks (first ∷ []) made)));
      names = c.in_ok-add_all_named.ensures.names ∙ ap (λ (ts : List Text). ts ++ declared_texts others) made ∙ ap declared_texts same_items;
      values = λ p same.
          c.in_ok-add_all_named.ensures.values ∙ ap (λ (vs : List SortId). vs ++ map (numbered_column sorts) others) value
          ∙ (λ i. map (numbered_column (same i)) (same_items i));
      sorts = λ p same. subst (All (IsOneOf (texts p.sorts))) same_items (subst (λ (ss : List Text). All (IsOneOf ss) cs) same known);
    }
