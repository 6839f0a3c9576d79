use Rattle.std.proofs.Common.{◌≡◌, ◌∷◌, ◌++◌, [], ℕ, ◌<◌, List, length, map, take, refl, sym, ◌∙◌, ap, subst, arith, append-nil}
use Rattle.std.specs.Prelude.{All}
use Rattle.std.proofs.lemmas.List.{map-append}
use Rattle.ras_logic.specs.declared.ids.SortId.{SortId}
use Rattle.ras_syntax.specs.declared.tree.Relation.{Relation}
use Rattle.ras_syntax.specs.Grammar.{Text}
use Rattle.ras_names.specs.Placed as placed
use Rattle.ras_names.specs.Placed.{columns}
use Rattle.ras_names.specs.Checks.{Check, for_each, is_among, declared_texts, declared_checks}
use Rattle.ras_names.specs.FileChecks.{above_relations, column_checks, relation_checks}
use Rattle.ras_names.proofs.Passing.{Passes}
use Rattle.ras_numbering.specs.FileValues.{relation_value}
use Rattle.ras_scope.specs.Placing.{placed_relation, placed_file}
use Rattle.ras_scope.specs.Answering.{Faults}
use Rattle.ras_scope.specs.Agreeing.{names_of_columns, sorts_of_columns}
use Rattle.ras_declarations.specs.Declaring.{AreOfSort}
use Rattle.ras_scope.specs.declared.table.Table.{Table}
use Rattle.ras_scope.proofs.Following.{handed}
use Rattle.ras_declarations.proofs.Turns.{turn_within, turn_item, turns_end, turns_none, turn_passed, turn_failed, turns_passed}
use Rattle.ras_declarations.proofs.NewNames.{none_behind, keys_more, all_more, taken, whole, pushed, pushed_as, pushed_behind}
use Rattle.ras_declarations.proofs.declarations.read_relations.Goals as goal

abbrev key : placed.Relation → Text
key r = r.name.text

abbrev column_texts : placed.Relation → List Text
column_texts r = declared_texts (columns r)

-- the checks of a relation, by what was read
same_checks : (p : placed.File) (xs : List Relation) (i count : ℕ) (shared names : List Text) (r : placed.Relation) → p.relations ≡ map placed_relation xs → i < length xs → count ≡ length names
    → names ≡ map key (take i (map placed_relation xs)) → shared ≡ above_relations p ++ map key (take i (map placed_relation xs))
    → declared_checks 16 count shared r.name ++ for_each (column_checks p (columns r)) (columns r) ≡ relation_checks p i r
same_checks p xs i count shared names r own lt n made above =
    let counted : count ≡ i = n ∙ ap length made ∙ taken placed_relation key xs i (omega (arith, lt)) in
    let whole_above = above ∙ ap (λ (rs : List placed.Relation). above_relations p ++ map key (take i rs)) (sym own) in
    λ j. declared_checks 16 (counted j) (whole_above j) r.name ++ for_each (column_checks p (columns r)) (columns r)

names_grow : (new old : List (Table SortId)) (table : Table SortId) → new ≡ old ++ table ∷ [] → names_of_columns new ≡ names_of_columns old ++ table.names ∷ []
names_grow new old table grown = ap names_of_columns grown ∙ map-append (λ (t : Table SortId). t.names) old (table ∷ [])

sorts_grow : (new old : List (Table SortId)) (table : Table SortId) → new ≡ old ++ table ∷ [] → sorts_of_columns new ≡ sorts_of_columns old ++ table.values.items ∷ []
sorts_grow new old table grown = ap sorts_of_columns grown ∙ map-append (λ (t : Table SortId). t.values.items) old (table ∷ [])

pub loop-relation-init : goal.loop-relation-init
loop-relation-init c = record {
  names = c.requires.relations;
  column_names = ap names_of_columns c.requires.columns;
  values = ap sorts_of_columns c.requires.columns;
  sort_texts = λ k d lt. absurd (omega (arith, lt));
  shared = c.requires.shared ∙ sym (append-nil (above_relations (placed_file c.args.file.now)));
  passed = turns_none (relation_checks (placed_file c.args.file.now)) placed_relation c.args.file.now.relations.items;
}

pub returns-in_err-table-clause-checks : goal.returns-in_err-table-clause-checks
returns-in_err-table-clause-checks c =
    let p = placed_file c.args.file.now in
    let xs = c.args.file.now.relations.items in
    let i = c.loop-relation.relation-index in
    let item = c.relation-item.result in
    let e = c.in_err-table.field-0.0 in
    let lt = turn_within c.deref-relation-items.result.now xs i c.deref-relation-items.ensures.value c.loop-relation-test.true in
    let is = turn_item c.deref-relation-items.result.now xs i item c.deref-relation-items.ensures.value c.relation-item.is in
    let v = c.loop-relation.invariant in
    let same = same_checks p xs i c.len.result c.loop-relation.shared c.loop-relation.relations (placed_relation item) refl lt c.len.ensures v.names v.shared in
    handed (for_each (relation_checks p) (map placed_relation xs)) c.from_residual.result e c.from_residual.ensures.1
    (turn_failed (relation_checks p) placed_relation xs i item e lt is v.passed (subst (λ (cs : List Check). Faults cs e) same (c.in_err-table.ensures.checks p c.requires.sorts)))

pub loop-relation-preserved : goal.loop-relation-preserved
loop-relation-preserved c =
    let p = placed_file c.args.file.now in
    let xs = c.args.file.now.relations.items in
    let i = c.loop-relation.relation-index in
    let item = c.relation-item.result in
    let lt = turn_within c.deref-relation-items.result.now xs i c.deref-relation-items.ensures.value c.loop-relation-test.true in
    let is = turn_item c.deref-relation-items.result.now xs i item c.deref-relation-items.ensures.value c.relation-item.is in
    let v = c.loop-relation.invariant in
    let same = same_checks p xs i c.len.result c.loop-relation.shared c.loop-relation.relations (placed_relation item) refl lt c.len.ensures v.names v.shared in
    let names = keys_more placed_relation xs i item lt is key in
    let column_names = keys_more placed_relation xs i item lt is column_texts in
    let values = keys_more placed_relation xs i item lt is (relation_value p) in
    record {
      names = pushed _ _ _ _ _ c.in_ok-add-2.ensures.ok v.names (sym names);
      column_names = pushed_as _ _ _ _ _ (column_texts (placed_relation item)) (names_grow _ c.loop-relation.columns.items c.in_ok-table.table c.in_ok-push.ensures.items) c.in_ok-table.ensures.names v.column_names (sym column_names);
      values = pushed_as _ _ _ _ _ (relation_value p (placed_relation item)) (sorts_grow _ c.loop-relation.columns.items c.in_ok-table.table c.in_ok-push.ensures.items) (c.in_ok-table.ensures.values p c.requires.sorts) v.values (sym values);
      sort_texts = all_more placed_relation xs i item lt is (AreOfSort p) v.sort_texts (c.in_ok-table.ensures.sorts p c.requires.sorts);
      shared = pushed_behind _ _ (above_relations p) _ _ _ c.in_ok-add.ensures.ok v.shared (sym names);
      passed = turn_passed (relation_checks p) placed_relation xs i item lt is v.passed (subst Passes same (c.in_ok-table.ensures.checks p c.requires.sorts));
    }

pub add-requires-in-loop-relation : goal.add-requires-in-loop-relation
add-requires-in-loop-relation c =
    let name = c.relation-item.result.name.text in
    ap (λ (ts : List Text). is_among ts name) c.loop-relation.invariant.names
    ∙ none_behind (above_relations (placed_file c.args.file.now)) _ name (sym (ap (λ (ts : List Text). is_among ts name) c.loop-relation.invariant.shared) ∙ c.in_ok-table.ensures.new)

pub returns : goal.returns
returns c =
    let p = placed_file c.args.file.now in
    let xs = c.args.file.now.relations.items in
    let i = c.loop-relation.relation-index in
    let le = turns_end c.deref-relation-items.result.now xs i c.deref-relation-items.ensures.value c.loop-relation-test.false in
    let all : take i (map placed_relation xs) ≡ map placed_relation xs = whole placed_relation xs i le in
    let v = c.loop-relation.invariant in
    record {
      checks = turns_passed (relation_checks p) placed_relation xs i le v.passed;
      relations = record {
        names = v.names ∙ ap (map key) all;
        columns = v.column_names ∙ ap (map column_texts) all;
        values = v.values ∙ ap (map (relation_value p)) all;
        sort_texts = subst (All (AreOfSort p)) all v.sort_texts;
      };
      shared = v.shared ∙ ap (λ (rs : List placed.Relation). above_relations p ++ map key rs) all;
    }
