use Rattle.std.proofs.Common.{◌≡◌, ◌∷◌, ◌++◌, [], ◌<◌, ◌≤◌, List, length, get_or, take, sym, ◌∙◌, ap, subst, arith}
use Rattle.std.proofs.lemmas.List.{map_more, take_all}
use Rattle.ras_logic.specs.declared.ids.SortId.{SortId}
use Rattle.ras_syntax.specs.Grammar.{Text}
use Rattle.ras_scope.specs.declared.table.Table.{Table}
use Rattle.ras_scope.specs.Agreeing.{sorts_of_columns}
use Rattle.ras_elab.specs.Elaborating.{named_columns}
use Rattle.ras_elab.proofs.NamedColumns.{named_more}
use Rattle.ras_elab.proofs.elaborating.name_columns.Goals as goal

pub loop-i-preserved : goal.loop-i-preserved
loop-i-preserved c =
    let i = c.loop-i.i in
    let names = c.args.names.now in
    let tables = c.args.columns.now in
    let table = c.index-columns-i.result in
    let v = c.loop-i.invariant in
    let lt : i < length tables = c.loop-i-test.true in
    let other : i < length names = omega (arith, lt, c.requires) in
    let same : c.as_slice.result.now ≡ names = c.as_slice.ensures.items ∙ c.in_ok-all.ensures in
    let name : c.index-as_slice-i.result ≡ get_or names i c.index-as_slice-i.result = subst (λ (ns : List Text). c.index-as_slice-i.result ≡ get_or ns i c.index-as_slice-i.result) same c.index-as_slice-i.is in
    let own : c.in_ok-columns.columns ≡ (get_or tables i table).names = c.in_ok-columns.ensures ∙ c.names.ensures ∙ ap (λ (t : Table SortId). t.names) c.index-columns-i.is in
    let sorts : c.from_vec.result ≡ (get_or tables i table).values.items = c.from_vec.ensures ∙ c.in_ok-sorts.ensures.items_if_clones_equal (λ x y h. h) ∙ c.values.ensures.values ∙ ap (λ (t : Table SortId). t.values.items) c.index-columns-i.is in
    record {
      sorts = c.in_ok-push-2.ensures.ok ∙ (λ j. v.sorts j ++ sorts j ∷ []) ∙ sym (map_more (λ (t : Table SortId). t.values.items) tables i table lt);
      names = c.in_ok-push.ensures.ok ∙ (λ j. v.names j ++ record { name = name j; columns = own j } ∷ []) ∙ sym (named_more names tables i c.index-as_slice-i.result table other lt);
    }

pub returns : goal.returns
returns c =
    let i = c.loop-i.i in
    let names = c.args.names.now in
    let tables = c.args.columns.now in
    let le : length tables ≤ i = c.loop-i-test.false in
    let all : take i tables ≡ tables = take_all i tables le in
    let every : take i names ≡ names = take_all i names (omega (arith, le, c.requires)) in
    record {
      sorts = c.loop-i.invariant.sorts ∙ ap sorts_of_columns all;
      names = c.loop-i.invariant.names ∙ (λ j. named_columns (every j) (all j));
    }
