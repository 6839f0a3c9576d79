-- An update or a case that is denoted, and fits, is the value of the text.
use Rattle.std.proofs.Common.{◌≡◌, ℕ, ◌+◌, List, [], ◌∷◌, ◌++◌, length, map, refl, sym, ◌∙◌, ap, subst, arith}
use Rattle.std.specs.Prelude.{Option, Some, None, slice_get, option_map, All}
use Rattle.ras_logic.specs.declared.ids.SortId.{SortId}
use Rattle.ras_logic.specs.declared.ids.RelId.{RelId}
use Rattle.ras_logic.specs.declared.term.Base.TheVariants as base
use Rattle.ras_logic.specs.declared.term.Term.{Term}
use Rattle.ras_logic.specs.declared.literal.Literal.{Literal}
use Rattle.ras_logic.specs.Shapes.{ShapeParts, columns_of}
use Rattle.ras_logic.specs.Formulas.{LiteralFits}
use Rattle.ras_logic.proofs.TermSorts.{and_then_through}
use Rattle.ras_logic.proofs.ByPlace.{one_value}
use Rattle.ras_system.specs.declared.update.Target.{Target}
use Rattle.ras_system.specs.declared.update.Target.TheVariants as target
use Rattle.ras_system.specs.declared.update.Update.{Update}
use Rattle.ras_system.specs.declared.bulk.Assign.{Assign}
use Rattle.ras_system.specs.declared.bulk.Bulk.{Bulk}
use Rattle.ras_system.specs.Systems.{UpdateFits, assign_literal}
use Rattle.ras_syntax.specs.Grammar.{Text}
use Rattle.ras_names.specs.declared.names.Names.{Names}
use Rattle.ras_names.specs.Lists.{HasNumber, OneByOne}
use Rattle.ras_names.specs.NewNames.{relation_names}
use Rattle.ras_names.specs.Terms as denoted
use Rattle.ras_names.specs.Terms.{IsColumn, IsCell, ConjunctionDenotes}
use Rattle.ras_names.specs.Steps.{TargetDenotes, UpdateDenotes, AssignmentDenotes}
use Rattle.ras_names.specs.Placed as placed
use Rattle.ras_names.specs.Placed.{Name, Declared}
use Rattle.ras_names.specs.Unplaced.{conjunction_of, update_of, assignment_of, file_of}
use Rattle.ras_names.specs.Checks.{declared_of}
use Rattle.ras_names.specs.TermChecks.{Scope, columns_named}
use Rattle.ras_names.specs.StepChecks.{variable_texts, target_sort}
use Rattle.ras_names.proofs.Numbered.{AreNumbered, in_right}
use Rattle.ras_names.proofs.Together.{one_by_one-map, one_by_one-all}
use Rattle.ras_names.proofs.OneTerm.{IsClear}
use Rattle.ras_names.proofs.NameLists.{vars_are}
use Rattle.ras_names.proofs.PassTerms.{IsDeclared, names, is_sort_text, some_not_none, bare-sort, column-good, IsGoodColumn, here, checked, RowsDenote, ParamsDenote}
use Rattle.ras_names.proofs.PassSteps.{target-good, IsGoodTarget}
use Rattle.ras_numbering.specs.TermValues.{column_number, sort_or, term_value, conjunction_value}
use Rattle.ras_numbering.specs.FileValues.{target_value, update_value, assignment_value, case_value}
use Rattle.ras_numbering.proofs.FirstPlaces.{number_is, map_is}
use Rattle.ras_numbering.proofs.NumberedTerms.{relation-is, column-is, cell-is, sort_or-is, term-is, conjunction-is}

module _ (p : placed.File) (shape : ShapeParts) (denotes : IsDeclared (file_of p) shape) where
  abbrev all : Names
  all = names p shape denotes

  module _ (rows params : List Declared) (relations : List RelId) (sorts : List SortId) (clear : IsClear (here p shape denotes rows params relations sorts)) (rows_denote : RowsDenote p shape denotes rows params relations sorts) (params_denote : ParamsDenote p shape denotes rows params relations sorts) where
    abbrev scope : denoted.Scope
    scope = here p shape denotes rows params relations sorts

    abbrev seen : Scope
    seen = checked p shape denotes rows params relations sorts

    abbrev zero : SortId
    zero = record { n = 0 }

    abbrev text_of : Option Name → Option Text
    text_of c = option_map (λ (n : Name). n.text) c

    -- where there is a sort of this name, it is found
    named_sort : (o : Option Text) (text : Text) (a : SortId) → o ≡ Some text → HasNumber all.sorts text a.n → sort_or seen zero o ≡ a
    named_sort o text a e h =
        sort_or-is p shape denotes rows params relations sorts clear rows_denote params_denote o a zero (is_sort_text p shape denotes o text a e h) (λ n. absurd (some_not_none o text e n))

    target-is : (name : Name) (column : Option Name) (t : Target) → TargetDenotes scope name.text (text_of column) t → target_value seen name column ≡ t
    target-is name None (target.Var v) h =
        ap (λ (n : ℕ). target.Var (record { n = n }))
        (number_is (variable_texts p) name.text v.n (subst AreNumbered (vars_are p) clear.vars) (subst (λ (ts : List Text). HasNumber ts name.text v.n) (vars_are p) h))
    target-is name None (target.Cell m n) h = absurd h
    target-is name (Some c) (target.Var v) h = absurd h
    target-is name (Some c) (target.Cell m n) h =
        let is = cell-is p shape denotes rows params relations sorts clear rows_denote params_denote name c m n h in
        ap (λ (i : ℕ). target.Cell i (column_number seen name c)) is.row_is ∙ ap (target.Cell m) is.column_is

    pub update-is : (u : placed.Update) (x : Update) → UpdateDenotes scope (update_of u) x → UpdateFits shape relations sorts x → update_value seen u ≡ x
    update-is u x h fits =
        let a : SortId = fits.0 in
        let good : IsGoodTarget p shape denotes rows params relations sorts clear rows_denote params_denote u.name u.column a =
        target-good p shape denotes rows params relations sorts clear rows_denote params_denote u.name u.column x.target a h.0 fits.1 in
        let w : SortId = sort_or seen zero (target_sort seen u.name u.column) in
        let wanted : w ≡ a = named_sort (target_sort seen u.name u.column) good.text a good.of good.sort in
        let make : Target → Term → Update = λ t e. record { target = t; term = e } in
        ap (λ (t : Target). make t (term_value seen w u.term)) (target-is u.name u.column x.target h.0)
        ∙ ap (make x.target) (term-is p shape denotes rows params relations sorts clear rows_denote params_denote u.term x.term a w h.1 fits.2 (λ undef. wanted))

    pub updates-are : (updates : List placed.Update) (xs : List Update) → OneByOne (UpdateDenotes scope) (map update_of updates) xs → All (UpdateFits shape relations sorts) xs
        → map (update_value seen) updates ≡ xs
    updates-are updates xs h fits =
        let denotes_it : placed.Update → Update → Type 0 = λ u x. UpdateDenotes scope (update_of u) x in
        let good : placed.Update → Update → Type 0 = λ u x. denotes_it u x × UpdateFits shape relations sorts x in
        map_is good (update_value seen) updates xs
        (one_by_one-all denotes_it (UpdateFits shape relations sorts) updates xs (one_by_one-map (UpdateDenotes scope) update_of updates xs h) fits)
        (λ k u x at both. update-is u x both.0 both.1)

  -- the cases of an `each`, whose row stands behind the row parameters
  module _ (rows params : List Declared) (relations : List RelId) (sorts : List SortId) (e : placed.Each) (r : RelId) where
    abbrev more : List Declared
    more = rows ++ record { name = e.row; of = e.relation } ∷ []

    abbrev behind : List RelId
    behind = relations ++ r ∷ []

    abbrev within : denoted.Scope
    within = here p shape denotes more params behind sorts

    abbrev seen_within : Scope
    seen_within = checked p shape denotes more params behind sorts

    module _ (clear : IsClear within) (rows_denote : RowsDenote p shape denotes more params behind sorts) (params_denote : ParamsDenote p shape denotes more params behind sorts) (is_relation : HasNumber (relation_names all) e.relation.text r.n) where
      behind_is : (q : RelId) → slice_get behind (length relations) ≡ Some q → r ≡ q
      behind_is q h =
          one_value behind (length relations) r q
          (subst (λ (n : ℕ). slice_get behind n ≡ Some r) (let z : length relations + 0 ≡ length relations = omega arith in z) (in_right relations (r ∷ []) 0 r refl)) h

      abbrev own_columns : List Declared
      own_columns = columns_named p e.relation.text

      assignment-is : (a : placed.Assignment) (x : Assign) → AssignmentDenotes within (length relations) (assignment_of a) x → LiteralFits shape behind sorts (assign_literal (length relations) x)
          → assignment_value seen_within own_columns a ≡ x
      assignment-is a x h fits =
          let s : SortId = fits.0 in
          let cell : IsCell within a.row.text a.column.text (length relations) x.column = h.0 in
          let same : r ≡ cell.1.0 = behind_is cell.1.0 cell.1.1 in
          let is_column : IsColumn all r a.column.text x.column = subst (λ (q : RelId). IsColumn all q a.column.text x.column) (sym same) cell.1.2 in
          let sort = bare-sort shape behind sorts (base.Cell (length relations) x.column) s fits.1 in
          let t = and_then_through _ (slice_get behind (length relations)) s sort in
          let q = and_then_through (λ (c : List SortId). slice_get c x.column) (columns_of shape t.mid) s t.second in
          let mid : t.mid ≡ r = sym (behind_is t.mid t.first) in
          let good : IsGoodColumn p shape denotes e.relation.text a.column.text s =
          column-good p shape denotes e.relation.text r a.column.text x.column q.mid s is_relation is_column (subst (λ (z : RelId). columns_of shape z ≡ Some q.mid) mid q.first) q.second in
          let w : SortId = sort_or seen_within zero_sort (declared_of own_columns a.column.text) in
          let wanted : w ≡ s = named_sort more params behind sorts clear rows_denote params_denote (declared_of own_columns a.column.text) good.text s good.of good.sort in
          let make : ℕ → Term → Assign = λ n u. record { column = n; term = u } in
          ap (λ (n : ℕ). make n (term_value seen_within w a.term)) (column-is p shape denotes e.relation.text r a.column.text x.column is_relation is_column)
          ∙ ap (make x.column) (term-is p shape denotes more params behind sorts clear rows_denote params_denote a.term x.term s w h.1 fits.2 (λ undef. wanted))
        where
          zero_sort : SortId
          zero_sort = record { n = 0 }

      pub case-is : (c : placed.Case) (b : Bulk) → HasNumber (relation_names all) e.relation.text b.relation.n → ConjunctionDenotes within (conjunction_of c.condition) b.condition → All (LiteralFits shape behind sorts) b.condition
          → OneByOne (AssignmentDenotes within (length relations)) (map assignment_of c.assignments) b.assigns → All (λ (x : Assign). LiteralFits shape behind sorts (assign_literal (length relations) x)) b.assigns
          → case_value seen_within e c ≡ b
      case-is c b relation condition condition_fits assigns assigns_fit =
          let denotes_it : placed.Assignment → Assign → Type 0 = λ a x. AssignmentDenotes within (length relations) (assignment_of a) x in
          let fits : Assign → Type 0 = λ x. LiteralFits shape behind sorts (assign_literal (length relations) x) in
          let good : placed.Assignment → Assign → Type 0 = λ a x. denotes_it a x × fits x in
          let all_are : map (assignment_value seen_within own_columns) c.assignments ≡ b.assigns =
          map_is good (assignment_value seen_within own_columns) c.assignments b.assigns
          (one_by_one-all denotes_it fits c.assignments b.assigns (one_by_one-map (AssignmentDenotes within (length relations)) assignment_of c.assignments b.assigns assigns) assigns_fit)
          (λ k a x at both. assignment-is a x both.0 both.1) in
          let make : RelId → List Literal → List Assign → Bulk = λ q ls xs. record { relation = q; condition = ls; assigns = xs } in
          ap (λ (q : RelId). make q (conjunction_value seen_within c.condition) (map (assignment_value seen_within own_columns) c.assignments)) (relation-is p shape denotes e.relation.text b.relation relation)
          ∙ ap (λ (ls : List Literal). make b.relation ls (map (assignment_value seen_within own_columns) c.assignments))
          (conjunction-is p shape denotes more params behind sorts clear rows_denote params_denote c.condition b.condition condition condition_fits)
          ∙ ap (make b.relation b.condition) all_are
