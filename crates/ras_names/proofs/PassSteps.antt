-- Where a step denotes, none of its checks fails.
use Rattle.std.proofs.Common.{◌≡◌, ℕ, ◌<◌, ◌≤◌, true, false, List, [], ◌∷◌, ◌++◌, length, take, map, get_or, refl, sym, ◌∙◌, ap, subst, arith}
use Rattle.std.specs.Prelude.{◌≢◌, Option, Some, None, slice_get, option_map, not, All, AllPairs, nat_le}
use Rattle.std.specs.List.{list_any}
use Rattle.std.specs.Str.{bytes_eq}
use Rattle.std.proofs.lemmas.List.{take-map}
use Rattle.std.proofs.lemmas.List.Folds.{Any-from_list_any}
use Rattle.std.proofs.lemmas.Bool.{and_parts}
use Rattle.std.proofs.lemmas.Option.{slice_get_within, get_or_from_slice_get, slice_get-get_or}
use Rattle.ras_logic.specs.declared.ids.SortId.{SortId}
use Rattle.ras_logic.specs.declared.ids.RelId.{RelId}
use Rattle.ras_logic.specs.declared.term.Base.TheVariants as base
use Rattle.ras_logic.specs.declared.literal.Literal.{Literal}
use Rattle.ras_logic.specs.Shapes.{ShapeParts}
use Rattle.ras_logic.specs.Terms.{sort_of}
use Rattle.ras_logic.specs.Formulas.{LiteralFits}
use Rattle.ras_logic.proofs.ByPlace.{map-at, map_from, not_true, take_at}
use Rattle.ras_system.specs.declared.update.Target.{Target}
use Rattle.ras_system.specs.declared.update.Target.TheVariants as target
use Rattle.ras_system.specs.declared.update.Update.{Update}
use Rattle.ras_system.specs.Systems.{target_term, UpdateFits}
use Rattle.ras_syntax.specs.Grammar as grammar
use Rattle.ras_syntax.specs.Grammar.{Text}
use Rattle.ras_names.specs.declared.names.Names.{Names}
use Rattle.ras_names.specs.declared.spec_fault.SpecKind.TheVariants.{WrongSort, TooMany, RepeatedTarget}
use Rattle.ras_names.specs.Lists.{HasNumber, OneByOne}
use Rattle.ras_names.specs.FileNames.{names_of_rows, names_of_params}
use Rattle.ras_names.specs.NewNames.{relation_names}
use Rattle.ras_names.specs.Terms as denoted
use Rattle.ras_names.specs.Terms.{IsCell, TermDenotes, ConjunctionDenotes}
use Rattle.ras_names.specs.Steps.{TargetDenotes, UpdateDenotes}
use Rattle.ras_names.specs.Placed as placed
use Rattle.ras_names.specs.Placed.{Name, Declared, cases, disjuncts}
use Rattle.ras_names.specs.Unplaced.{row_of, param_of, conjunction_of, variable_of, update_of, file_of}
use Rattle.ras_names.specs.Checks.{Check, check, is_among, texts, declared_texts, new_check, used_check, for_each}
use Rattle.ras_names.specs.TermChecks.{Scope, agree, variable_sort, term_sort, term_checks, disjunct_checks, guard_checks}
use Rattle.ras_names.specs.StepChecks.{variable_texts, relation_texts, row_checks, param_checks, is_same_column, is_same_target, target_checks, target_sort, update_checks}
use Rattle.ras_names.proofs.Numbered.{AreNumbered}
use Rattle.ras_names.proofs.Together.{one_by_one-at, one_by_one-to, one_by_one-map}
use Rattle.ras_names.proofs.OneTerm.{IsClear}
use Rattle.ras_names.proofs.OneStep.{target-unique}
use Rattle.ras_names.proofs.ClearNames.{all-at}
use Rattle.ras_names.proofs.NameLists.{sorts_are, vars_are, relations_are}
use Rattle.ras_names.proofs.Passing.{Passes, pass_first, pass_one, pass_both, pass_each, not-passes}
use Rattle.ras_names.proofs.Among.{text_same, among_at, fresh, map-map, found_at, below}
use Rattle.ras_names.proofs.PassTerms.{IsDeclared, bare-sort, some_not_none, names, IsSortText, agree-good, here, checked, RowsDenote, ParamsDenote, cell-good, within-good, term-passes, disjunct-passes}

pub rows_are : (rows : List Declared) → names_of_rows (map row_of rows) ≡ declared_texts rows
rows_are rows = map-map (λ (r : grammar.Row). r.name) row_of rows

pub params_are : (params : List Declared) → names_of_params (map param_of params) ≡ declared_texts params
params_are params = map-map (λ (q : grammar.Param). q.name) param_of params

-- elements at two places, of which none are related
pub apart_at : {X : Type 0} (R : X → X → Type 0) (xs : List X) (i j : ℕ) (x y : X) → AllPairs R xs → i < j → slice_get xs i ≡ Some x → slice_get xs j ≡ Some y → R x y
apart_at R xs i j x y h lt a b =
    subst (λ z. R x z) (get_or_from_slice_get xs j y x b)
    (subst (λ z. R z (get_or xs j x)) (get_or_from_slice_get xs i x x a) (h i j x lt (slice_get_within xs j y b)))

-- the names of rows or data parameters that are new are so one by one
pub declared-fresh : (above : List Text) (ds : List Declared) (k : ℕ) (d : Declared) → AreNumbered (above ++ declared_texts ds) → slice_get ds k ≡ Some d
    → is_among (above ++ declared_texts (take k ds)) d.name.text ≡ false
declared-fresh above ds k d numbered at =
    subst (λ (ts : List Text). is_among (above ++ ts) d.name.text ≡ false) (take-map (λ (x : Declared). x.name.text) k ds)
    (fresh above (declared_texts ds) k d.name.text numbered (map-at (λ (x : Declared). x.name.text) ds k d at))

same_columns : (b c : Option Name) → is_same_column b c ≡ true → option_map (λ (n : Name). n.text) b ≡ option_map (λ (n : Name). n.text) c
same_columns None None h = refl
same_columns None (Some c) h = absurd (cc)
same_columns (Some b) None h = absurd (cc)
same_columns (Some b) (Some c) h = ap (λ (t : Text). Some t) (text_same b.text c.text h)

module _ (p : placed.File) (shape : ShapeParts) (denotes : IsDeclared (file_of p) shape) where
  pub relation_known : (n : Name) (r : RelId) → HasNumber (relation_names (names p shape denotes)) n.text r.n → (used_check (relation_texts p) n).fails ≡ false
  relation_known n r h = not-passes _ (among_at (relation_texts p) n.text r.n (subst (λ (ts : List Text). HasNumber ts n.text r.n) (relations_are p) h))

  pub sort_known : (n : Name) (s : SortId) → HasNumber (names p shape denotes).sorts n.text s.n → (used_check (texts p.sorts) n).fails ≡ false
  sort_known n s h = not-passes _ (among_at (texts p.sorts) n.text s.n (subst (λ (ts : List Text). HasNumber ts n.text s.n) (sorts_are p) h))

  -- the rows and the data parameters
  pub rows-pass : (above : List Text) (rows : List Declared) (relations : List RelId) → AreNumbered (above ++ declared_texts rows) → length relations ≤ 8
      → RowsDenote p shape denotes rows [] relations [] → Passes (for_each (row_checks p above rows) rows)
  rows-pass above rows relations numbered le h =
      pass_each (row_checks p above rows) rows (λ k r e.
      let to = one_by_one-to (λ (d : Declared) (n : RelId). HasNumber (relation_names (names p shape denotes)) d.of.text n.n) rows relations k r h e in
      pass_first (check r.name.at TooMany (nat_le 8 k)) (new_check (above ++ declared_texts (take k rows)) r.name ∷ used_check (relation_texts p) r.of ∷ [])
      (below 8 k (length relations) (slice_get_within relations k to.0 to.1) le)
      (pass_first (new_check (above ++ declared_texts (take k rows)) r.name) (used_check (relation_texts p) r.of ∷ []) (declared-fresh above rows k r numbered e)
      (pass_one (used_check (relation_texts p) r.of) (relation_known r.of to.0 to.2))))

  pub params-pass : (above : List Text) (params : List Declared) (sorts : List SortId) → AreNumbered (above ++ declared_texts params) → length sorts ≤ 16
      → ParamsDenote p shape denotes [] params [] sorts → Passes (for_each (param_checks p above params) params)
  params-pass above params sorts numbered le h =
      pass_each (param_checks p above params) params (λ k q e.
      let to = one_by_one-to (λ (d : Declared) (s : SortId). HasNumber (names p shape denotes).sorts d.of.text s.n) params sorts k q h e in
      pass_first (check q.name.at TooMany (nat_le 16 k)) (new_check (above ++ declared_texts (take k params)) q.name ∷ used_check (texts p.sorts) q.of ∷ [])
      (below 16 k (length sorts) (slice_get_within sorts k to.0 to.1) le)
      (pass_first (new_check (above ++ declared_texts (take k params)) q.name) (used_check (texts p.sorts) q.of ∷ []) (declared-fresh above params k q numbered e)
      (pass_one (used_check (texts p.sorts) q.of) (sort_known q.of to.0 to.2))))

  module _ (rows params : List Declared) (relations : List RelId) (sorts : List SortId) (clear : IsClear (here p shape denotes rows params relations sorts)) (rows_denote : RowsDenote p shape denotes rows params relations sorts) (params_denote : ParamsDenote p shape denotes rows params relations sorts) where
    abbrev scope : denoted.Scope
    scope = here p shape denotes rows params relations sorts

    abbrev seen : Scope
    seen = checked p shape denotes rows params relations sorts

    abbrev text_of : Option Name → Option Text
    text_of c = option_map (λ (n : Name). n.text) c

    pub record IsGoodTarget (name : Name) (column : Option Name) (a : SortId) : Type 0 where
      pub passes : Passes (target_checks seen name column)
      pub text : Text
      pub of : target_sort seen name column ≡ Some text
      pub sort : HasNumber (names p shape denotes).sorts text a.n

    pub target-good : (name : Name) (column : Option Name) (t : Target) (a : SortId) → TargetDenotes scope name.text (text_of column) t → sort_of shape relations sorts (target_term t) ≡ Some a
        → IsGoodTarget name column a
    target-good name None (target.Var v) a h sort =
        let all : Names = names p shape denotes in
        let w = map_from (λ (x : placed.Variable). x.name.text) p.variables v.n name.text (subst (λ (ts : List Text). HasNumber ts name.text v.n) (vars_are p) h) in
        let key : Declared → Text = λ d. d.name.text in
        let texts_are : declared_texts (map variable_sort p.variables) ≡ all.vars = map-map key variable_sort p.variables ∙ sym (vars_are p) in
        let of = found_at key (map variable_sort p.variables) v.n (variable_sort w.0) name.text (subst AreNumbered (sym texts_are) clear.vars) (map-at variable_sort p.variables v.n w.0 w.1) w.2 in record {
          passes = pass_one (used_check (variable_texts p) name) (not-passes _ (among_at (variable_texts p) name.text v.n (subst (λ (ts : List Text). HasNumber ts name.text v.n) (vars_are p) h)));
          text = w.0.sort.text;
          of = ap (option_map (λ (d : Declared). d.of.text)) of;
          sort = one_by_one-at (λ (x : grammar.Variable) (s : SortId). HasNumber all.sorts x.sort s.n) (map variable_of p.variables) shape.vars v.n (variable_of w.0) a denotes.variables (map-at variable_of p.variables v.n w.0 w.1)
              (bare-sort shape relations sorts (base.Var v) a sort);
        }
    target-good name None (target.Cell m n) a h sort = absurd h
    target-good name (Some c) (target.Var v) a h sort = absurd h
    target-good name (Some c) (target.Cell m n) a h sort =
        let good = cell-good p shape denotes rows params relations sorts clear rows_denote params_denote name c m n a h (bare-sort shape relations sorts (base.Cell m n) a sort) in
        record { passes = good.passes; text = good.text; of = good.of; sort = good.sort }

    -- an update, and that its target is no earlier one
    update-passes : (updates : List placed.Update) (xs : List Update) (k : ℕ) (u : placed.Update) (x : Update) → slice_get updates k ≡ Some u → slice_get xs k ≡ Some x
        → OneByOne (λ (g : placed.Update) (y : Update). UpdateDenotes scope (update_of g) y) updates xs → AllPairs (λ (y e : Update). y.target ≢ e.target) xs
        → UpdateFits shape relations sorts x → Passes (update_checks seen updates k u)
    update-passes updates xs k u x at x_at h once fits =
        let together : placed.Update → Update → Type 0 = λ g y. UpdateDenotes scope (update_of g) y in
        let one : UpdateDenotes scope (update_of u) x = one_by_one-at together updates xs k u x h at x_at in
        let good : IsGoodTarget u.name u.column fits.0 = target-good u.name u.column x.target fits.0 one.0 fits.1 in
        let term = within-good p shape denotes rows params relations sorts clear rows_denote params_denote u.term.functions u.term.base x.term fits.0 one.1 fits.2 in
        let repeated : list_any (is_same_target u) (take k updates) ≡ true → ⊥ = λ r.
        let any = Any-from_list_any (is_same_target u) (take k updates) r in
        let w : placed.Update = any.1 in
        let w_at = take_at k updates any.0 w (slice_get-get_or (take k updates) any.0 w any.2 ∙ ap (λ (z : placed.Update). Some z) any.3) in
        let y = one_by_one-to together updates xs any.0 w h w_at.0 in
        let same = and_parts (bytes_eq u.name.text w.name.text) (is_same_column u.column w.column) any.4 in
        let name : w.name.text ≡ u.name.text = sym (text_same u.name.text w.name.text same.0) in
        let column : text_of w.column ≡ text_of u.column = sym (same_columns u.column w.column same.1) in
        let y_target : TargetDenotes scope u.name.text (text_of u.column) y.0.target =
        subst (λ (c : Option Text). TargetDenotes scope u.name.text c y.0.target) column (subst (λ (n : Text). TargetDenotes scope n (text_of w.column) y.0.target) name y.2.0) in
        apart_at (λ (a b : Update). a.target ≢ b.target) xs any.0 k y.0 x once w_at.1 y.1 x_at (target-unique scope clear shape sorts u.name.text (text_of u.column) y.0.target x.target y_target one.0) in
        let last : Check = check u.at WrongSort (not (agree (target_sort seen u.name u.column) (term_sort seen u.term))) in
        let second : Check = check u.name.at RepeatedTarget (list_any (is_same_target u) (take k updates)) in
        let target_text : IsSortText p shape denotes (target_sort seen u.name u.column) fits.0 =
        subst (λ (o : Option Text). IsSortText p shape denotes o fits.0) (sym good.of) good.sort in
        pass_both (target_checks seen u.name u.column) (second ∷ (term_checks seen u.term ++ (last ∷ []))) good.passes
        (pass_first second (term_checks seen u.term ++ (last ∷ [])) (not_true _ repeated)
        (pass_both (term_checks seen u.term) (last ∷ []) (term-passes p shape denotes rows params relations sorts clear rows_denote params_denote u.term x.term fits.0 one.1 fits.2)
        (pass_one last (not-passes _ (agree-good p shape denotes (target_sort seen u.name u.column) (term_sort seen u.term) fits.0 target_text term.sort (λ n m. some_not_none (target_sort seen u.name u.column) good.text good.of n))))))

    pub updates-pass : (updates : List placed.Update) (xs : List Update) → OneByOne (UpdateDenotes scope) (map update_of updates) xs → AllPairs (λ (y e : Update). y.target ≢ e.target) xs
        → All (UpdateFits shape relations sorts) xs → Passes (for_each (update_checks seen updates) updates)
    updates-pass updates xs h once fits =
        let h' = one_by_one-map (UpdateDenotes scope) update_of updates xs h in
        pass_each (update_checks seen updates) updates (λ k u e.
        let x = one_by_one-to (λ (g : placed.Update) (y : Update). UpdateDenotes scope (update_of g) y) updates xs k u h' e in
        update-passes updates xs k u x.0 e x.1 h' once (all-at (UpdateFits shape relations sorts) xs k x.0 fits x.1))

    pub guard-passes : (g : placed.Guard) (xs : List (List Literal)) → OneByOne (ConjunctionDenotes scope) (map conjunction_of (disjuncts g)) xs → length xs ≤ 64
        → All (λ (ls : List Literal). length ls ≤ 128) xs → All (All (LiteralFits shape relations sorts)) xs → Passes (guard_checks seen 0 g)
    guard-passes g xs h le wide fits =
        let h' = one_by_one-map (ConjunctionDenotes scope) conjunction_of (disjuncts g) xs h in
        pass_each (disjunct_checks seen) (disjuncts g) (λ k c e.
        let x = one_by_one-to (λ (d : placed.Conjunction) (ls : List Literal). ConjunctionDenotes scope (conjunction_of d) ls) (disjuncts g) xs k c h' e in
        disjunct-passes p shape denotes rows params relations sorts clear rows_denote params_denote k c x.0
        (let lt : k < length xs = slice_get_within xs k x.0 x.1 in omega (arith, lt, le))
        (all-at (λ (ls : List Literal). length ls ≤ 128) xs k x.0 wide x.1) x.2 (all-at (All (LiteralFits shape relations sorts)) xs k x.0 fits x.1))
