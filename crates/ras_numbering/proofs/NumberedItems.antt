-- A step or an unsafe item that is denoted, and fits, is the value of the text.
use Rattle.std.proofs.Common.{◌≡◌, ℕ, List, [], ◌∷◌, ◌++◌, length, map, refl, sym, ◌∙◌, ap, subst}
use Rattle.std.specs.Prelude.{Some, slice_get, All}
use Rattle.std.proofs.lemmas.List.{map-append}
use Rattle.ras_logic.specs.declared.ids.SortId.{SortId}
use Rattle.ras_logic.specs.declared.ids.RelId.{RelId}
use Rattle.ras_logic.specs.declared.literal.Literal.{Literal}
use Rattle.ras_logic.specs.declared.problem.Problem.{Problem}
use Rattle.ras_logic.specs.Shapes.{ShapeParts}
use Rattle.ras_logic.specs.Formulas.{LiteralFits, Fits}
use Rattle.ras_logic.proofs.ByPlace.{map-at}
use Rattle.ras_system.specs.declared.update.Update.{Update}
use Rattle.ras_system.specs.declared.bulk.Bulk.{Bulk}
use Rattle.ras_system.specs.declared.transition.Transition.{Transition}
use Rattle.ras_system.specs.Systems.{bulk_rows, BulkFits, IsTransition}
use Rattle.ras_syntax.specs.Grammar as grammar
use Rattle.ras_syntax.specs.Grammar.{Text}
use Rattle.ras_names.specs.declared.names.Names.{Names}
use Rattle.ras_names.specs.Lists.{HasNumber, OneByOne}
use Rattle.ras_names.specs.FileParts as parts
use Rattle.ras_names.specs.FileNames.{names_of_rows, names_of_params}
use Rattle.ras_names.specs.NewNames.{relation_names}
use Rattle.ras_names.specs.Terms as denoted
use Rattle.ras_names.specs.Terms.{ConjunctionDenotes}
use Rattle.ras_names.specs.Steps.{UpdateDenotes, AssignmentDenotes, RowDenotes, ParamDenotes, step_scope, each_scope, CaseDenotes, StepDenotes, GoalDenotes}
use Rattle.ras_names.specs.Placed as placed
use Rattle.ras_names.specs.Placed.{Declared, cases, disjuncts}
use Rattle.ras_names.specs.Unplaced.{row_of, param_of, conjunction_of, update_of, assignment_of, case_of, each_of, step_of, goal_of, file_of}
use Rattle.ras_names.specs.Checks.{declared_texts}
use Rattle.ras_names.specs.StepChecks.{with_row}
use Rattle.ras_names.proofs.Together.{one_by_one-map, one_by_one-more, one_by_one-all, pair_from}
use Rattle.ras_names.proofs.OneTerm.{IsClear}
use Rattle.ras_names.proofs.OneStep.{each_clear}
use Rattle.ras_names.proofs.ClearNames.{relations-numbered, sorts-numbered, step-clear, each-numbered, goal-clear}
use Rattle.ras_names.proofs.PassTerms.{IsDeclared, names, here, RowsDenote, ParamsDenote}
use Rattle.ras_names.proofs.PassSteps.{rows_are, params_are}
use Rattle.ras_numbering.specs.Numbers.{declared_sort, declared_relation}
use Rattle.ras_numbering.specs.TermValues.{conjunction_value, guard_value}
use Rattle.ras_numbering.specs.FileValues.{update_value, case_value, cases_value, step_names, step_value, goal_names, goal_value}
use Rattle.ras_numbering.proofs.FirstPlaces.{map_is, with_parts, parts_mapped, with_parts_mapped}
use Rattle.ras_numbering.proofs.NumberedTerms.{sort-is, relation-is, conjunction-is, guard-is}
use Rattle.ras_numbering.proofs.NumberedSteps.{updates-are, case-is}

module _ (p : placed.File) (shape : ShapeParts) (denotes : IsDeclared (file_of p) shape) where
  abbrev all : Names
  all = names p shape denotes

  rows-are : (rows : List Declared) (relations : List RelId) → OneByOne (RowDenotes all) (map row_of rows) relations → map (declared_relation p) rows ≡ relations
  rows-are rows relations h =
      let is : Declared → RelId → Type 0 = λ d r. HasNumber (relation_names all) d.of.text r.n in
      map_is is (declared_relation p) rows relations (one_by_one-map (RowDenotes all) row_of rows relations h) (λ k d r at i. relation-is p shape denotes d.of.text r i)

  params-are : (params : List Declared) (sorts : List SortId) → OneByOne (ParamDenotes all) (map param_of params) sorts → map (declared_sort p) params ≡ sorts
  params-are params sorts h =
      let is : Declared → SortId → Type 0 = λ d s. HasNumber all.sorts d.of.text s.n in
      map_is is (declared_sort p) params sorts (one_by_one-map (ParamDenotes all) param_of params sorts h) (λ k d s at i. sort-is p shape denotes d.of.text s i)

  abbrev make : List Text → List RelId → List Text → denoted.Scope
  make rows relations params = record { names = all; rows = rows; relations = relations; params = params }

  module _ (k : ℕ) (s : placed.Step) (at : slice_get p.steps k ≡ Some s) (t : Transition) (d : StepDenotes all (step_of s) t) (fit : IsTransition shape t) where
    abbrev inside : denoted.Scope
    inside = here p shape denotes s.rows s.params t.rows t.params

    same : step_scope all (step_of s) t ≡ inside
    same = ap (λ (r : List Text). make r t.rows (names_of_params (map param_of s.params))) (rows_are s.rows) ∙ ap (make (declared_texts s.rows) t.rows) (params_are s.params)

    found : slice_get (file_of p).steps k ≡ Some (step_of s)
    found = map-at step_of p.steps k s at

    clear : IsClear (step_scope all (step_of s) t)
    clear = step-clear (file_of p) denotes.new_names k (step_of s) found t.rows

    here_clear : IsClear inside
    here_clear = subst IsClear same clear

    rows_denote : RowsDenote p shape denotes s.rows s.params t.rows t.params
    rows_denote = one_by_one-map (RowDenotes all) row_of s.rows t.rows d.rows

    params_denote : ParamsDenote p shape denotes s.rows s.params t.rows t.params
    params_denote = one_by_one-map (ParamDenotes all) param_of s.params t.params d.params

    guard-here : guard_value (step_names p s) s.guard ≡ t.guard
    guard-here =
        guard-is p shape denotes s.rows s.params t.rows t.params here_clear rows_denote params_denote s.guard t.guard
        (subst (λ (q : denoted.Scope). OneByOne (ConjunctionDenotes q) (map conjunction_of (disjuncts s.guard)) t.guard) same d.guard) fit.guard

    updates-here : map (update_value (step_names p s)) s.updates ≡ t.updates
    updates-here =
        updates-are p shape denotes s.rows s.params t.rows t.params here_clear rows_denote params_denote s.updates t.updates
        (subst (λ (q : denoted.Scope). OneByOne (UpdateDenotes q) (map update_of s.updates) t.updates) same d.updates) fit.updates

    module _ (j : ℕ) (e : placed.Each) (e_at : slice_get s.eachs j ≡ Some e) (c : placed.Case) (b : Bulk) (one : CaseDenotes all (step_of s) t (each_of e, case_of c) b) (fits : BulkFits shape t b) where
      abbrev own_row : Declared
      own_row = record { name = e.row; of = e.relation }

      abbrev within : denoted.Scope
      within = here p shape denotes (s.rows ++ own_row ∷ []) s.params (bulk_rows t b) t.params

      same_within : each_scope all (step_of s) (each_of e) t b ≡ within
      same_within =
          let rows : names_of_rows (map row_of s.rows) ++ e.row.text ∷ [] ≡ declared_texts (s.rows ++ own_row ∷ []) =
          ap (λ (ts : List Text). ts ++ e.row.text ∷ []) (rows_are s.rows) ∙ sym (map-append (λ (x : Declared). x.name.text) s.rows (own_row ∷ [])) in
          ap (λ (r : List Text). make r (bulk_rows t b) (names_of_params (map param_of s.params))) rows ∙ ap (make (declared_texts (s.rows ++ own_row ∷ [])) (bulk_rows t b)) (params_are s.params)

      within_clear : IsClear within
      within_clear =
          subst IsClear same_within
          (each_clear all shape (relations-numbered all denotes.new_names) (sorts-numbered all denotes.new_names) (step_of s) t clear (each-numbered (file_of p) denotes.new_names k (step_of s) found) j (each_of e) (map-at each_of s.eachs j e e_at) b)

      case-here : case_value (with_row (step_names p s) e) e c ≡ b
      case-here =
          case-is p shape denotes s.rows s.params t.rows t.params e b.relation within_clear
          (one_by_one-more (λ (r : Declared) (m : RelId). HasNumber (relation_names all) r.of.text m.n) s.rows t.rows own_row b.relation rows_denote one.relation) params_denote one.relation c b one.relation
          (subst (λ (q : denoted.Scope). ConjunctionDenotes q (conjunction_of c.condition) b.condition) same_within one.condition) fits.condition
          (subst (λ (q : denoted.Scope). OneByOne (AssignmentDenotes q (length t.rows)) (map assignment_of c.assignments) b.assigns) same_within one.assigns) fits.assigns

    cases-here : cases_value (step_names p s) s.eachs ≡ t.bulk
    cases-here =
        let value : placed.Each → placed.Case → Bulk = λ e c. case_value (with_row (step_names p s) e) e c in
        let pair : placed.Each × placed.Case → grammar.Each × grammar.Case = λ z. (each_of z.0, case_of z.1) in
        let denotes_it : placed.Each × placed.Case → Bulk → Type 0 = λ z b. CaseDenotes all (step_of s) t (pair z) b in
        let good : placed.Each × placed.Case → Bulk → Type 0 = λ z b. denotes_it z b × BulkFits shape t b in
        let listed : OneByOne (CaseDenotes all (step_of s) t) (map pair (with_parts cases s.eachs)) t.bulk =
        subst (λ (zs : List (grammar.Each × grammar.Case)). OneByOne (CaseDenotes all (step_of s) t) zs t.bulk) (with_parts_mapped cases parts.cases each_of case_of (λ e. refl) s.eachs) d.bulk in
        parts_mapped cases value s.eachs
        ∙ map_is good (λ z. value z.0 z.1) (with_parts cases s.eachs) t.bulk
        (one_by_one-all denotes_it (BulkFits shape t) (with_parts cases s.eachs) t.bulk (one_by_one-map (CaseDenotes all (step_of s) t) pair (with_parts cases s.eachs) t.bulk listed) fit.bulk)
        (λ n z b z_at both. let from = pair_from cases s.eachs n z z_at in case-here from.0 z.0 from.1 z.1 b both.0 both.1)

    pub step-is : step_value p s ≡ t
    step-is =
        let build : List RelId → List SortId → List (List Literal) → List Update → List Bulk → Transition = λ r q g u b. record { rows = r; params = q; guard = g; updates = u; bulk = b } in
        let v : Transition = step_value p s in
        ap (λ (r : List RelId). build r v.params v.guard v.updates v.bulk) (rows-are s.rows t.rows d.rows)
        ∙ ap (λ (q : List SortId). build t.rows q v.guard v.updates v.bulk) (params-are s.params t.params d.params)
        ∙ ap (λ (g : List (List Literal)). build t.rows t.params g v.updates v.bulk) guard-here
        ∙ ap (λ (u : List Update). build t.rows t.params t.guard u v.bulk) updates-here
        ∙ ap (build t.rows t.params t.guard t.updates) cases-here

  -- a goal for a disjunct of an unsafe item
  pub goal-is : (k : ℕ) (g : placed.Goal) (c : placed.Conjunction) (x : Problem) → slice_get p.goals k ≡ Some g → GoalDenotes all (goal_of g, conjunction_of c) x → Fits shape x → goal_value p g c ≡ x
  goal-is k g c x at h fits =
      let scope : List Text → denoted.Scope = λ rows. make rows x.rows [] in
      let clear : IsClear (scope (declared_texts g.rows)) =
      subst (λ (ts : List Text). IsClear (scope ts)) (rows_are g.rows) (goal-clear (file_of p) denotes.new_names k (goal_of g) (map-at goal_of p.goals k g at) x.rows) in
      let literals : conjunction_value (goal_names p g) c ≡ x.literals =
      conjunction-is p shape denotes g.rows [] x.rows [] clear (one_by_one-map (RowDenotes all) row_of g.rows x.rows h.rows) tt c x.literals
      (subst (λ (ts : List Text). ConjunctionDenotes (scope ts) (conjunction_of c) x.literals) (rows_are g.rows) h.literals)
      (subst (λ (q : List SortId). All (LiteralFits shape x.rows q) x.literals) h.no_params fits.literals) in
      let build : List RelId → List SortId → List Literal → Problem = λ r q ls. record { rows = r; params = q; literals = ls } in
      ap (λ (r : List RelId). build r [] (conjunction_value (goal_names p g) c)) (rows-are g.rows x.rows h.rows)
      ∙ ap (λ (q : List SortId). build x.rows q (conjunction_value (goal_names p g) c)) (sym h.no_params)
      ∙ ap (build x.rows x.params) literals
