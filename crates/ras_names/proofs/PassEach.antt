-- Where a step denotes, no check of its inside fails.
use Rattle.std.proofs.Common.{◌≡◌, ℕ, ◌+◌, ◌<◌, ◌≤◌, false, List, [], ◌∷◌, ◌++◌, length, take, map, refl, sym, ◌∙◌, ap, subst, arith, append_assoc}
use Rattle.std.specs.Prelude.{option_and_then, ◌≢◌, Some, slice_get, not, All, AllPairs, Contains, nat_le}
use Rattle.std.proofs.lemmas.List.{map-append, length-map}
use Rattle.std.proofs.lemmas.Option.{slice_get_within}
use Rattle.ras_logic.specs.declared.ids.SortId.{SortId}
use Rattle.ras_logic.specs.declared.ids.RelId.{RelId}
use Rattle.ras_logic.specs.declared.term.Base.TheVariants as base
use Rattle.ras_logic.specs.Shapes.{ShapeParts, columns_of}
use Rattle.ras_logic.specs.Formulas.{LiteralFits}
use Rattle.ras_logic.proofs.TermSorts.{and_then_through}
use Rattle.ras_logic.proofs.ByPlace.{at_contains, map-at, map_from, one_value, take_at}
use Rattle.ras_system.specs.declared.bulk.Assign.{Assign}
use Rattle.ras_system.specs.declared.bulk.Bulk.{Bulk}
use Rattle.ras_system.specs.declared.transition.Transition.{Transition}
use Rattle.ras_system.specs.Systems.{SystemParts, bulk_rows, assign_literal, BulkFits, IsTransition}
use Rattle.ras_system.specs.SystemFaults.{HasTransitionLimits}
use Rattle.ras_syntax.specs.Grammar as grammar
use Rattle.ras_syntax.specs.Grammar.{Text}
use Rattle.ras_names.specs.declared.names.Names.{Names}
use Rattle.ras_names.specs.declared.spec_fault.SpecKind.TheVariants.{WrongSort, TooMany, RepeatedTarget}
use Rattle.ras_names.specs.Lists.{HasNumber, OneByOne}
use Rattle.ras_names.specs.FileParts as parts
use Rattle.ras_names.specs.FileNames.{names_of, names_of_rows, names_of_params}
use Rattle.ras_names.specs.NewNames.{relation_names, AreNew}
use Rattle.ras_names.specs.Terms as denoted
use Rattle.ras_names.specs.Terms.{IsCell, TermDenotes, ConjunctionDenotes}
use Rattle.ras_names.specs.Steps.{AssignmentDenotes, RowDenotes, ParamDenotes, UpdateDenotes, step_scope, each_scope, CaseDenotes, StepDenotes}
use Rattle.ras_names.specs.Files.{FileDenotes}
use Rattle.ras_names.specs.Placed as placed
use Rattle.ras_names.specs.Placed.{Name, Declared, cases, disjuncts}
use Rattle.ras_names.specs.Unplaced.{row_of, param_of, conjunction_of, update_of, assignment_of, case_of, each_of, step_of, file_of}
use Rattle.ras_names.specs.Checks.{Check, check, is_among, declared_texts, declared_of, new_check, used_check, for_each, for_each_from}
use Rattle.ras_names.specs.TermChecks.{Scope, agree, columns_named, term_sort, term_checks, conjunction_checks, guard_checks}
use Rattle.ras_names.specs.StepChecks.{relation_texts, row_checks, param_checks, update_checks, assignment_checks, case_checks, case_count, with_row, each_checks, inside_checks}
use Rattle.ras_names.proofs.Numbered.{in_right, AreNumbered, different-numbered, left-numbered}
use Rattle.ras_names.proofs.Together.{one_by_one-at, one_by_one-to, one_by_one-map, one_by_one-length, one_by_one-more, part_at}
use Rattle.ras_names.proofs.OneTerm.{IsClear, cell-unique}
use Rattle.ras_names.proofs.OneStep.{each_clear}
use Rattle.ras_names.proofs.ClearNames.{all-at, relations-numbered, sorts-numbered, step-clear, each-numbered}
use Rattle.ras_names.proofs.Passing.{Passes, pass_first, pass_one, pass_both, pass_each, pass_each_from, not-passes}
use Rattle.ras_names.proofs.Among.{among_at, not_among, below}
use Rattle.ras_names.proofs.PassTerms.{declared_by, bare-sort, some_not_none, names, IsSortText, is_sort_text, agree-good, column-good, IsGoodColumn, here, checked, RowsDenote, ParamsDenote, within-good, term-passes, conjunction-passes}
use Rattle.ras_names.proofs.PassSteps.{rows_are, params_are, apart_at, relation_known, rows-pass, params-pass, updates-pass, guard-passes}

-- the assignments of a case to the row behind the row parameters
module _ (p : placed.File) (system : SystemParts) (denotes : FileDenotes (file_of p) system (names_of (file_of p))) (rows params : List Declared) (relations : List RelId) (sorts : List SortId) (e : placed.Each) (r : RelId) where
  abbrev shape : ShapeParts
  shape = system.shape

  abbrev row : Declared
  row = record { name = e.row; of = e.relation }

  abbrev more : List Declared
  more = rows ++ row ∷ []

  abbrev behind : List RelId
  behind = relations ++ r ∷ []

  abbrev scope : denoted.Scope
  scope = here p system.shape (declared_by p system denotes) more params behind sorts

  abbrev seen : Scope
  seen = checked p system.shape (declared_by p system denotes) more params behind sorts

  module _ (clear : IsClear scope) (rows_denote : RowsDenote p system.shape (declared_by p system denotes) more params behind sorts) (params_denote : ParamsDenote p system.shape (declared_by p system denotes) more params behind sorts) (count : length rows ≡ length relations) (is_relation : HasNumber (relation_names (names p system.shape (declared_by p system denotes))) e.relation.text r.n) where
    -- the row behind the others is that of the `each`
    row_number : HasNumber (declared_texts more) e.row.text (length relations)
    row_number =
        map-at (λ (d : Declared). d.name.text) more (length relations) row
        (subst (λ (n : ℕ). slice_get more n ≡ Some row) (let q : length rows + 0 ≡ length relations = omega (arith, count) in q) (in_right rows (row ∷ []) 0 row refl))

    is_row : (name : Text) → HasNumber (declared_texts more) name (length relations) → e.row.text ≡ name
    is_row name h = one_value (declared_texts more) (length relations) e.row.text name row_number h

    behind_is : (q : RelId) → slice_get behind (length relations) ≡ Some q → r ≡ q
    behind_is q h =
        one_value behind (length relations) r q
        (subst (λ (n : ℕ). slice_get behind n ≡ Some r) (let z : length relations + 0 ≡ length relations = omega arith in z) (in_right relations (r ∷ []) 0 r refl)) h

    abbrev Together : placed.Assignment → Assign → Type 0
    Together a x = AssignmentDenotes scope (length relations) (assignment_of a) x

    assignment-passes : (assignments : List placed.Assignment) (xs : List Assign) (k : ℕ) (a : placed.Assignment) (x : Assign) → slice_get assignments k ≡ Some a → slice_get xs k ≡ Some x
        → OneByOne Together assignments xs → AllPairs (λ (y z : Assign). y.column ≢ z.column) xs → LiteralFits shape behind sorts (assign_literal (length relations) x)
        → Passes (assignment_checks seen e assignments k a)
    assignment-passes assignments xs k a x at x_at h once fits =
        let one : Together a x = one_by_one-at Together assignments xs k a x h at x_at in
        let s : SortId = fits.0 in
        let cell : IsCell scope a.row.text a.column.text (length relations) x.column = one.0 in
        let name : e.row.text ≡ a.row.text = is_row a.row.text cell.0 in
        let same : r ≡ cell.1.0 = behind_is cell.1.0 cell.1.1 in
        let sort = bare-sort shape behind sorts (base.Cell (length relations) x.column) s fits.1 in
        let t = and_then_through (λ (q : RelId). option_and_then (λ (c : List SortId). slice_get c x.column) (columns_of shape q)) (slice_get behind (length relations)) s sort in
        let q = and_then_through (λ (c : List SortId). slice_get c x.column) (columns_of shape t.mid) s t.second in
        let mid : t.mid ≡ cell.1.0 = one_value behind (length relations) t.mid cell.1.0 t.first cell.1.1 in
        let good : IsGoodColumn p system.shape (declared_by p system denotes) e.relation.text a.column.text s =
        column-good p system.shape (declared_by p system denotes) e.relation.text cell.1.0 a.column.text x.column q.mid s (subst (λ (z : RelId). HasNumber (relation_names (names p system.shape (declared_by p system denotes))) e.relation.text z.n) same is_relation) cell.1.2
        (subst (λ (z : RelId). columns_of shape z ≡ Some q.mid) mid q.first) q.second in
        let term = within-good p system.shape (declared_by p system denotes) more params behind sorts clear rows_denote params_denote a.term.functions a.term.base x.term s one.1 fits.2 in
        let fresh : is_among (map (λ (b : placed.Assignment). b.column.text) (take k assignments)) a.column.text ≡ false =
        not_among (map (λ (b : placed.Assignment). b.column.text) (take k assignments)) a.column.text (λ n i.
        let w = map_from (λ (b : placed.Assignment). b.column.text) (take k assignments) n a.column.text i in
        let w_at = take_at k assignments n w.0 w.1 in
        let y = one_by_one-to Together assignments xs n w.0 h w_at.0 in
        let w_row : w.0.row.text ≡ a.row.text = sym (is_row w.0.row.text y.2.0.0) ∙ name in
        let other : IsCell scope a.row.text a.column.text (length relations) y.0.column =
        subst (λ (c : Text). IsCell scope a.row.text c (length relations) y.0.column) w.2 (subst (λ (n : Text). IsCell scope n w.0.column.text (length relations) y.0.column) w_row y.2.0) in
        apart_at (λ (b z : Assign). b.column ≢ z.column) xs n k y.0 x once w_at.1 y.1 x_at
        (cell-unique scope clear a.row.text a.column.text (length relations) y.0.column (length relations) x.column other cell).column) in
        let first : Check = used_check (e.row.text ∷ []) a.row in
        let second : Check = used_check (declared_texts (columns_named p e.relation.text)) a.column in
        let third : Check = check a.row.at RepeatedTarget (is_among (map (λ (b : placed.Assignment). b.column.text) (take k assignments)) a.column.text) in
        let last : Check = check a.at WrongSort (not (agree (declared_of (columns_named p e.relation.text) a.column.text) (term_sort seen a.term))) in
        let column_text : IsSortText p system.shape (declared_by p system denotes) (declared_of (columns_named p e.relation.text) a.column.text) s = is_sort_text p system.shape (declared_by p system denotes) (declared_of (columns_named p e.relation.text) a.column.text) good.text s good.of good.sort in
        pass_first first (second ∷ third ∷ (term_checks seen a.term ++ (last ∷ []))) (not-passes _ (among_at (e.row.text ∷ []) a.row.text 0 (ap (λ (n : Text). Some n) name)))
        (pass_first second (third ∷ (term_checks seen a.term ++ (last ∷ []))) (not-passes _ good.among)
        (pass_first third (term_checks seen a.term ++ (last ∷ [])) fresh
        (pass_both (term_checks seen a.term) (last ∷ []) (term-passes p system.shape (declared_by p system denotes) more params behind sorts clear rows_denote params_denote a.term x.term s one.1 fits.2)
        (pass_one last (not-passes _ (agree-good p system.shape (declared_by p system denotes) (declared_of (columns_named p e.relation.text) a.column.text) (term_sort seen a.term) s column_text term.sort (λ n m. some_not_none (declared_of (columns_named p e.relation.text) a.column.text) good.text good.of n)))))))

    -- the n-th case of a step
    pub case-passes : (n : ℕ) (c : placed.Case) (b : Bulk) → n < 8 → length b.condition ≤ 16 → ConjunctionDenotes scope (conjunction_of c.condition) b.condition
        → All (LiteralFits shape behind sorts) b.condition → OneByOne (AssignmentDenotes scope (length relations)) (map assignment_of c.assignments) b.assigns
        → AllPairs (λ (y z : Assign). y.column ≢ z.column) b.assigns → All (λ (x : Assign). LiteralFits shape behind sorts (assign_literal (length relations) x)) b.assigns
        → Passes (case_checks seen e n c)
    case-passes n c b lt le condition condition_fits assigns once assigns_fit =
        let h = one_by_one-map (AssignmentDenotes scope (length relations)) assignment_of c.assignments b.assigns assigns in
        pass_first (check c.at TooMany (nat_le 8 n)) (conjunction_checks seen 16 c.condition ++ for_each (assignment_checks seen e c.assignments) c.assignments) (below 8 n 8 lt (omega arith))
        (pass_both (conjunction_checks seen 16 c.condition) (for_each (assignment_checks seen e c.assignments) c.assignments)
        (conjunction-passes p system.shape (declared_by p system denotes) more params behind sorts clear rows_denote params_denote 16 c.condition b.condition le condition condition_fits)
        (pass_each (assignment_checks seen e c.assignments) c.assignments (λ k a at.
        let x = one_by_one-to Together c.assignments b.assigns k a h at in
        assignment-passes c.assignments b.assigns k a x.0 at x.1 h once (all-at (λ (y : Assign). LiteralFits shape behind sorts (assign_literal (length relations) y)) b.assigns k x.0 assigns_fit x.1))))

module _ (p : placed.File) (system : SystemParts) (denotes : FileDenotes (file_of p) system (names_of (file_of p))) (k : ℕ) (s : placed.Step) (at : slice_get p.steps k ≡ Some s) where
  abbrev all : Names
  all = names p system.shape (declared_by p system denotes)

  module _ (t : Transition) (d : StepDenotes all (step_of s) t) (fit : IsTransition system.shape t) (limits : HasTransitionLimits t) (above : List Text) (new : AreNew above (declared_texts s.rows ++ declared_texts s.params) (map (λ (e : placed.Each). e.row.text) s.eachs)) where
    abbrev inside : denoted.Scope
    inside = here p system.shape (declared_by p system denotes) s.rows s.params t.rows t.params

    abbrev make : List Text → List RelId → List Text → denoted.Scope
    make rows relations params = record { names = all; rows = rows; relations = relations; params = params }

    same : step_scope all (step_of s) t ≡ inside
    same = ap (λ (r : List Text). make r t.rows (names_of_params (map param_of s.params))) (rows_are s.rows) ∙ ap (make (declared_texts s.rows) t.rows) (params_are s.params)

    found : slice_get (file_of p).steps k ≡ Some (step_of s)
    found = map-at step_of p.steps k s at

    clear : IsClear (step_scope all (step_of s) t)
    clear = step-clear (file_of p) denotes.new_names k (step_of s) found t.rows

    here_clear : IsClear inside
    here_clear = subst IsClear same clear

    rows_denote : RowsDenote p system.shape (declared_by p system denotes) s.rows s.params t.rows t.params
    rows_denote = one_by_one-map (RowDenotes all) row_of s.rows t.rows d.rows

    params_denote : ParamsDenote p system.shape (declared_by p system denotes) s.rows s.params t.rows t.params
    params_denote = one_by_one-map (ParamDenotes all) param_of s.params t.params d.params

    count : length s.rows ≡ length t.rows
    count = one_by_one-length _ s.rows t.rows rows_denote

    module _ (j : ℕ) (e : placed.Each) (e_at : slice_get s.eachs j ≡ Some e) (n : ℕ) (c : placed.Case) (b : Bulk) (b_at : slice_get t.bulk n ≡ Some b) (one : CaseDenotes all (step_of s) t (each_of e, case_of c) b) where
      abbrev own_row : Declared
      own_row = record { name = e.row; of = e.relation }

      abbrev within : denoted.Scope
      within = here p system.shape (declared_by p system denotes) (s.rows ++ own_row ∷ []) s.params (bulk_rows t b) t.params

      same_within : each_scope all (step_of s) (each_of e) t b ≡ within
      same_within =
          let rows : names_of_rows (map row_of s.rows) ++ e.row.text ∷ [] ≡ declared_texts (s.rows ++ own_row ∷ []) =
          ap (λ (ts : List Text). ts ++ e.row.text ∷ []) (rows_are s.rows) ∙ sym (map-append (λ (x : Declared). x.name.text) s.rows (own_row ∷ [])) in
          ap (λ (r : List Text). make r (bulk_rows t b) (names_of_params (map param_of s.params))) rows ∙ ap (make (declared_texts (s.rows ++ own_row ∷ [])) (bulk_rows t b)) (params_are s.params)

      within_clear : IsClear within
      within_clear =
          subst IsClear same_within
          (each_clear all system.shape (relations-numbered all denotes.new_names) (sorts-numbered all denotes.new_names) (step_of s) t clear (each-numbered (file_of p) denotes.new_names k (step_of s) found) j (each_of e) (map-at each_of s.eachs j e e_at) b)

      fits : BulkFits system.shape t b
      fits = all-at (BulkFits system.shape t) t.bulk n b fit.bulk b_at

      the_case_passes : Passes (case_checks (with_row (checked p system.shape (declared_by p system denotes) s.rows s.params t.rows t.params) e) e n c)
      the_case_passes =
          case-passes p system denotes s.rows s.params t.rows t.params e b.relation within_clear
          (one_by_one-more (λ (r : Declared) (m : RelId). HasNumber (relation_names all) r.of.text m.n) s.rows t.rows own_row b.relation rows_denote one.relation) params_denote count one.relation n c b
          (let lt : n < length t.bulk = slice_get_within t.bulk n b b_at in omega (arith, lt, limits.bulk))
          (all-at (λ (x : Bulk). length x.condition ≤ 16) t.bulk n b limits.conditions b_at)
          (subst (λ (q : denoted.Scope). ConjunctionDenotes q (conjunction_of c.condition) b.condition) same_within one.condition) fits.condition
          (subst (λ (q : denoted.Scope). OneByOne (AssignmentDenotes q (length t.rows)) (map assignment_of c.assignments) b.assigns) same_within one.assigns) fits.once fits.assigns

    abbrev pairs_of : grammar.Each → List (grammar.Each × grammar.Case)
    pairs_of x = map (λ (y : grammar.Case). (x, y)) (parts.cases x)

    as_many : (e : placed.Each) → length (cases e) ≡ length (pairs_of (each_of e))
    as_many e =
        let pair : grammar.Case → grammar.Each × grammar.Case = λ c. (each_of e, c) in
        sym (length-map (map case_of (cases e)) pair ∙ length-map (cases e) case_of)

    -- the case of the transition for a case of an `each`
    record IsCase (j : ℕ) (e : placed.Each) (i : ℕ) (c : placed.Case) : Type 0 where
      bulk : Bulk
      bulk_at : slice_get t.bulk (case_count (take j s.eachs) + i) ≡ Some bulk
      denoted_by : CaseDenotes all (step_of s) t (each_of e, case_of c) bulk

    the_case : (j : ℕ) (e : placed.Each) (i : ℕ) (c : placed.Case) → slice_get s.eachs j ≡ Some e → slice_get (cases e) i ≡ Some c → IsCase j e i c
    the_case j e i c e_at c_at =
        let position : ℕ = case_count (take j s.eachs) + i in
        let pair : grammar.Case → grammar.Each × grammar.Case = λ y. (each_of e, y) in
        let listed : slice_get (parts.step_cases (step_of s)) position ≡ Some (each_of e, case_of c) =
        part_at cases pairs_of each_of as_many s.eachs j e i (each_of e, case_of c) e_at
        (map-at pair (map case_of (cases e)) i (case_of c) (map-at case_of (cases e) i c c_at)) in
        let b = one_by_one-to (CaseDenotes all (step_of s) t) (parts.step_cases (step_of s)) t.bulk position (each_of e, case_of c) d.bulk listed in
        record { bulk = b.0; bulk_at = b.1; denoted_by = b.2 }

    abbrev own : List Text
    own = above ++ (declared_texts s.rows ++ declared_texts s.params)

    abbrev seen_here : Scope
    seen_here = checked p system.shape (declared_by p system denotes) s.rows s.params t.rows t.params

    each-passes : (j : ℕ) (e : placed.Each) → slice_get s.eachs j ≡ Some e → Passes (each_checks seen_here own s.eachs j e)
    each-passes j e e_at =
        let absent : Contains own e.row.text → ⊥ = all-at (λ (name : Text). Contains own name → ⊥) (map (λ (x : placed.Each). x.row.text) s.eachs) j e.row.text new.each_rows (map-at (λ (x : placed.Each). x.row.text) s.eachs j e e_at) in
        let first = the_case j e 0 e.first e_at refl in
        let once : is_among (map (λ (x : placed.Each). x.relation.text) (take j s.eachs)) e.relation.text ≡ false =
        not_among (map (λ (x : placed.Each). x.relation.text) (take j s.eachs)) e.relation.text (λ n h.
        let w = map_from (λ (x : placed.Each). x.relation.text) (take j s.eachs) n e.relation.text h in
        let w_at = take_at j s.eachs n w.0 w.1 in
        apart_at (λ (x y : grammar.Each). x.relation ≢ y.relation) (map each_of s.eachs) n j (each_of w.0) (each_of e) d.one_each w_at.1 (map-at each_of s.eachs n w.0 w_at.0) (map-at each_of s.eachs j e e_at) w.2) in
        let a : Check = new_check own e.row in
        let b : Check = used_check (relation_texts p) e.relation in
        let c : Check = check e.relation.at RepeatedTarget (is_among (map (λ (x : placed.Each). x.relation.text) (take j s.eachs)) e.relation.text) in
        let rest : List Check = for_each_from (case_count (take j s.eachs)) (case_checks (with_row seen_here e) e) (cases e) in
        pass_first a (b ∷ c ∷ rest) (not_among own e.row.text (λ n h. absent (at_contains own n e.row.text h)))
        (pass_first b (c ∷ rest) (relation_known p system.shape (declared_by p system denotes) e.relation first.bulk.relation first.denoted_by.relation)
        (pass_first c rest once
        (pass_each_from (case_count (take j s.eachs)) (case_checks (with_row seen_here e) e) (cases e) (λ i x x_at.
        let one = the_case j e i x e_at x_at in the_case_passes j e e_at (case_count (take j s.eachs) + i) x one.bulk one.bulk_at one.denoted_by))))

    pub inside-passes : Passes (inside_checks p above s)
    inside-passes =
        let numbered : AreNumbered ((above ++ declared_texts s.rows) ++ declared_texts s.params) =
        subst AreNumbered (sym (append_assoc above (declared_texts s.rows) (declared_texts s.params))) (different-numbered (above ++ (declared_texts s.rows ++ declared_texts s.params)) new.own_names) in
        let rows : List Check = for_each (row_checks p above s.rows) s.rows in
        let params : List Check = for_each (param_checks p (above ++ declared_texts s.rows) s.params) s.params in
        let guard : List Check = guard_checks seen_here 0 s.guard in
        let updates : List Check = for_each (update_checks seen_here s.updates) s.updates in
        let eachs : List Check = for_each (each_checks seen_here own s.eachs) s.eachs in
        pass_both rows (params ++ (guard ++ (updates ++ eachs))) (rows-pass p system.shape (declared_by p system denotes) above s.rows t.rows (left-numbered (above ++ declared_texts s.rows) (declared_texts s.params) numbered) limits.rows rows_denote)
        (pass_both params (guard ++ (updates ++ eachs)) (params-pass p system.shape (declared_by p system denotes) (above ++ declared_texts s.rows) s.params t.params numbered limits.params params_denote)
        (pass_both guard (updates ++ eachs)
        (guard-passes p system.shape (declared_by p system denotes) s.rows s.params t.rows t.params here_clear rows_denote params_denote s.guard t.guard
        (subst (λ (q : denoted.Scope). OneByOne (ConjunctionDenotes q) (map conjunction_of (disjuncts s.guard)) t.guard) same d.guard) limits.guard limits.disjuncts fit.guard)
        (pass_both updates eachs
        (updates-pass p system.shape (declared_by p system denotes) s.rows s.params t.rows t.params here_clear rows_denote params_denote s.updates t.updates
        (subst (λ (q : denoted.Scope). OneByOne (UpdateDenotes q) (map update_of s.updates) t.updates) same d.updates) fit.once fit.updates)
        (pass_each (each_checks seen_here own s.eachs) s.eachs each-passes))))
