-- Where all checks of a file pass, its steps and its unsafe items denote.
use Rattle.std.proofs.Common.{◌≡◌, ℕ, ◌+◌, ◌<◌, ◌≤◌, false, List, [], ◌∷◌, ◌++◌, length, take, map, refl, sym, ◌∙◌, ap, subst, arith, ⊎_elim}
use Rattle.std.specs.Prelude.{◌≢◌, Option, Some, None, slice_get}
use Rattle.std.proofs.lemmas.Bool.{cases_lt}
use Rattle.std.proofs.lemmas.List.{map-append, length-map}
use Rattle.std.proofs.lemmas.Option.{slice_get_within}
use Rattle.ras_logic.specs.declared.ids.SortId.{SortId}
use Rattle.ras_logic.specs.declared.ids.RelId.{RelId}
use Rattle.ras_logic.specs.declared.term.Base.{Base}
use Rattle.ras_logic.specs.declared.term.Base.TheVariants as base
use Rattle.ras_logic.specs.declared.term.Term.{Term}
use Rattle.ras_logic.specs.declared.literal.Literal.{Literal}
use Rattle.ras_logic.specs.declared.literal.Literal.TheVariants.{Equal}
use Rattle.ras_logic.specs.declared.problem.Problem.{Problem}
use Rattle.ras_logic.specs.Schemas.{IsSort}
use Rattle.ras_logic.specs.Shapes.{ShapeParts, IsRelation}
use Rattle.ras_logic.specs.Formulas.{Fits, IsNoParam, HasNoParam, IsCube}
use Rattle.ras_logic.proofs.ByPlace.{at_take, map-at, map_from, no_true, one_value}
use Rattle.ras_system.specs.declared.bulk.Bulk.{Bulk}
use Rattle.ras_system.specs.declared.transition.Transition.{Transition}
use Rattle.ras_system.specs.Systems.{BulkFits, AreInGroups, IsTransition}
use Rattle.ras_system.specs.SystemFaults.{HasTransitionLimits, HasGoalLimits}
use Rattle.ras_syntax.specs.Grammar as grammar
use Rattle.ras_syntax.specs.Grammar.{Text}
use Rattle.ras_names.specs.declared.names.Names.{Names}
use Rattle.ras_names.specs.Lists.{HasNumber, OneByOne}
use Rattle.ras_names.specs.FileParts as parts
use Rattle.ras_names.specs.FileNames.{names_of_rows, names_of_params}
use Rattle.ras_names.specs.NewNames.{relation_names}
use Rattle.ras_names.specs.Terms as denoted
use Rattle.ras_names.specs.Terms.{TermDenotes, LiteralDenotes, ConjunctionDenotes, IsNamed}
use Rattle.ras_names.specs.Steps.{AssignmentDenotes, RowDenotes, ParamDenotes, UpdateDenotes, CaseDenotes, StepDenotes, GoalDenotes}
use Rattle.ras_names.specs.Files.{ColumnsDenote}
use Rattle.ras_names.specs.Placed as placed
use Rattle.ras_names.specs.Placed.{Name, Declared, cases, disjuncts}
use Rattle.ras_names.specs.Unplaced.{relation_of, row_of, param_of, conjunction_of, update_of, assignment_of, case_of, each_of, step_of, goal_of, file_of}
use Rattle.ras_names.specs.Checks.{for_each, texts, declared_texts, declared_checks, used_check}
use Rattle.ras_names.specs.TermChecks.{Scope, disjunct_checks, guard_checks}
use Rattle.ras_names.specs.StepChecks.{relation_texts, row_checks, param_checks, case_checks, case_count, with_row, each_checks}
use Rattle.ras_names.specs.FileChecks as checks
use Rattle.ras_names.specs.FileChecks.{goal_count, goal_checks}
use Rattle.ras_names.proofs.Together.{one_by_one-to, one_by_one-from, one_by_one-made, one_by_one-mapped, one_by_one-length, one_by_one-gives, one_by_one-weaker, one_by_one-more, part_from, parts_before}
use Rattle.ras_names.proofs.OneTerm.{IsClear}
use Rattle.ras_names.proofs.OneStep.{each_clear}
use Rattle.ras_names.proofs.ClearNames.{relations-numbered, sorts-numbered, step-clear, each-numbered, goal-clear}
use Rattle.ras_names.proofs.Passing.{Passes, passed_first, passed_both, passed_each, passed_each_from, passed-not}
use Rattle.ras_names.proofs.Among.{among_at, below}
use Rattle.ras_names.proofs.NameLists.{sorts_are, relations_are}
use Rattle.ras_names.proofs.PassTerms.{IsDeclared, names, here}
use Rattle.ras_names.proofs.PassSteps.{rows_are, params_are}
use Rattle.ras_names.proofs.MadeNames.{IsPassed, IsInside, inside, rows-counted, params-counted, goal-rows, IsEach, each-parts, above-numbered, within_limit}
use Rattle.ras_names.proofs.MadeTerms.{number_of, is_sort, made-disjunct}
use Rattle.ras_names.proofs.MadeSteps.{lower, all-apart, IsGuardMade, made-guard, AreUpdatesMade, made-updates, made-case}

-- a term of a place without data parameters names none
no_param : (scope : denoted.Scope) → scope.params ≡ [] → (t : grammar.Term) (u : Term) → TermDenotes scope t u → IsNoParam u.base
no_param scope none (grammar.call name inside) u h = subst (λ (t : Term). IsNoParam t.base) (sym h.4) (no_param scope none inside h.0 h.2)
no_param scope none (grammar.cell row column) u h = subst (λ (t : Term). IsNoParam t.base) (sym h.3) tt
no_param scope none (grammar.plain name) u h = subst (λ (t : Term). IsNoParam t.base) (sym h.2) (of_base h.0 h.1)
  where
    of_base : (b : Base) → IsNamed scope name b → IsNoParam b
    of_base (base.Var v) q = tt
    of_base (base.Constant c) q = tt
    of_base (base.Param n) q = let e : ◌≡◌ {A = Option Text} None (Some name) = subst (λ (ts : List Text). HasNumber ts name n) none q in absurd (cc)
    of_base (base.Cell m n) q = tt
    of_base (base.Undef s) q = tt
no_param scope none grammar.undef u h = subst (λ (t : Term). IsNoParam t.base) (sym h.1) tt

no_params : (scope : denoted.Scope) → scope.params ≡ [] → (l : grammar.Literal) (x : Literal) → LiteralDenotes scope l x → HasNoParam x
no_params scope none l (Equal left right same) h = (no_param scope none l.left left h.0, no_param scope none l.right right h.1)

module _ (p : placed.File) (shape : ShapeParts) (declared : IsDeclared (file_of p) shape) (sorts_are_all : shape.schema.sorts ≡ length p.sorts) (passed : IsPassed p) where
  abbrev all : Names
  all = names p shape declared

  -- a relation, or a sort, that is found by its name
  relation_made : (n : Name) → (used_check (relation_texts p) n).fails ≡ false → (r : RelId) × HasNumber (relation_names all) n.text r.n
  relation_made n pass =
      let k = number_of (relation_texts p) n.text (passed-not _ pass) in (record { n = k.0 }, subst (λ (ts : List Text). HasNumber ts n.text k.0) (sym (relations_are p)) k.1)

  sort_made : (n : Name) → (used_check (texts p.sorts) n).fails ≡ false → (s : SortId) × HasNumber all.sorts n.text s.n
  sort_made n pass =
      let k = number_of (texts p.sorts) n.text (passed-not _ pass) in (record { n = k.0 }, subst (λ (ts : List Text). HasNumber ts n.text k.0) (sym (sorts_are p)) k.1)

  is_relation : (name : Text) (r : RelId) → HasNumber (relation_names all) name r.n → IsRelation shape r
  is_relation name r h =
      let w = map_from (λ (q : placed.Relation). q.name.text) p.relations r.n name (subst (λ (ts : List Text). HasNumber ts name r.n) (relations_are p) h) in
      let sorts = one_by_one-to (ColumnsDenote all) (map relation_of p.relations) shape.relations r.n (relation_of w.0) declared.relations (map-at relation_of p.relations r.n w.0 w.1) in
      slice_get_within shape.relations r.n sorts.0 sorts.1

  abbrev RowIs : Declared → RelId → Type 0
  RowIs d n = HasNumber (relation_names all) d.of.text n.n

  abbrev ParamIs : Declared → SortId → Type 0
  ParamIs d s = HasNumber all.sorts d.of.text s.n

  rows_made : (above : List Text) (rows : List Declared) → Passes (for_each (row_checks p above rows) rows) → (relations : List RelId) × OneByOne RowIs rows relations
  rows_made above rows pass = one_by_one-made RowIs rows (λ k r at.
      let own = passed_both (declared_checks 8 k (above ++ declared_texts (take k rows)) r.name) (used_check (relation_texts p) r.of ∷ []) (passed_each (row_checks p above rows) rows pass k r at) in
      relation_made r.of (passed_first (used_check (relation_texts p) r.of) [] own.1).0)

  params_made : (above : List Text) (params : List Declared) → Passes (for_each (param_checks p above params) params) → (sorts : List SortId) × OneByOne ParamIs params sorts
  params_made above params pass = one_by_one-made ParamIs params (λ k q at.
      let own = passed_both (declared_checks 16 k (above ++ declared_texts (take k params)) q.name) (used_check (texts p.sorts) q.of ∷ []) (passed_each (param_checks p above params) params pass k q at) in
      sort_made q.of (passed_first (used_check (texts p.sorts) q.of) [] own.1).0)

  abbrev make : List Text → List RelId → List Text → denoted.Scope
  make rows relations params = record { names = all; rows = rows; relations = relations; params = params }

  module _ (k : ℕ) (s : placed.Step) (at : slice_get p.steps k ≡ Some s) (relations : List RelId) (rows_are_these : OneByOne RowIs s.rows relations) (sorts : List SortId) (params_are_these : OneByOne ParamIs s.params sorts) where
    abbrev above : List Text
    above = checks.above_step p (k + 1)

    own : IsInside p passed above s
    own = inside p passed k s at

    found : slice_get (file_of p).steps k ≡ Some (step_of s)
    found = map-at step_of p.steps k s at

    -- the scope of the step, by its texts and as the checks see it
    same : make (names_of_rows (map row_of s.rows)) relations (names_of_params (map param_of s.params)) ≡ here p shape declared s.rows s.params relations sorts
    same = ap (λ (r : List Text). make r relations (names_of_params (map param_of s.params))) (rows_are s.rows) ∙ ap (make (declared_texts s.rows) relations) (params_are s.params)

    clear : IsClear (make (names_of_rows (map row_of s.rows)) relations (names_of_params (map param_of s.params)))
    clear = step-clear (file_of p) declared.new_names k (step_of s) found relations

    here_clear : IsClear (here p shape declared s.rows s.params relations sorts)
    here_clear = subst IsClear same clear

    guard : IsGuardMade p shape declared sorts_are_all s.rows s.params relations sorts here_clear rows_are_these params_are_these s.guard
    guard = made-guard p shape declared sorts_are_all s.rows s.params relations sorts here_clear rows_are_these params_are_these s.guard own.guard

    updates : AreUpdatesMade p shape declared sorts_are_all s.rows s.params relations sorts here_clear rows_are_these params_are_these s.updates
    updates = made-updates p shape declared sorts_are_all s.rows s.params relations sorts here_clear rows_are_these params_are_these s.updates own.updates

    -- the step with these bulk cases
    abbrev with_bulk : List Bulk → Transition
    with_bulk bulk = record { rows = relations; params = sorts; guard = guard.made_of; updates = updates.made_of; bulk = bulk }

    count : length s.rows ≡ length relations
    count = one_by_one-length RowIs s.rows relations rows_are_these

    abbrev seen : Scope
    seen = record { file = p; rows = s.rows; params = s.params }

    abbrev shared : List Text
    shared = above ++ (declared_texts s.rows ++ declared_texts s.params)

    each_passed : (j : ℕ) (e : placed.Each) → slice_get s.eachs j ≡ Some e → IsEach p passed seen shared s.eachs j e
    each_passed j e e_at = each-parts p passed seen shared s.eachs j e (passed_each (each_checks seen shared s.eachs) s.eachs own.eachs j e e_at)

    abbrev pairs_of : grammar.Each → List (grammar.Each × grammar.Case)
    pairs_of x = map (λ (y : grammar.Case). (x, y)) (parts.cases x)

    as_many : (e : placed.Each) → length (cases e) ≡ length (pairs_of (each_of e))
    as_many e =
        let pair : grammar.Case → grammar.Each × grammar.Case = λ c. (each_of e, c) in
        sym (length-map (map case_of (cases e)) pair ∙ length-map (cases e) case_of)

    abbrev GoodCase : grammar.Each × grammar.Case → Bulk → Type 0
    GoodCase z b = CaseDenotes all (step_of s) (with_bulk []) z b × BulkFits shape (with_bulk []) b × (length b.condition ≤ 16)

    case_made : (n : ℕ) (z : grammar.Each × grammar.Case) → slice_get (parts.step_cases (step_of s)) n ≡ Some z → (n < 8) × ((b : Bulk) × GoodCase z b)
    case_made n z z_at =
        let part = part_from cases pairs_of each_of as_many s.eachs n z z_at in
        let e : placed.Each = part.element in
        let pair : grammar.Case → grammar.Each × grammar.Case = λ y. (each_of e, y) in
        let g = map_from pair (map case_of (cases e)) part.number z part.within in
        let c = map_from case_of (cases e) part.number g.0 g.1 in
        let is : (each_of e, case_of c.0) ≡ z = ap pair c.2 ∙ g.2 in
        let each = each_passed part.place e part.at in
        let passes : Passes (case_checks (with_row seen e) e n c.0) =
        subst (λ (m : ℕ). Passes (case_checks (with_row seen e) e m c.0)) (sym part.position) (passed_each_from (case_count (take part.place s.eachs)) (case_checks (with_row seen e) e) (cases e) each.cases part.number c.0 c.1) in
        let made = one_case part.place e part.at n c.0 passes (relation_made e.relation each.known) in
        (made.0, (made.1, subst (λ (q : grammar.Each × grammar.Case). GoodCase q made.1) is made.2))
      where
        one_case : (j : ℕ) (e : placed.Each) → slice_get s.eachs j ≡ Some e → (n : ℕ) (c : placed.Case) → Passes (case_checks (with_row seen e) e n c)
            → ((r : RelId) × HasNumber (relation_names all) e.relation.text r.n) → (n < 8) × (b : Bulk) × GoodCase (each_of e, case_of c) b
        one_case j e e_at n c pass relation =
            let r : RelId = relation.0 in
            let row : Declared = record { name = e.row; of = e.relation } in
            let behind : List RelId = relations ++ r ∷ [] in
            let within : denoted.Scope = here p shape declared (s.rows ++ row ∷ []) s.params behind sorts in
            let texts_are : names_of_rows (map row_of s.rows) ++ e.row.text ∷ [] ≡ declared_texts (s.rows ++ row ∷ []) =
            ap (λ (ts : List Text). ts ++ e.row.text ∷ []) (rows_are s.rows) ∙ sym (map-append (λ (x : Declared). x.name.text) s.rows (row ∷ [])) in
            let same_within : make (names_of_rows (map row_of s.rows) ++ e.row.text ∷ []) behind (names_of_params (map param_of s.params)) ≡ within =
            ap (λ (ts : List Text). make ts behind (names_of_params (map param_of s.params))) texts_are ∙ ap (make (declared_texts (s.rows ++ row ∷ [])) behind) (params_are s.params) in
            let only : Bulk = record { relation = r; condition = []; assigns = [] } in
            let clear_within : IsClear within =
            subst IsClear same_within
            (each_clear all shape (relations-numbered all declared.new_names) (sorts-numbered all declared.new_names) (step_of s) (with_bulk []) clear (each-numbered (file_of p) declared.new_names k (step_of s) found) j (each_of e) (map-at each_of s.eachs j e e_at) only) in
            let m = made-case p shape declared sorts_are_all s.rows s.params relations sorts e r clear_within (one_by_one-more RowIs s.rows relations row r rows_are_these relation.1) params_are_these count relation.1 n c pass in
            let b : Bulk = record { relation = r; condition = m.condition; assigns = m.assigns } in (
              m.low,
              b,
              (
                record {
                  relation = relation.1;
                  condition = subst (λ (q : denoted.Scope). ConjunctionDenotes q (conjunction_of c.condition) m.condition) (sym same_within) m.condition_denotes;
                  assigns = subst (λ (q : denoted.Scope). OneByOne (AssignmentDenotes q (length relations)) (map assignment_of c.assignments) m.assigns) (sym same_within) m.assigns_denote;
                },
                record { relation = is_relation e.relation.text r relation.1; condition = m.condition_fits; assigns = m.assigns_fit; once = m.once },
                m.condition_within,
              ),
            )

    bulk : (b : List Bulk) × OneByOne GoodCase (parts.step_cases (step_of s)) b
    bulk = one_by_one-made GoodCase (parts.step_cases (step_of s)) (λ n z z_at. (case_made n z z_at).1)

    abbrev the_step : Transition
    the_step = with_bulk bulk.0

    -- no two `each` have one relation
    one_each : (i j : ℕ) (x y : placed.Each) → i < j → slice_get s.eachs i ≡ Some x → slice_get s.eachs j ≡ Some y → x.relation.text ≡ y.relation.text → ⊥
    one_each i j x y lt x_at y_at e =
        let key : placed.Each → Text = λ d. d.relation.text in
        let taken : HasNumber (map key (take j s.eachs)) y.relation.text i = map-at key (take j s.eachs) i x (at_take j s.eachs i x lt x_at) ∙ ap (λ (t : Text). Some t) e in
        no_true _ (among_at (map key (take j s.eachs)) y.relation.text i taken) (each_passed j y y_at).once

    -- where a bulk case comes from
    record IsFrom (n : ℕ) (b : Bulk) : Type 0 where
      place : ℕ
      element : placed.Each
      at_place : slice_get s.eachs place ≡ Some element
      number : ℕ
      low : number < length (cases element)
      position : n ≡ case_count (take place s.eachs) + number
      relation : HasNumber (relation_names all) element.relation.text b.relation.n

    from : (n : ℕ) (b : Bulk) → slice_get bulk.0 n ≡ Some b → IsFrom n b
    from n b b_at =
        let z = one_by_one-from GoodCase (parts.step_cases (step_of s)) bulk.0 n b bulk.1 b_at in
        let part = part_from cases pairs_of each_of as_many s.eachs n z.0 z.1 in
        let e : placed.Each = part.element in
        let pair : grammar.Case → grammar.Each × grammar.Case = λ y. (each_of e, y) in
        let g = map_from pair (map case_of (cases e)) part.number z.0 part.within in
        let c = map_from case_of (cases e) part.number g.0 g.1 in
        let name : e.relation.text ≡ z.0.0.relation = ap (λ (q : grammar.Each × grammar.Case). q.0.relation) g.2 in record {
          place = part.place;
          element = e;
          at_place = part.at;
          number = part.number;
          low = slice_get_within (cases e) part.number c.0 c.1;
          position = part.position;
          relation = subst (λ (t : Text). HasNumber (relation_names all) t b.relation.n) (sym name) z.2.0.relation;
        }

    in_order : (m n : ℕ) (a b : Bulk) (x : IsFrom m a) (y : IsFrom n b) → m < n → x.place ≤ y.place
    in_order m n a b x y lt =
        ⊎_elim (λ less. let before = parts_before cases s.eachs y.place x.place y.element y.at_place less in absurd (omega (arith, lt, before, x.position, y.position, y.low)))
        (λ le. le) (cases_lt y.place x.place)

    in_groups : AreInGroups bulk.0
    in_groups i j l a b c lt more a_at b_at c_at e =
        let x = from i a a_at in
        let y = from j b b_at in
        let z = from l c c_at in
        let one = in_order i j a b x y lt in
        let two = in_order j l b c y z more in
        let name : x.element.relation.text ≡ z.element.relation.text =
        one_value (relation_names all) c.relation.n x.element.relation.text z.element.relation.text (subst (λ (r : RelId). HasNumber (relation_names all) x.element.relation.text r.n) e x.relation) z.relation in
        let ends : x.place ≡ z.place = ⊎_elim (λ less. absurd (one_each x.place z.place x.element z.element less x.at_place z.at_place name)) (λ ge. omega (arith, ge, one, two)) (cases_lt x.place z.place) in
        let middle : y.place ≡ x.place = omega (arith, ends, one, two) in
        let each : y.element ≡ x.element = one_value s.eachs x.place y.element x.element (subst (λ (n : ℕ). slice_get s.eachs n ≡ Some y.element) middle y.at_place) x.at_place in
        let number : b.relation.n ≡ a.relation.n =
        relations-numbered all declared.new_names x.element.relation.text b.relation.n a.relation.n (subst (λ (q : placed.Each). HasNumber (relation_names all) q.relation.text b.relation.n) each y.relation) x.relation in
        ap (λ (n : ℕ). record { n = n }) number

    pub record IsStepMade : Type 0 where
      pub transition : Transition
      pub denotes : StepDenotes all (step_of s) transition
      pub fits : IsTransition shape transition
      pub limits : HasTransitionLimits transition

    pub made-step : IsStepMade
    made-step =
        let rows = rows-counted p passed above s.rows (above-numbered p passed (k + 1)) own.rows in
        let params = params-counted p passed (above ++ declared_texts s.rows) s.params rows.numbered own.params in
        let denotes_cases : grammar.Each × grammar.Case → Bulk → Type 0 = CaseDenotes all (step_of s) the_step in
        let bulk_count : length (parts.step_cases (step_of s)) ≡ length bulk.0 = one_by_one-length GoodCase (parts.step_cases (step_of s)) bulk.0 bulk.1 in
        let bulk_within : length (parts.step_cases (step_of s)) ≤ 8 = within_limit 8 (parts.step_cases (step_of s)) (λ n z z_at. below 8 n 8 (case_made n z z_at).0 (omega arith)) in
        let params_count : length s.params ≡ length sorts = one_by_one-length ParamIs s.params sorts params_are_these in record {
          transition = the_step;
          denotes = record {
            rows = one_by_one-mapped (RowDenotes all) row_of s.rows relations rows_are_these;
            params = one_by_one-mapped (ParamDenotes all) param_of s.params sorts params_are_these;
            guard = subst (λ (q : denoted.Scope). OneByOne (ConjunctionDenotes q) (map conjunction_of (disjuncts s.guard)) guard.made_of) (sym same) guard.denotes;
            updates = subst (λ (q : denoted.Scope). OneByOne (UpdateDenotes q) (map update_of s.updates) updates.made_of) (sym same) updates.denotes;
            bulk = one_by_one-weaker GoodCase denotes_cases (parts.step_cases (step_of s)) bulk.0 bulk.1 (λ z b h. record { relation = h.0.relation; condition = h.0.condition; assigns = h.0.assigns });
            one_each = all-apart (λ (x y : grammar.Each). x.relation ≢ y.relation) (map each_of s.eachs) (λ i j x y lt x_at y_at e.
                let u = map_from each_of s.eachs i x x_at in
                let w = map_from each_of s.eachs j y y_at in
                one_each i j u.0 w.0 lt u.1 w.1 (ap (λ (d : grammar.Each). d.relation) u.2 ∙ e ∙ sym (ap (λ (d : grammar.Each). d.relation) w.2)));
          };
          fits = record {
            rows = one_by_one-gives RowIs (IsRelation shape) s.rows relations rows_are_these (λ n d r d_at h. is_relation d.of.text r h);
            params = one_by_one-gives ParamIs (IsSort shape.schema.sorts) s.params sorts params_are_these (λ n d a d_at h. is_sort p shape declared sorts_are_all d.of.text a h);
            some_disjunct = guard.some;
            guard = guard.fits;
            updates = updates.fits;
            once = updates.once;
            bulk = one_by_one-gives GoodCase (BulkFits shape the_step) (parts.step_cases (step_of s)) bulk.0 bulk.1 (λ n z b z_at h. record { relation = h.1.relation; condition = h.1.condition; assigns = h.1.assigns; once = h.1.once });
            in_groups = in_groups;
          };
          limits = record {
            rows = (let le : length s.rows ≤ 8 = rows.within in omega (arith, le, count));
            params = (let le : length s.params ≤ 16 = params.within in omega (arith, le, params_count));
            guard = guard.within;
            disjuncts = guard.wide;
            bulk = omega (arith, bulk_count, bulk_within);
            conditions = one_by_one-gives GoodCase (λ (b : Bulk). length b.condition ≤ 16) (parts.step_cases (step_of s)) bulk.0 bulk.1 (λ n z b z_at h. h.2);
          };
        }

  -- the n-th step
  pub record IsStep (s : placed.Step) : Type 0 where
    pub transition : Transition
    pub denotes : StepDenotes all (step_of s) transition
    pub fits : IsTransition shape transition
    pub limits : HasTransitionLimits transition

  pub step-made : (k : ℕ) (s : placed.Step) → slice_get p.steps k ≡ Some s → IsStep s
  step-made k s at =
      let own = inside p passed k s at in
      let relations = rows_made (checks.above_step p (k + 1)) s.rows own.rows in
      let sorts = params_made (checks.above_step p (k + 1) ++ declared_texts s.rows) s.params own.params in
      let m = made-step k s at relations.0 relations.1 sorts.0 sorts.1 in
      record { transition = m.transition; denotes = m.denotes; fits = m.fits; limits = m.limits }

  -- the disjuncts of all unsafe items
  abbrev goals_of : grammar.Goal → List (grammar.Goal × grammar.Conjunction)
  goals_of g = map (λ (c : grammar.Conjunction). (g, c)) (parts.disjuncts g.guard)

  as_many_goals : (g : placed.Goal) → length (disjuncts g.guard) ≡ length (goals_of (goal_of g))
  as_many_goals g =
      let pair : grammar.Conjunction → grammar.Goal × grammar.Conjunction = λ c. (goal_of g, c) in
      sym (length-map (map conjunction_of (disjuncts g.guard)) pair ∙ length-map (disjuncts g.guard) conjunction_of)

  pub record IsGoal (n : ℕ) (z : grammar.Goal × grammar.Conjunction) : Type 0 where
    pub low : n < 64
    pub problem : Problem
    pub denotes : GoalDenotes all z problem
    pub fits : Fits shape problem
    pub cube : IsCube problem
    pub limits : HasGoalLimits problem

  one_goal : (k : ℕ) (g : placed.Goal) → slice_get p.goals k ≡ Some g → (n : ℕ) (c : placed.Conjunction) → Passes (disjunct_checks (record { file = p; rows = g.rows; params = [] }) n c) → IsGoal n (goal_of g, conjunction_of c)
  one_goal k g at n c pass =
      let above : List Text = checks.above_step p (length p.steps) in
      let whole = passed_both (for_each (row_checks p above g.rows) g.rows) (guard_checks (record { file = p; rows = g.rows; params = [] }) (goal_count (take k p.goals)) g.guard) (passed_each (goal_checks p) p.goals passed.goals k g at) in
      let relations = rows_made above g.rows whole.0 in
      let scope : List Text → denoted.Scope = λ rows. make rows relations.0 [] in
      let clear : IsClear (scope (declared_texts g.rows)) =
      subst (λ (ts : List Text). IsClear (scope ts)) (rows_are g.rows) (goal-clear (file_of p) declared.new_names k (goal_of g) (map-at goal_of p.goals k g at) relations.0) in
      let m = made-disjunct p shape declared sorts_are_all g.rows [] relations.0 [] clear relations.1 tt n c pass in
      let literals : List Literal = m.1.made_of in
      let denotes : ConjunctionDenotes (scope (names_of_rows (map row_of g.rows))) (conjunction_of c) literals =
      subst (λ (ts : List Text). ConjunctionDenotes (scope ts) (conjunction_of c) literals) (sym (rows_are g.rows)) m.1.denotes in
      let count : length g.rows ≡ length relations.0 = one_by_one-length RowIs g.rows relations.0 relations.1 in
      let le : length g.rows ≤ 8 = (goal-rows p passed k g at).within in record {
        low = lower 64 n m.0;
        problem = record { rows = relations.0; params = []; literals = literals };
        denotes = record { rows = one_by_one-mapped (RowDenotes all) row_of g.rows relations.0 relations.1; no_params = refl; literals = denotes };
        fits = record {
          rows = one_by_one-gives RowIs (IsRelation shape) g.rows relations.0 relations.1 (λ i d r d_at h. is_relation d.of.text r h);
          params = λ i d lt. absurd (omega (arith, lt));
          literals = m.1.fits;
        };
        cube = record {
          none = refl;
          unnamed = one_by_one-gives (LiteralDenotes (scope (names_of_rows (map row_of g.rows)))) HasNoParam (parts.literals (conjunction_of c)) literals denotes
              (λ i l x l_at h. no_params (scope (names_of_rows (map row_of g.rows))) refl l x h);
        };
        limits = record { rows = omega (arith, count, le); literals = m.1.within };
      }

  pub goal-made : (n : ℕ) (z : grammar.Goal × grammar.Conjunction) → slice_get (parts.file_goals (file_of p)) n ≡ Some z → IsGoal n z
  goal-made n z z_at =
      let part = part_from (λ (x : placed.Goal). disjuncts x.guard) goals_of goal_of as_many_goals p.goals n z z_at in
      let g : placed.Goal = part.element in
      let pair : grammar.Conjunction → grammar.Goal × grammar.Conjunction = λ y. (goal_of g, y) in
      let q = map_from pair (map conjunction_of (disjuncts g.guard)) part.number z part.within in
      let c = map_from conjunction_of (disjuncts g.guard) part.number q.0 q.1 in
      let is : (goal_of g, conjunction_of c.0) ≡ z = ap pair c.2 ∙ q.2 in
      let scope : Scope = record { file = p; rows = g.rows; params = [] } in
      let above : List Text = checks.above_step p (length p.steps) in
      let whole = passed_both (for_each (row_checks p above g.rows) g.rows) (guard_checks scope (goal_count (take part.place p.goals)) g.guard) (passed_each (goal_checks p) p.goals passed.goals part.place g part.at) in
      let pass : Passes (disjunct_checks scope n c.0) =
      subst (λ (m : ℕ). Passes (disjunct_checks scope m c.0)) (sym part.position) (passed_each_from (goal_count (take part.place p.goals)) (disjunct_checks scope) (disjuncts g.guard) whole.1 part.number c.0 c.1) in
      subst (IsGoal n) is (one_goal part.place g part.at n c.0 pass)
