-- A step or an unsafe item denotes one that fits at most.
use Rattle.std.proofs.Common.{◌≡◌, ℕ, List, [], ◌∷◌, ◌++◌, Bool, length, sym, ◌∙◌, ap, subst, ⊎_elim, inl, inr}
use Rattle.std.specs.Prelude.{slice_get, Some, None, Option, All, ◌⊎◌}
use Rattle.ras_logic.specs.declared.ids.SortId.{SortId}
use Rattle.ras_logic.specs.declared.ids.RelId.{RelId}
use Rattle.ras_logic.specs.declared.term.Base.TheVariants as base
use Rattle.ras_logic.specs.declared.term.Term.{Term}
use Rattle.ras_logic.specs.declared.literal.Literal.{Literal}
use Rattle.ras_logic.specs.declared.literal.Literal.TheVariants.{Equal}
use Rattle.ras_logic.specs.declared.problem.Problem.{Problem}
use Rattle.ras_logic.specs.Shapes.{ShapeParts}
use Rattle.ras_logic.specs.Terms.{base_term}
use Rattle.ras_logic.specs.Formulas.{LiteralFits, Fits}
use Rattle.ras_system.specs.declared.update.Target.{Target}
use Rattle.ras_system.specs.declared.update.Target.TheVariants.{Var, Cell}
use Rattle.ras_system.specs.declared.update.Update.{Update}
use Rattle.ras_system.specs.declared.bulk.Assign.{Assign}
use Rattle.ras_system.specs.declared.bulk.Bulk.{Bulk}
use Rattle.ras_system.specs.declared.transition.Transition.{Transition}
use Rattle.ras_system.specs.Systems.{target_term, UpdateFits, assign_literal, BulkFits, IsTransition}
use Rattle.ras_syntax.specs.Grammar as grammar
use Rattle.ras_syntax.specs.Grammar.{Text}
use Rattle.ras_names.specs.declared.names.Names.{Names}
use Rattle.ras_names.specs.Lists.{OneByOne}
use Rattle.ras_names.specs.FileParts.{disjuncts, literals, cases, step_cases}
use Rattle.ras_names.specs.FileNames.{names_of_rows}
use Rattle.ras_names.specs.NewNames.{relation_names}
use Rattle.ras_names.specs.Terms.{Scope, IsUndef, LiteralDenotes, ConjunctionDenotes}
use Rattle.ras_names.specs.Steps.{TargetDenotes, UpdateDenotes, AssignmentDenotes, RowDenotes, ParamDenotes, step_scope, each_scope, goal_scope, CaseDenotes, StepDenotes, GoalDenotes}
use Rattle.ras_names.proofs.Numbered.{AreNumbered}
use Rattle.ras_names.proofs.Together.{one_by_one-unique, one_by_one-all, pair_from}
use Rattle.ras_names.proofs.OneTerm.{IsClear, cell-unique, term-unique, sort-unique}

pub is_undef_or_not : (t : grammar.Term) → IsUndef t ⊎ (IsUndef t → ⊥)
is_undef_or_not (grammar.call name t) = inr (λ h. h)
is_undef_or_not (grammar.cell row column) = inr (λ h. h)
is_undef_or_not (grammar.plain name) = inr (λ h. h)
is_undef_or_not grammar.undef = inl tt

module _ (scope : Scope) (clear : IsClear scope) (shape : ShapeParts) (params : List SortId) where
  abbrev Good : grammar.Literal → Literal → Type 0
  Good l x = LiteralDenotes scope l x × LiteralFits shape scope.relations params x

  literal-unique : (l : grammar.Literal) (x y : Literal) → Good l x → Good l y → x ≡ y
  literal-unique l (Equal a b p) (Equal c d q) h k =
      let s : SortId = h.1.0 in
      let r : SortId = k.1.0 in
      let left : (IsUndef l.left → s ≡ r) → a ≡ c = term-unique scope clear shape params l.left a c s r h.0.0 k.0.0 h.1.1 k.1.1 in
      let right : (IsUndef l.right → s ≡ r) → b ≡ d = term-unique scope clear shape params l.right b d s r h.0.1 k.0.1 h.1.2 k.1.2 in
      let sides : (a ≡ c) × (b ≡ d) =
      ⊎_elim (λ undef. let e : b ≡ d = right (λ other. absurd (h.0.3 (undef, other))) in (left (λ u. sort-unique scope clear shape params b d s r e h.1.2 k.1.2), e))
      (λ not_undef. let e : a ≡ c = left (λ u. absurd (not_undef u)) in (e, right (λ u. sort-unique scope clear shape params a c s r e h.1.1 k.1.1)))
      (is_undef_or_not l.left) in
      ap (λ (t : Term). Equal t b p) sides.0 ∙ ap (λ (t : Term). Equal c t p) sides.1 ∙ ap (λ (z : Bool). Equal c d z) (h.0.2 ∙ sym k.0.2)

  pub conjunction-unique : (c : grammar.Conjunction) (xs ys : List Literal) → ConjunctionDenotes scope c xs → ConjunctionDenotes scope c ys
      → All (LiteralFits shape scope.relations params) xs → All (LiteralFits shape scope.relations params) ys → xs ≡ ys
  conjunction-unique c xs ys h k i j =
      let fits = LiteralFits shape scope.relations params in
      one_by_one-unique Good Good (literals c) xs ys (λ n l e x y. literal-unique l x y)
      (one_by_one-all (LiteralDenotes scope) fits (literals c) xs h i) (one_by_one-all (LiteralDenotes scope) fits (literals c) ys k j)

  pub target-unique : (name : Text) (column : Option Text) (t u : Target) → TargetDenotes scope name column t → TargetDenotes scope name column u → t ≡ u
  target-unique name None (Var v) (Var w) h k = ap (λ (n : ℕ). Var (record { n = n })) (clear.vars name v.n w.n h k)
  target-unique name None (Var v) (Cell m n) h k = absurd k
  target-unique name None (Cell m n) u h k = absurd h
  target-unique name (Some column) (Var v) u h k = absurd h
  target-unique name (Some column) (Cell m n) (Var w) h k = absurd k
  target-unique name (Some column) (Cell m n) (Cell i j) h k =
      let same = cell-unique scope clear name column m n i j h k in ap (λ (r : ℕ). Cell r n) same.row ∙ ap (λ (c : ℕ). Cell i c) same.column

  abbrev GoodUpdate : grammar.Update → Update → Type 0
  GoodUpdate u x = UpdateDenotes scope u x × UpdateFits shape scope.relations params x

  pub update-unique : (u : grammar.Update) (x y : Update) → GoodUpdate u x → GoodUpdate u y → x ≡ y
  update-unique u x y h k =
      let target : x.target ≡ y.target = target-unique u.name u.column x.target y.target h.0.0 k.0.0 in
      let sort : h.1.0 ≡ k.1.0 = sort-unique scope clear shape params (target_term x.target) (target_term y.target) h.1.0 k.1.0 (ap target_term target) h.1.1 k.1.1 in
      let term : x.term ≡ y.term = term-unique scope clear shape params u.term x.term y.term h.1.0 k.1.0 h.0.1 k.0.1 h.1.2 k.1.2 (λ undef. sort) in
      let make : Target → Term → Update = λ a t. record { target = a; term = t } in
      ap (λ (a : Target). make a x.term) target ∙ ap (make y.target) term

  abbrev GoodAssign : ℕ → grammar.Assignment → Assign → Type 0
  GoodAssign row a x = AssignmentDenotes scope row a x × LiteralFits shape scope.relations params (assign_literal row x)

  pub assign-unique : (row : ℕ) (a : grammar.Assignment) (x y : Assign) → GoodAssign row a x → GoodAssign row a y → x ≡ y
  assign-unique row a x y h k =
      let column : x.column ≡ y.column = (cell-unique scope clear a.row a.column row x.column row y.column h.0.0 k.0.0).column in
      let sort : h.1.0 ≡ k.1.0 =
      sort-unique scope clear shape params (base_term (base.Cell row x.column)) (base_term (base.Cell row y.column)) h.1.0 k.1.0 (ap (λ (n : ℕ). base_term (base.Cell row n)) column) h.1.1 k.1.1 in
      let term : x.term ≡ y.term = term-unique scope clear shape params a.term x.term y.term h.1.0 k.1.0 h.0.1 k.0.1 h.1.2 k.1.2 (λ undef. sort) in
      let make : ℕ → Term → Assign = λ n t. record { column = n; term = t } in
      ap (λ (n : ℕ). make n x.term) column ∙ ap (make y.column) term

module _ (names : Names) (shape : ShapeParts) (relations_numbered : AreNumbered (relation_names names)) (sorts_numbered : AreNumbered names.sorts) where
  pub rows-unique : (rows : List grammar.Row) (xs ys : List RelId) → OneByOne (RowDenotes names) rows xs → OneByOne (RowDenotes names) rows ys → xs ≡ ys
  rows-unique rows xs ys = one_by_one-unique (RowDenotes names) (RowDenotes names) rows xs ys
      (λ k r e x y a b. ap (λ (n : ℕ). record { n = n }) (relations_numbered r.relation x.n y.n a b))

  params-unique : (params : List grammar.Param) (xs ys : List SortId) → OneByOne (ParamDenotes names) params xs → OneByOne (ParamDenotes names) params ys → xs ≡ ys
  params-unique params xs ys = one_by_one-unique (ParamDenotes names) (ParamDenotes names) params xs ys
      (λ k p e x y a b. ap (λ (n : ℕ). record { n = n }) (sorts_numbered p.sort x.n y.n a b))

  abbrev GoodCase : grammar.Step → Transition → grammar.Each × grammar.Case → Bulk → Type 0
  GoodCase s t p b = CaseDenotes names s t p b × BulkFits shape t b

  -- two cases of one relation
  case-same : (s : grammar.Step) (t : Transition) (p : grammar.Each × grammar.Case) (b c : Bulk) → IsClear (each_scope names s p.0 t b) → c.relation ≡ b.relation
      → GoodCase s t p b → GoodCase s t p (record c { relation = b.relation }) → b ≡ c
  case-same s t p b c clear relation h k =
      let scope : Scope = each_scope names s p.0 t b in
      let condition : b.condition ≡ c.condition =
      conjunction-unique scope clear shape t.params p.1.condition b.condition c.condition h.0.condition k.0.condition h.1.condition k.1.condition in
      let fits : Assign → Type 0 = λ x. LiteralFits shape scope.relations t.params (assign_literal (length t.rows) x) in
      let denotes : grammar.Assignment → Assign → Type 0 = AssignmentDenotes scope (length t.rows) in
      let good : grammar.Assignment → Assign → Type 0 = λ a x. denotes a x × fits x in
      let assigns : b.assigns ≡ c.assigns =
      one_by_one-unique good good p.1.assignments b.assigns c.assigns (λ n a e x y. assign-unique scope clear shape t.params (length t.rows) a x y)
      (one_by_one-all denotes fits p.1.assignments b.assigns h.0.assigns h.1.assigns) (one_by_one-all denotes fits p.1.assignments c.assigns k.0.assigns k.1.assigns) in
      let make : RelId → List Literal → List Assign → Bulk = λ r l a. record { relation = r; condition = l; assigns = a } in
      ap (λ (r : RelId). make r b.condition b.assigns) (sym relation) ∙ ap (λ (l : List Literal). make c.relation l b.assigns) condition ∙ ap (make c.relation c.condition) assigns

  case-unique : (s : grammar.Step) (t : Transition) (p : grammar.Each × grammar.Case) (b c : Bulk) → IsClear (each_scope names s p.0 t b)
      → GoodCase s t p b → GoodCase s t p c → b ≡ c
  case-unique s t p b c clear h k =
      let relation : c.relation ≡ b.relation = ap (λ (n : ℕ). record { n = n }) (relations_numbered p.0.relation c.relation.n b.relation.n k.0.relation h.0.relation) in
      let same : c ≡ record c { relation = b.relation } = ap (λ (r : RelId). record c { relation = r }) relation in
      case-same s t p b c clear relation h (subst (GoodCase s t p) same k)

  module _ (s : grammar.Step) (t : Transition) (clear : IsClear (step_scope names s t)) (each_numbered : (j : ℕ) (e : grammar.Each) → slice_get s.eachs j ≡ Some e → AreNumbered (names_of_rows s.rows ++ e.row ∷ [])) where
    pub each_clear : (j : ℕ) (e : grammar.Each) → slice_get s.eachs j ≡ Some e → (b : Bulk) → IsClear (each_scope names s e t b)
    each_clear j e at b = record {
      functions = clear.functions;
      constants = clear.constants;
      vars = clear.vars;
      params = clear.params;
      rows = each_numbered j e at;
      constants_vars = clear.constants_vars;
      constants_params = clear.constants_params;
      vars_params = clear.vars_params;
      columns = clear.columns;
    }

    -- two steps with the same parameters
    step-same : (u : Transition) → u ≡ record u { rows = t.rows; params = t.params } → StepDenotes names s t → StepDenotes names s (record u { rows = t.rows; params = t.params })
        → IsTransition shape t → IsTransition shape (record u { rows = t.rows; params = t.params }) → t ≡ u
    step-same u same h k i j =
        let scope : Scope = step_scope names s t in
        let fits : Literal → Type 0 = LiteralFits shape t.rows t.params in
        let good : grammar.Conjunction → List Literal → Type 0 = λ c ls. ConjunctionDenotes scope c ls × All fits ls in
        let guard : t.guard ≡ u.guard =
        one_by_one-unique good good (disjuncts s.guard) t.guard u.guard (λ n c e x y a b. conjunction-unique scope clear shape t.params c x y a.0 b.0 a.1 b.1)
        (one_by_one-all (ConjunctionDenotes scope) (All fits) (disjuncts s.guard) t.guard h.guard i.guard)
        (one_by_one-all (ConjunctionDenotes scope) (All fits) (disjuncts s.guard) u.guard k.guard j.guard) in
        let update_fits : Update → Type 0 = UpdateFits shape t.rows t.params in
        let good_update : grammar.Update → Update → Type 0 = λ g x. UpdateDenotes scope g x × update_fits x in
        let updates : t.updates ≡ u.updates =
        one_by_one-unique good_update good_update s.updates t.updates u.updates (λ n g e x y. update-unique scope clear shape t.params g x y)
        (one_by_one-all (UpdateDenotes scope) update_fits s.updates t.updates h.updates i.updates)
        (one_by_one-all (UpdateDenotes scope) update_fits s.updates u.updates k.updates j.updates) in
        let v : Transition = record u { rows = t.rows; params = t.params } in
        let good_case : grammar.Each × grammar.Case → Bulk → Type 0 = λ p b. CaseDenotes names s t p b × BulkFits shape t b in
        let bulk : t.bulk ≡ u.bulk =
        one_by_one-unique good_case (λ p b. CaseDenotes names s v p b × BulkFits shape v b) (step_cases s) t.bulk u.bulk
        (λ n p e x y a b. let from = pair_from cases s.eachs n p e in
        case-unique s t p x y (each_clear from.0 p.0 from.1 x) a
        (record { relation = b.0.relation; condition = b.0.condition; assigns = b.0.assigns }, record { relation = b.1.relation; condition = b.1.condition; assigns = b.1.assigns; once = b.1.once }))
        (one_by_one-all (CaseDenotes names s t) (BulkFits shape t) (step_cases s) t.bulk h.bulk i.bulk)
        (one_by_one-all (CaseDenotes names s v) (BulkFits shape v) (step_cases s) u.bulk k.bulk j.bulk) in
        let make : List (List Literal) → List Update → List Bulk → Transition = λ g d b. record { rows = t.rows; params = t.params; guard = g; updates = d; bulk = b } in
        ap (λ (g : List (List Literal)). make g t.updates t.bulk) guard ∙ ap (λ (d : List Update). make u.guard d t.bulk) updates ∙ ap (make u.guard u.updates) bulk ∙ sym same

    pub step-unique : (u : Transition) → StepDenotes names s t → StepDenotes names s u → IsTransition shape t → IsTransition shape u → t ≡ u
    step-unique u h k i j =
        let rows : u.rows ≡ t.rows = rows-unique s.rows u.rows t.rows k.rows h.rows in
        let params : u.params ≡ t.params = params-unique s.params u.params t.params k.params h.params in
        let same : u ≡ record u { rows = t.rows; params = t.params } =
        ap (λ (r : List RelId). record u { rows = r }) rows ∙ ap (λ (p : List SortId). record u { rows = t.rows; params = p }) params in
        step-same u same h (subst (StepDenotes names s) same k) i (subst (IsTransition shape) same j)

  module _ (item : grammar.Goal × grammar.Conjunction) (p : Problem) (clear : IsClear (goal_scope names item.0 p)) where
    goal-same : (q : Problem) → q ≡ record q { rows = p.rows; params = p.params } → GoalDenotes names item p → GoalDenotes names item (record q { rows = p.rows; params = p.params })
        → Fits shape p → Fits shape (record q { rows = p.rows; params = p.params }) → p ≡ q
    goal-same q same h k i j =
        let both : p.literals ≡ q.literals = conjunction-unique (goal_scope names item.0 p) clear shape p.params item.1 p.literals q.literals h.literals k.literals i.literals j.literals in
        ap (λ (l : List Literal). record p { literals = l }) both ∙ sym same

    pub goal-unique : (q : Problem) → GoalDenotes names item p → GoalDenotes names item q → Fits shape p → Fits shape q → p ≡ q
    goal-unique q h k i j =
        let rows : q.rows ≡ p.rows = rows-unique item.0.rows q.rows p.rows k.rows h.rows in
        let params : q.params ≡ p.params = k.no_params ∙ sym h.no_params in
        let same : q ≡ record q { rows = p.rows; params = p.params } =
        ap (λ (r : List RelId). record q { rows = r }) rows ∙ ap (λ (z : List SortId). record q { rows = p.rows; params = z }) params in
        goal-same q same h (subst (GoalDenotes names item) same k) i (subst (Fits shape) same j)
