-- Numbers in which nothing is wrong denote a plain system.
use Rattle.std.proofs.Common.{◌≡◌, ℕ, zero, suc, ◌<◌, ◌≤◌, Bool, true, false, ◌&&◌, List, [], ◌∷◌, length, map, take, nat_eq, nat_lt, sym, ap, ◌∙◌, subst, refl, arith, eq-eqb, append-nil}
use Rattle.std.specs.Prelude.{Option, Some, None, Ok, All, slice_get, flat_map}
use Rattle.std.specs.List.{list_any, list_all, AllByRecursion}
use Rattle.std.proofs.lemmas.Bool.{ltb-false, ltb-true, and_parts, and_from, not-false, eqb-true, eqb-false}
use Rattle.std.proofs.lemmas.List.{length-map, nil_from_length}
use Rattle.std.proofs.lemmas.List.Elements.{All-nil, All-map}
use Rattle.std.proofs.lemmas.Option.{same_Some}
use Rattle.ras_logic.specs.declared.ids.SortId.{SortId}
use Rattle.ras_logic.specs.declared.ids.ConstId.{ConstId}
use Rattle.ras_logic.specs.declared.ids.RelId.{RelId}
use Rattle.ras_logic.specs.declared.literal.Literal.{Literal}
use Rattle.ras_logic.specs.declared.literal.Literal.TheVariants.{Equal}
use Rattle.ras_logic.specs.declared.term.Base.{Base}
use Rattle.ras_logic.specs.declared.term.Base.TheVariants as base
use Rattle.ras_logic.specs.declared.problem.Problem.{Problem}
use Rattle.ras_logic.specs.Schemas.{IsSort, HasSorts}
use Rattle.ras_logic.specs.SchemaFaults.{HasSchemaLimits}
use Rattle.ras_logic.specs.Shapes.{ShapeParts, IsShape, IsRelation}
use Rattle.ras_logic.specs.ShapeFaults.{HasShapeLimits}
use Rattle.ras_logic.specs.Formulas.{LiteralFits, Fits, IsCube, IsNoParam, HasNoParam}
use Rattle.ras_logic.proofs.Clashes.{from_known}
use Rattle.ras_system.specs.declared.update.Target.{Target}
use Rattle.ras_system.specs.declared.update.Target.TheVariants.{Var, Cell}
use Rattle.ras_system.specs.declared.update.Update.{Update}
use Rattle.ras_system.specs.declared.bulk.Bulk.{Bulk}
use Rattle.ras_system.specs.Systems.{IsTransition, BulkFits, UpdateFits, update_literal}
use Rattle.ras_system.specs.SystemFaults.{HasTransitionLimits, HasGoalLimits, is_same_target}
use Rattle.ras_system.specs.Plain.{IsPlainTransition}
use Rattle.ras_system.specs.Known.{is_known_literal, is_well_sorted}
use Rattle.ras_system.proofs.Passing.{all_from_test, pairs_from_fresh}
use Rattle.ras_system.proofs.KnownTerms.{one_sort-true, sorted-fits, sorted-all_fit}
use Rattle.ras_lines.specs.Words.{IsSmallBase, IsSmallLiteral, IsSmallCube}
use Rattle.ras_bundles.specs.declared.system_lines.FunctionLine.{FunctionLine}
use Rattle.ras_bundles.specs.declared.system_lines.VariableLine.{VariableLine}
use Rattle.ras_bundles.specs.declared.system_lines.UpdateLine.{UpdateLine}
use Rattle.ras_bundles.specs.declared.system_lines.TransitionLines.{TransitionLines}
use Rattle.ras_bundles.specs.declared.system_lines.SystemLines.{SystemLines}
use Rattle.ras_bundles.specs.SystemTexts.{IsWrittenTransition, IsWrittenSystem}
use Rattle.ras_bundles.specs.Numbers.{function_named, sort_named, constant_named, variable_sort, variable_initial, literals_of, update_named, transition_named, schema_named, shape_named, system_named, numbers_of}
use Rattle.ras_bundles.specs.Bundles.{IsPlainSystem}
use Rattle.ras_bundles.specs.Checks.{Check, first_of, count_checks, function_checks, constant_checks, is_known_initial, is_sorted_initial, variable_checks, cube_checks, guard_checks, update_checks, each, transition_checks, shape_checks, step_checks, line_checks, first_from, first_fault}
use Rattle.ras_bundles.specs.Judging.{Judges, HasSmallSorts}
use Rattle.std.proofs.lemmas.List.{take-map}
use Rattle.ras_logic.proofs.ByPlace.{map_from, all-from, one_value, no_true, not_true}
use Rattle.ras_bundles.proofs.LineLaws.{AllPass, none_fails, passes_both, each_passes, lists_pass, checks_pass}
use Rattle.ras_bundles.proofs.Walks.{acyclic}
use Rattle.ras_bundles.proofs.NamedLaws.{IsBare, HasBareGuard, numbers_back}

pub few : (limit n : ℕ) → first_of (count_checks limit n) ≡ None → n ≤ limit
few limit n h = ltb-false limit n (checks_pass (count_checks limit n) h).0

module _ (l : SystemLines) where
  -- From the sorts to the variables.

  function_sorts : (k : ℕ) (f : FunctionLine) → first_of (function_checks l k f) ≡ None → HasSorts l.sorts (function_named f)
  function_sorts k f h =
      let e = checks_pass (function_checks l k f) h in
      let p = and_parts (nat_lt f.source l.sorts) (nat_lt f.target l.sorts) (not-false (nat_lt f.source l.sorts && nat_lt f.target l.sorts) e.0) in
      (ltb-true f.source l.sorts p.0, ltb-true f.target l.sorts p.1)

  variable_known : (v : VariableLine) → first_of (variable_checks l v) ≡ None → v.sort < l.sorts
  variable_known v h =
      let e = checks_pass (variable_checks l v) h in
      ltb-true v.sort l.sorts (and_parts (nat_lt v.sort l.sorts) (is_known_initial l v.initial) (not-false (nat_lt v.sort l.sorts && is_known_initial l v.initial) e.0)).0

  initial_sorted : (sort : ℕ) (i : Option ℕ) (c : ConstId) → is_sorted_initial l sort i ≡ true → constant_named i ≡ Some c → slice_get (map sort_named l.constants.sorts) c.n ≡ Some (sort_named sort)
  initial_sorted sort None c h e = absurd cc
  initial_sorted sort (Some m) c h e =
      let o = one_sort-true (Some (sort_named sort)) (slice_get (map sort_named l.constants.sorts) m) h in
      let same : m ≡ c.n = ap (λ (x : ConstId). x.n) (same_Some (record { n = m }) c e) in
      subst (λ (n : ℕ). slice_get (map sort_named l.constants.sorts) n ≡ Some (sort_named sort)) same (o.2 ∙ sym o.1)

  -- what the checks of the lines from the sorts to the variables show
  pub record GoodShape : Type 0 where
    pub schema_limits : HasSchemaLimits (schema_named l)
    pub limits : HasShapeLimits (shape_named l)
    pub shape : IsShape (shape_named l)
    pub initial : (k : ℕ) (c : ConstId) (s : SortId) → slice_get (map variable_initial l.variables) k ≡ Some (Some c) → slice_get (map variable_sort l.variables) k ≡ Some s
        → slice_get (map sort_named l.constants.sorts) c.n ≡ Some s

  pub good_shape : AllPass (shape_checks l) → GoodShape
  good_shape h =
      let functions = passes_both (count_checks 256 (length l.functions) ∷ each (function_checks l) l.functions)
      (constant_checks l ∷ (count_checks 64 (length l.variables) ∷ each (λ _. variable_checks l) l.variables)) h.1.1 in
      let function : (k : ℕ) (f : FunctionLine) → slice_get l.functions k ≡ Some f → first_of (function_checks l k f) ≡ None = each_passes (function_checks l) l.functions functions.0.1 in
      let variable : (k : ℕ) (v : VariableLine) → slice_get l.variables k ≡ Some v → first_of (variable_checks l v) ≡ None = each_passes (λ _. variable_checks l) l.variables functions.1.1.1 in
      let constants = checks_pass (constant_checks l) functions.1.0 in
      let sorts : All (HasSorts l.sorts) (map function_named l.functions) =
      All-map (HasSorts l.sorts) function_named l.functions (all-from (λ f. HasSorts l.sorts (function_named f)) l.functions (λ k f at. function_sorts k f (function k f at))) in
      record {
        schema_limits = record {
          sorts = few 64 l.sorts h.1.0;
          functions = (let n = few 256 (length l.functions) functions.0.0 in omega (arith, n, length-map l.functions function_named));
          constants = (let n = ltb-false 256 (length l.constants.sorts) constants.0 in omega (arith, n, length-map l.constants.sorts sort_named));
        };
        limits = record {
          vars = (let n = few 64 (length l.variables) functions.1.1.0 in omega (arith, n, length-map l.variables variable_sort));
          relations = omega arith;
          columns = All-nil (λ (columns : List SortId). length columns ≤ 32);
        };
        shape = record {
          schema = record {
            functions = sorts;
            constants = All-map (IsSort l.sorts) sort_named l.constants.sorts
                (all_from_test (λ (n : ℕ). nat_lt n l.sorts) (λ n. IsSort l.sorts (sort_named n)) (λ n t. ltb-true n l.sorts t) l.constants.sorts (not-false (list_all (λ (n : ℕ). nat_lt n l.sorts) l.constants.sorts) constants.1.0));
            acyclic = acyclic l.sorts l.functions sorts (λ k f at. (checks_pass (function_checks l k f) (function k f at)).1.0);
          };
          vars = All-map (IsSort l.sorts) variable_sort l.variables (all-from (λ v. IsSort l.sorts (variable_sort v)) l.variables (λ k v at. variable_known v (variable k v at)));
          columns = All-nil (All (IsSort l.sorts));
          some_column = All-nil (λ (columns : List SortId). 0 < length columns);
        };
        initial = λ k c s constant var.
            let v = map_from variable_sort l.variables k s var in
            let w = map_from variable_initial l.variables k (Some c) constant in
            let same : w.0 ≡ v.0 = one_value l.variables k w.0 v.0 w.1 v.1 in
            let named : constant_named v.0.initial ≡ Some c = subst (λ (x : VariableLine). constant_named x.initial ≡ Some c) same w.2 in
            let sorted = not-false (is_sorted_initial l v.0.sort v.0.initial) (checks_pass (variable_checks l v.0) (variable k v.0 v.1)).1.0 in
            initial_sorted v.0.sort v.0.initial c sorted named ∙ ap (λ (x : SortId). Some x) v.2;
      }

-- the sorts of a function in whose line nothing is wrong
pub small_sorts : (l : SystemLines) (k : ℕ) (f : FunctionLine) → l.sorts ≤ 64 → first_of (function_checks l k f) ≡ None → HasSmallSorts f
small_sorts l k f most h = let s = function_sorts l k f h in (omega (arith, s.0, most), omega (arith, s.1, most))

-- The transitions and the goals.

same_targets : (t u : Target) → is_same_target t u ≡ true → t ≡ u
same_targets (Var v) (Var w) h = ap (λ (n : ℕ). Var (record { n = n })) (eqb-true v.n w.n h)
same_targets (Var v) (Cell row column) h = absurd (cc)
same_targets (Cell row column) (Var w) h = absurd (cc)
same_targets (Cell row column) (Cell q e) h =
    let p = and_parts (nat_eq row q) (nat_eq column e) h in rw (eqb-true row q p.0, eqb-true column e p.1)

targets_same : (t : Target) → is_same_target t t ≡ true
targets_same (Var v) = eq-eqb v.n v.n refl
targets_same (Cell row column) = and_from (nat_eq row row) (nat_eq column column) (eq-eqb row row refl) (eq-eqb column column refl)

other_targets : (u e : Update) → is_same_target u.target e.target ≡ false → u.target ≡ e.target → ⊥
other_targets u e test same = no_true _ (targets_same u.target) (subst (λ (t : Target). is_same_target u.target t ≡ false) (sym same) test)

pub targets_differ : (u e : Update) → (u.target ≡ e.target → ⊥) → is_same_target u.target e.target ≡ false
targets_differ u e other = not_true (is_same_target u.target e.target) (λ h. other (same_targets u.target e.target h))

at_written : {X : Type 0} (P : X → Type 0) (xs : List X) → AllByRecursion P xs → (k : ℕ) (x : X) → slice_get xs k ≡ Some x → P x
at_written P [] h k x at = absurd cc
at_written P (y ∷ xs) h zero x at = subst P (same_Some y x at) h.0
at_written P (y ∷ xs) h (suc k) x at = at_written P xs h.1 k x at

pub list_any-mapped : {X Y : Type 0} (p : X → Bool) (f : Y → X) (ys : List Y) → list_any p (map f ys) ≡ list_any (λ y. p (f y)) ys
list_any-mapped p f [] = refl
list_any-mapped p f (y ∷ ys) = rw (list_any-mapped p f ys) refl

module _ (shape : ShapeParts) where
  record GoodCube (c : Problem) : Type 0 where
    literals : length c.literals ≤ 128
    rows : c.rows ≡ []
    fits : All (LiteralFits shape [] []) c.literals

  good_cube : (c : Problem) → first_of (cube_checks shape c) ≡ None → GoodCube c
  good_cube c h =
      let e = checks_pass (cube_checks shape c) h in
      let none : Bool = nat_eq (length c.rows) 0 in
      let known : Bool = list_all (is_known_literal shape [] []) c.literals in
      record {
        literals = ltb-false 128 (length c.literals) e.0;
        rows = nil_from_length c.rows (eqb-true (length c.rows) 0 (and_parts none known (not-false (none && known) e.1.0)).0);
        fits = sorted-all_fit shape [] [] c.literals e.1.1.0;
      }

  record GoodUpdate (t : TransitionLines) (k : ℕ) (u : UpdateLine) : Type 0 where
    fits : UpdateFits shape [] [] (update_named u)
    fresh : list_any (λ (above : UpdateLine). nat_eq above.target u.target) (take k t.updates) ≡ false

  good_update : (t : TransitionLines) (k : ℕ) (u : UpdateLine) → first_of (update_checks shape t k u) ≡ None → GoodUpdate t k u
  good_update t k u h =
      let e = checks_pass (update_checks shape t k u) h in
      let literal = update_literal (update_named u) in
      record { fits = sorted-fits shape [] [] literal (not-false (is_well_sorted shape [] [] literal) e.1.0); fresh = e.1.1.0 }

  record GoodTransition (t : TransitionLines) : Type 0 where
    limits : HasTransitionLimits (transition_named t)
    fits : IsTransition shape (transition_named t)
    bare : All (λ (c : Problem). c.rows ≡ []) t.guard

  some : (count : ℕ) → nat_eq count 0 ≡ false → 0 < count
  some count h = let ne = eqb-false count 0 h in omega (arith, ne)

  good_transition : (t : TransitionLines) → AllPass (transition_checks shape t) → GoodTransition t
  good_transition t h =
      let parts = passes_both (guard_checks t ∷ each (λ _. cube_checks shape) t.guard) ([] ∷ each (update_checks shape t) t.updates) h in
      let count = checks_pass (guard_checks t) parts.0.0 in
      let cube : (k : ℕ) (c : Problem) → slice_get t.guard k ≡ Some c → GoodCube c = λ k c at. good_cube c (each_passes (λ _. cube_checks shape) t.guard parts.0.1 k c at) in
      let update : (k : ℕ) (u : UpdateLine) → slice_get t.updates k ≡ Some u → GoodUpdate t k u = λ k u at. good_update t k u (each_passes (update_checks shape t) t.updates parts.1.1 k u at) in
      let as_many : length (map literals_of t.guard) ≡ length t.guard = length-map t.guard literals_of in
      let test : Update → Update → Bool = λ u e. is_same_target u.target e.target in
      record {
        limits = record {
          rows = omega arith;
          params = omega arith;
          guard = (let n = ltb-false 64 (length t.guard) count.0 in omega (arith, n, as_many));
          disjuncts = All-map (λ (disjunct : List Literal). length disjunct ≤ 128) literals_of t.guard (all-from (λ c. length c.literals ≤ 128) t.guard (λ k c at. (cube k c at).literals));
          bulk = omega arith;
          conditions = All-nil (λ (b : Bulk). length b.condition ≤ 16);
        };
        fits = record {
          rows = All-nil (IsRelation shape);
          params = All-nil (IsSort shape.schema.sorts);
          some_disjunct = (let n = some (length t.guard) count.1.0 in omega (arith, n, as_many));
          guard = All-map (All (LiteralFits shape [] [])) literals_of t.guard (all-from (λ c. All (LiteralFits shape [] []) c.literals) t.guard (λ k c at. (cube k c at).fits));
          updates = All-map (UpdateFits shape [] []) update_named t.updates (all-from (λ u. UpdateFits shape [] [] (update_named u)) t.updates (λ k u at. (update k u at).fits));
          once = pairs_from_fresh test (λ (u : Update) (e : Update). u.target ≡ e.target → ⊥) other_targets (map update_named t.updates) (λ k y at.
              let u = map_from update_named t.updates k y at in
              subst (λ (z : Update). list_any (λ (x : Update). test x z) (take k (map update_named t.updates)) ≡ false) u.2
              (ap (list_any (λ (x : Update). test x (update_named u.0))) (take-map update_named k t.updates)
              ∙ list_any-mapped (λ (x : Update). test x (update_named u.0)) update_named (take k t.updates) ∙ (update k u.0 u.1).fresh));
          bulk = All-nil (BulkFits shape (transition_named t));
          in_groups = λ i j k a b c lt lu at bt ct same. absurd cc;
        };
        bare = all-from (λ c. c.rows ≡ []) t.guard (λ k c at. (cube k c at).rows);
      }

  no_params : (b : Base) → IsSmallBase b → IsNoParam b
  no_params (base.Var v) h = tt
  no_params (base.Cell row column) h = tt
  no_params (base.Constant c) h = tt
  no_params (base.Undef s) h = tt
  no_params (base.Param p) h = absurd h

  no_param : (x : Literal) → IsSmallLiteral x → HasNoParam x
  no_param (Equal left right same) h = (no_params left.base h.0.base, no_params right.base h.1.base)

  record GoodGoal (g : Problem) : Type 0 where
    limits : HasGoalLimits g
    fits : Fits shape g
    cube : IsCube g

  good_goal : (g : Problem) → IsSmallCube g → first_of (cube_checks shape g) ≡ None → GoodGoal g
  good_goal g small h =
      let good = good_cube g h in
      let literals : All (LiteralFits shape g.rows g.params) g.literals =
      subst (λ (ps : List SortId). All (LiteralFits shape g.rows ps) g.literals) (sym small.params) (subst (λ (rs : List RelId). All (LiteralFits shape rs []) g.literals) (sym good.rows) good.fits) in
      record {
        limits = record { rows = (let n : length g.rows ≡ 0 = ap length good.rows in omega (arith, n)); literals = good.literals };
        fits = record {
          rows = subst (All (IsRelation shape)) (sym good.rows) (All-nil (IsRelation shape));
          params = subst (All (IsSort shape.schema.sorts)) (sym small.params) (All-nil (IsSort shape.schema.sorts));
          literals = literals;
        };
        cube = record { none = small.params; unnamed = all-from HasNoParam g.literals (λ k x at. no_param x (at_written IsSmallLiteral g.literals small.literals.each k x at)) };
      }

pub record IsDenoted (l : SystemLines) : Type 0 where
  pub plain : IsPlainSystem (system_named l)
  pub numbers : numbers_of (system_named l) ≡ l

module _ (l : SystemLines) (written : IsWrittenSystem l) (steps : AllPass (step_checks (shape_named l) l)) where
  abbrev parts : AllPass (count_checks 256 (length l.transitions) ∷ flat_map (transition_checks (shape_named l)) l.transitions) × AllPass (count_checks 64 (length l.goals) ∷ each (λ _. cube_checks (shape_named l)) l.goals)
  parts =
      passes_both (count_checks 256 (length l.transitions) ∷ flat_map (transition_checks (shape_named l)) l.transitions) (count_checks 64 (length l.goals) ∷ each (λ _. cube_checks (shape_named l)) l.goals) steps

  transition : (k : ℕ) (t : TransitionLines) → slice_get l.transitions k ≡ Some t → GoodTransition (shape_named l) t
  transition k t at = good_transition (shape_named l) t (lists_pass (transition_checks (shape_named l)) l.transitions parts.0.1 k t at)

  goal : (k : ℕ) (g : Problem) → slice_get l.goals k ≡ Some g → GoodGoal (shape_named l) g
  goal k g at = good_goal (shape_named l) g (at_written IsSmallCube l.goals written.goals.each k g at) (each_passes (λ _. cube_checks (shape_named l)) l.goals parts.1.1 k g at)

  bare_guard : (k : ℕ) (t : TransitionLines) → slice_get l.transitions k ≡ Some t → HasBareGuard t
  bare_guard k t at =
      all-from IsBare t.guard (λ j c c_at. record {
        rows = from_known (λ (p : Problem). p.rows ≡ []) t.guard (transition k t at).bare j c c_at;
        params = (at_written IsSmallCube t.guard (at_written IsWrittenTransition l.transitions written.transitions.each k t at).guard.each j c c_at).params;
      })

  pub denoted_by : GoodShape l → IsDenoted l
  denoted_by good = record {
    plain = record {
      system = record {
        shape = good.shape;
        initial_for_each = length-map l.variables variable_initial ∙ sym (length-map l.variables variable_sort);
        initial_sorts = good.initial;
        transitions = All-map (IsTransition (shape_named l)) transition_named l.transitions (all-from (λ t. IsTransition (shape_named l) (transition_named t)) l.transitions (λ k t at. (transition k t at).fits));
        goals = all-from (Fits (shape_named l)) l.goals (λ k g at. (goal k g at).fits);
        cubes = all-from IsCube l.goals (λ k g at. (goal k g at).cube);
      };
      schema = good.schema_limits;
      shape = good.limits;
      limits = record {
        transitions = (let n = few 256 (length l.transitions) parts.0.0 in omega (arith, n, length-map l.transitions transition_named));
        each_transition = All-map HasTransitionLimits transition_named l.transitions (all-from (λ t. HasTransitionLimits (transition_named t)) l.transitions (λ k t at. (transition k t at).limits));
        goals = few 64 (length l.goals) parts.1.0;
        each_goal = all-from HasGoalLimits l.goals (λ k g at. (goal k g at).limits);
      };
      plain = record {
        relations = refl;
        transitions = All-map IsPlainTransition transition_named l.transitions (all-from (λ t. IsPlainTransition (transition_named t)) l.transitions (λ k t at. record { rows = refl; params = refl; bulk = refl }));
      };
    };
    numbers = numbers_back l (all-from HasBareGuard l.transitions bare_guard);
  }

-- numbers without a fault denote a plain system
pub complete : (l : SystemLines) → IsWrittenSystem l → first_fault l ≡ None → IsDenoted l
complete l written h = let p = passes_both (shape_checks l) (step_checks (shape_named l) l) (none_fails 1 (line_checks l) h) in denoted_by l written p.1 (good_shape l p.0)

-- lines that were judged
pub judged_pass : (ls : List (List Check)) (n m : ℕ) → Judges ls n (Ok m) → AllPass ls
judged_pass ls n m h = none_fails n ls (ap (first_from n) (sym (append-nil ls)) ∙ h [])
