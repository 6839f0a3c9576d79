-- Parts without fault are a system within the limits, and the other way round.
use Rattle.std.proofs.Common.{◌≡◌, ℕ, zero, suc, ◌<◌, ◌≤◌, Bool, true, false, ◌&&◌, ◌||◌, List, [], ◌∷◌, ◌++◌, map, length, take, nat_eq, nat_lt, nat_le, refl, sym, ◌∙◌, ap, subst, arith, All, eq-eqb}
use Rattle.std.specs.Prelude.{min, Option, Some, None, slice_get, not}
use Rattle.std.specs.List.{list_all, list_any, zip}
use Rattle.std.proofs.lemmas.Option.{slice_get_within, same_Some}
use Rattle.std.proofs.lemmas.List.Elements.{All-nil, All-cons, All-head, All-append, All-map}
use Rattle.std.proofs.lemmas.Bool.{ltb-false, leb-false, le-ltb, lt-leb, eqb-true, and_parts, and_from, not-false, or_parts}
use Rattle.ras_logic.specs.declared.ids.SortId.{SortId}
use Rattle.ras_logic.specs.declared.ids.ConstId.{ConstId}
use Rattle.ras_logic.specs.declared.ids.RelId.{RelId}
use Rattle.ras_logic.specs.declared.literal.Literal.{Literal}
use Rattle.ras_logic.specs.declared.problem.Problem.{Problem}
use Rattle.ras_logic.specs.Schemas.{IsSort}
use Rattle.ras_logic.specs.Shapes.{ShapeParts, IsShape, IsRelation}
use Rattle.ras_logic.specs.Formulas.{LiteralFits, Fits, IsCube}
use Rattle.ras_logic.proofs.Clashes.{from_known}
use Rattle.ras_system.specs.declared.update.Target.{Target}
use Rattle.ras_system.specs.declared.update.Target.TheVariants.{Var, Cell}
use Rattle.ras_system.specs.declared.update.Update.{Update}
use Rattle.ras_system.specs.declared.bulk.Assign.{Assign}
use Rattle.ras_system.specs.declared.bulk.Bulk.{Bulk}
use Rattle.ras_system.specs.declared.transition.Transition.{Transition}
use Rattle.ras_system.specs.declared.system_fault.SystemPlace.TheVariants as place
use Rattle.ras_system.specs.declared.system_fault.SystemKind.TheVariants.{Range}
use Rattle.ras_system.specs.Known.{are_known_relations, are_known_sorts, is_known_literal, is_well_sorted, is_one_sort}
use Rattle.ras_system.specs.Systems.{SystemParts, IsSystem, IsTransition, BulkFits, UpdateFits, AssignFits, update_literal, assign_literal, case_literals, bulk_rows}
use Rattle.ras_system.specs.SystemFaults.{Check, check, HasTransitionLimits, HasGoalLimits, HasSystemLimits, first_of, for_each, constant_checks, initial_checks, parameter_checks, disjunct_checks, is_same_target, update_checks, is_out_of_group, column_checks, case_checks, transition_checks, goal_checks, first_fault}
use Rattle.ras_system.proofs.Passing.{true_false, none_fails, none_first, passes_both, both_pass, each_passes, all_pass, all_from_each, all_from_test, test_from_all, pairs_from_fresh, fresh_from_pairs, few_from_each}
use Rattle.ras_system.proofs.KnownTerms.{list_all_parts, one_sort-true, sorted-fits, fits-sorted, fits-known, sorted-all_fit, all_fit-literal_checks, known-relations, relations-known, known-sorts, sorts-known}
use Rattle.ras_system.proofs.Marks.{differs, column_fresh}
use Rattle.ras_system.proofs.BulkGroups.{in_groups, groups_pass}

-- two lists element by element
slice_get-zip : {A B : Type 0} (xs : List A) (ys : List B) (k : ℕ) (x : A) (y : B) → slice_get xs k ≡ Some x → slice_get ys k ≡ Some y → slice_get (zip xs ys) k ≡ Some (x, y)
slice_get-zip [] ys k x y left right = absurd (cc)
slice_get-zip (a ∷ xs) [] k x y left right = absurd (cc)
slice_get-zip (a ∷ xs) (b ∷ ys) zero x y left right = rw (same_Some a x left, same_Some b y right)
slice_get-zip (a ∷ xs) (b ∷ ys) (suc k) x y left right = slice_get-zip xs ys k x y left right

slice_get-unzip : {A B : Type 0} (xs : List A) (ys : List B) (k : ℕ) (p : A × B) → slice_get (zip xs ys) k ≡ Some p → (slice_get xs k ≡ Some p.0) × (slice_get ys k ≡ Some p.1)
slice_get-unzip [] ys k p known = absurd (cc)
slice_get-unzip (a ∷ xs) [] k p known = absurd (cc)
slice_get-unzip (a ∷ xs) (b ∷ ys) zero p known = let same = same_Some (a, b) p known in (ap (λ q. Some q.0) same, ap (λ q. Some q.1) same)
slice_get-unzip (a ∷ xs) (b ∷ ys) (suc k) p known = slice_get-unzip xs ys k p known

-- counts within their limits
below : (n most : ℕ) → nat_le most n ≡ false → n < most
below n most h = leb-false most n h

at_most : (n most : ℕ) → nat_lt most n ≡ false → n ≤ most
at_most n most h = ltb-false most n h

none_of_three : (a b c : Bool) → (a || b || c) ≡ false → (a ≡ false) × (b ≡ false) × (c ≡ false)
none_of_three a b c h = let p = or_parts (a || b) c h in let q = or_parts a b p.0 in (q.0, q.1, p.1)

other_number : (a e : ℕ) → nat_eq a e ≡ false → a ≡ e → ⊥
other_number a e test same = true_false (eq-eqb a e same) test

same_targets : (t u : Target) → is_same_target t u ≡ true → t ≡ u
same_targets (Var v) (Var w) h = ap (λ (n : ℕ). Var (record { n = n })) (eqb-true v.n w.n h)
same_targets (Var v) (Cell row column) h = absurd (cc)
same_targets (Cell row column) (Var w) h = absurd (cc)
same_targets (Cell row column) (Cell q e) h =
    let p = and_parts (nat_eq row q) (nat_eq column e) h in rw (eqb-true row q p.0, eqb-true column e p.1)

targets_same : (t : Target) → is_same_target t t ≡ true
targets_same (Var v) = eq-eqb v.n v.n refl
targets_same (Cell row column) = and_from (nat_eq row row) (nat_eq column column) (eq-eqb row row refl) (eq-eqb column column refl)

other_target : (u e : Update) → is_same_target u.target e.target ≡ false → u.target ≡ e.target → ⊥
other_target u e test same = true_false (targets_same u.target) (subst (λ (t : Target). is_same_target u.target t ≡ false) (sym same) test)

target_differs : (u e : Update) → (u.target ≡ e.target → ⊥) → is_same_target u.target e.target ≡ false
target_differs u e other = go (is_same_target u.target e.target) refl
  where
    go : (b : Bool) → is_same_target u.target e.target ≡ b → is_same_target u.target e.target ≡ false
    go true h = absurd (other (same_targets u.target e.target h))
    go false h = h

module _ (shape : ShapeParts) where
  -- a goal without fault
  record GoodGoal (n : ℕ) (g : Problem) : Type 0 where
    few : n < 64
    limits : HasGoalLimits g
    fits : Fits shape g

  goal_without_fault : (n : ℕ) (g : Problem) → IsCube g → first_of (goal_checks shape n g) ≡ None → GoodGoal n g
  goal_without_fault n g cube h =
      let e = none_fails (goal_checks shape n g) h in
      let few = none_of_three (nat_le 64 n) (nat_lt 8 (length g.rows)) (nat_lt 128 (length g.literals)) e.0 in
      record {
        few = below n 64 few.0;
        limits = record { rows = at_most (length g.rows) 8 few.1; literals = at_most (length g.literals) 128 few.2 };
        fits = record {
          rows = known-relations shape g.rows (not-false (are_known_relations shape g.rows) e.1.0);
          params = rw cube.none (All-nil (IsSort shape.schema.sorts));
          literals = rw cube.none (sorted-all_fit shape g.rows [] g.literals e.1.1.1.0);
        };
      }

  goal_of_system : (n : ℕ) (g : Problem) → IsCube g → n < 64 → HasGoalLimits g → Fits shape g → first_of (goal_checks shape n g) ≡ None
  goal_of_system n g cube few limits fits =
      rw (lt-leb 64 n few, le-ltb 8 (length g.rows) limits.rows, le-ltb 128 (length g.literals) limits.literals, relations-known shape g.rows fits.rows)
      (all_fit-literal_checks shape g.rows [] (place.Goal n) g.literals (rw cube.none at fits.literals))

  -- a disjunct without fault
  record GoodDisjunct (t : Transition) (k : ℕ) (disjunct : List Literal) : Type 0 where
    few : k < 64
    literals : length disjunct ≤ 128
    fits : All (LiteralFits shape t.rows t.params) disjunct

  disjunct_without_fault : (n : ℕ) (t : Transition) (k : ℕ) (disjunct : List Literal) → first_of (disjunct_checks shape n t k disjunct) ≡ None → GoodDisjunct t k disjunct
  disjunct_without_fault n t k disjunct h =
      let e = none_fails (disjunct_checks shape n t k disjunct) h in
      let few = or_parts (nat_le 64 k) (nat_lt 128 (length disjunct)) e.0 in
      record { few = below k 64 few.0; literals = at_most (length disjunct) 128 few.1; fits = sorted-all_fit shape t.rows t.params disjunct e.1.1.0 }

  disjunct_of_system : (n : ℕ) (t : Transition) (k : ℕ) (disjunct : List Literal) → GoodDisjunct t k disjunct → first_of (disjunct_checks shape n t k disjunct) ≡ None
  disjunct_of_system n t k disjunct good =
      rw (lt-leb 64 k good.few, le-ltb 128 (length disjunct) good.literals) (all_fit-literal_checks shape t.rows t.params (place.Guard n k) disjunct good.fits)

  -- an update without fault
  record GoodUpdate (t : Transition) (k : ℕ) (u : Update) : Type 0 where
    fits : UpdateFits shape t.rows t.params u
    fresh : list_any (λ (e : Update). is_same_target e.target u.target) (take k t.updates) ≡ false

  update_without_fault : (n : ℕ) (t : Transition) (k : ℕ) (u : Update) → first_of (update_checks shape n t k u) ≡ None → GoodUpdate t k u
  update_without_fault n t k u h =
      let e = none_fails (update_checks shape n t k u) h in
      record {
        fits = All-head (LiteralFits shape t.rows t.params) (update_literal u) [] (sorted-all_fit shape t.rows t.params (update_literal u ∷ []) e.1.0);
        fresh = e.1.1.0;
      }

  update_of_system : (n : ℕ) (t : Transition) (k : ℕ) (u : Update) → GoodUpdate t k u → first_of (update_checks shape n t k u) ≡ None
  update_of_system n t k u good =
      rw (fits-known shape t.rows t.params (update_literal u) good.fits, fits-sorted shape t.rows t.params (update_literal u) good.fits, good.fresh)

  -- a bulk case without fault
  record GoodCase (t : Transition) (k : ℕ) (b : Bulk) : Type 0 where
    few : k < 8
    condition : length b.condition ≤ 16
    fits : BulkFits shape t b
    grouped : is_out_of_group (take k t.bulk) b.relation ≡ false

  case_without_fault : (n : ℕ) (t : Transition) (k : ℕ) (b : Bulk) → first_of (case_checks shape n t k b) ≡ None → GoodCase t k b
  case_without_fault n t k b h =
      let e = none_fails (case_checks shape n t k b) h in
      let few = or_parts (nat_le 8 k) (nat_lt 16 (length b.condition)) e.0 in
      let rows : List RelId = bulk_rows t b in
      let parts = and_parts (list_all (is_well_sorted shape rows t.params) b.condition)
      (list_all (λ (a : Assign). is_well_sorted shape rows t.params (assign_literal (length t.rows) a)) b.assigns)
      (sym (list_all_parts (is_well_sorted shape rows t.params) (assign_literal (length t.rows)) b.condition b.assigns)
      ∙ not-false (list_all (is_well_sorted shape rows t.params) (case_literals (length t.rows) b)) e.1.1.1.0) in
      record {
        few = below k 8 few.0;
        condition = at_most (length b.condition) 16 few.1;
        fits = record {
          relation = All-head (IsRelation shape) b.relation [] (known-relations shape (b.relation ∷ []) (not-false (are_known_relations shape (b.relation ∷ [])) e.1.0));
          condition = all_from_test (is_well_sorted shape rows t.params) (LiteralFits shape rows t.params) (sorted-fits shape rows t.params) b.condition parts.0;
          assigns = all_from_test (λ (a : Assign). is_well_sorted shape rows t.params (assign_literal (length t.rows) a)) (AssignFits shape t b)
              (λ a. sorted-fits shape rows t.params (assign_literal (length t.rows) a)) b.assigns parts.1;
          once = pairs_from_fresh (λ (a : Assign) (e : Assign). nat_eq a.column e.column) (λ (a : Assign) (e : Assign). a.column ≡ e.column → ⊥)
              (λ a e t same. other_number a.column e.column t same) b.assigns
              (λ i a known. (none_fails (column_checks (place.Bulk n k) b.assigns i a)
              (each_passes (column_checks (place.Bulk n k) b.assigns) b.assigns (none_first (for_each (column_checks (place.Bulk n k) b.assigns) b.assigns) e.1.1.1.1.1) i a known)).0);
        };
        grouped = e.1.1.1.1.0;
      }

  case_of_system : (n : ℕ) (t : Transition) (k : ℕ) (b : Bulk) → GoodCase t k b → first_of (case_checks shape n t k b) ≡ None
  case_of_system n t k b good =
      let rows : List RelId = bulk_rows t b in
      let fit : All (LiteralFits shape rows t.params) (case_literals (length t.rows) b) =
      All-append (LiteralFits shape rows t.params) b.condition (map (assign_literal (length t.rows)) b.assigns) good.fits.condition
      (All-map (LiteralFits shape rows t.params) (assign_literal (length t.rows)) b.assigns good.fits.assigns) in
      let columns : first_of (for_each (column_checks (place.Bulk n k) b.assigns) b.assigns) ≡ None =
      all_pass (column_checks (place.Bulk n k) b.assigns) b.assigns
      (λ i a known. column_fresh (place.Bulk n k) b.assigns i a
      (fresh_from_pairs (λ (e : Assign) (c : Assign). nat_eq e.column c.column) (λ (e : Assign) (c : Assign). e.column ≡ c.column → ⊥)
      (λ e c other. differs e.column c.column other) b.assigns good.fits.once i a known)) in
      rw (
        lt-leb 8 k good.few,
        le-ltb 16 (length b.condition) good.condition,
        relations-known shape (b.relation ∷ []) (All-cons (IsRelation shape) b.relation [] good.fits.relation (All-nil (IsRelation shape))),
        test_from_all (is_known_literal shape rows t.params) (LiteralFits shape rows t.params) (fits-known shape rows t.params) (case_literals (length t.rows) b) fit,
        test_from_all (is_well_sorted shape rows t.params) (LiteralFits shape rows t.params) (fits-sorted shape rows t.params) (case_literals (length t.rows) b) fit,
        good.grouped,
      ) columns

  -- a transition without fault
  record GoodTransition (n : ℕ) (t : Transition) : Type 0 where
    few : n < 256
    limits : HasTransitionLimits t
    fits : IsTransition shape t

  transition_without_fault : (n : ℕ) (t : Transition) → first_of (transition_checks shape n t) ≡ None → GoodTransition n t
  transition_without_fault n t h =
      let own = parameter_checks shape n t in
      let guard = for_each (disjunct_checks shape n t) t.guard in
      let updates = for_each (update_checks shape n t) t.updates in
      let cases = for_each (case_checks shape n t) t.bulk in
      let p = passes_both (own ++ guard ++ updates) cases h in
      let q = passes_both (own ++ guard) updates p.0 in
      let r = passes_both own guard q.0 in
      let e = none_fails own r.0 in
      let few = none_of_three (nat_le 256 n) (nat_lt 8 (length t.rows)) (nat_lt 16 (length t.params)) e.0 in
      let exist = and_parts (are_known_relations shape t.rows) (are_known_sorts shape.schema t.params)
      (not-false (are_known_relations shape t.rows && are_known_sorts shape.schema t.params) e.1.0) in
      let disjunct : (k : ℕ) (d : List Literal) → slice_get t.guard k ≡ Some d → GoodDisjunct t k d =
      λ k d known. disjunct_without_fault n t k d (each_passes (disjunct_checks shape n t) t.guard r.1 k d known) in
      let update : (k : ℕ) (u : Update) → slice_get t.updates k ≡ Some u → GoodUpdate t k u =
      λ k u known. update_without_fault n t k u (each_passes (update_checks shape n t) t.updates q.1 k u known) in
      let case : (k : ℕ) (b : Bulk) → slice_get t.bulk k ≡ Some b → GoodCase t k b =
      λ k b known. case_without_fault n t k b (each_passes (case_checks shape n t) t.bulk p.1 k b known) in
      record {
        few = below n 256 few.0;
        limits = record {
          rows = at_most (length t.rows) 8 few.1;
          params = at_most (length t.params) 16 few.2;
          guard = few_from_each t.guard 64 (λ k d known. (disjunct k d known).few);
          disjuncts = all_from_each (λ (d : List Literal). length d ≤ 128) t.guard (λ k d known. (disjunct k d known).literals);
          bulk = few_from_each t.bulk 8 (λ k b known. (case k b known).few);
          conditions = all_from_each (λ (b : Bulk). length b.condition ≤ 16) t.bulk (λ k b known. (case k b known).condition);
        };
        fits = record {
          rows = known-relations shape t.rows exist.0;
          params = known-sorts shape.schema t.params exist.1;
          some_disjunct = some (length t.guard) e.1.1.0;
          guard = all_from_each (All (LiteralFits shape t.rows t.params)) t.guard (λ k d known. (disjunct k d known).fits);
          updates = all_from_each (UpdateFits shape t.rows t.params) t.updates (λ k u known. (update k u known).fits);
          once = pairs_from_fresh (λ (u : Update) (e : Update). is_same_target u.target e.target) (λ (u : Update) (e : Update). u.target ≡ e.target → ⊥)
              other_target t.updates (λ k u known. (update k u known).fresh);
          bulk = all_from_each (BulkFits shape t) t.bulk (λ k b known. (case k b known).fits);
          in_groups = in_groups t.bulk (λ k b known. (case k b known).grouped);
        };
      }
    where
      some : (count : ℕ) → nat_eq count 0 ≡ false → 0 < count
      some zero h = absurd (true_false (eq-eqb zero zero refl) h)
      some (suc count) h = omega arith

  transition_of_system : (n : ℕ) (t : Transition) → GoodTransition n t → first_of (transition_checks shape n t) ≡ None
  transition_of_system n t good =
      let own = parameter_checks shape n t in
      let guard = for_each (disjunct_checks shape n t) t.guard in
      let updates = for_each (update_checks shape n t) t.updates in
      let cases = for_each (case_checks shape n t) t.bulk in
      let parameters : first_of own ≡ None =
      rw (
        lt-leb 256 n good.few,
        le-ltb 8 (length t.rows) good.limits.rows,
        le-ltb 16 (length t.params) good.limits.params,
        relations-known shape t.rows good.fits.rows,
        sorts-known shape.schema t.params good.fits.params,
        differs (length t.guard) 0 (λ none. let some = good.fits.some_disjunct in omega arith),
      ) in
      both_pass (own ++ guard ++ updates) cases (both_pass (own ++ guard) updates (both_pass own guard parameters
      (all_pass (disjunct_checks shape n t) t.guard (λ k d known. disjunct_of_system n t k d (record {
        few = (let within = slice_get_within t.guard k d known in let few = good.limits.guard in omega arith);
        literals = from_known (λ (l : List Literal). length l ≤ 128) t.guard good.limits.disjuncts k d known;
        fits = from_known (All (LiteralFits shape t.rows t.params)) t.guard good.fits.guard k d known;
      }))))
      (all_pass (update_checks shape n t) t.updates (λ k u known. update_of_system n t k u (record {
        fits = from_known (UpdateFits shape t.rows t.params) t.updates good.fits.updates k u known;
        fresh = fresh_from_pairs (λ (e : Update) (v : Update). is_same_target e.target v.target) (λ (e : Update) (v : Update). e.target ≡ v.target → ⊥)
            target_differs t.updates good.fits.once k u known;
      }))))
      (all_pass (case_checks shape n t) t.bulk (λ k b known. case_of_system n t k b (record {
        few = (let within = slice_get_within t.bulk k b known in let few = good.limits.bulk in omega arith);
        condition = from_known (λ (c : Bulk). length c.condition ≤ 16) t.bulk good.limits.conditions k b known;
        fits = from_known (BulkFits shape t) t.bulk good.fits.bulk k b known;
        grouped = groups_pass t.bulk good.fits.in_groups k b known;
      })))

  -- initial constants without fault
  record GoodInitial (initial : List (Option ConstId)) : Type 0 where
    for_each_variable : length initial ≡ length shape.vars
    sorts : (k : ℕ) (c : ConstId) (s : SortId) → slice_get initial k ≡ Some (Some c) → slice_get shape.vars k ≡ Some s → slice_get shape.schema.constants c.n ≡ Some s

  constant_without_fault : (k : ℕ) (s : SortId) (c : ConstId) → first_of (constant_checks shape.schema k (s, Some c)) ≡ None → slice_get shape.schema.constants c.n ≡ Some s
  constant_without_fault k s c h =
      let e = none_fails (constant_checks shape.schema k (s, Some c)) h in
      let o = one_sort-true (Some s) (slice_get shape.schema.constants c.n) (not-false (is_one_sort (Some s) (slice_get shape.schema.constants c.n)) e.1.0) in
      o.2 ∙ sym o.1

  constant_of_system : (k : ℕ) (s : SortId) (o : Option ConstId) → ((c : ConstId) → o ≡ Some c → slice_get shape.schema.constants c.n ≡ Some s)
      → first_of (constant_checks shape.schema k (s, o)) ≡ None
  constant_of_system k s None sorted = refl
  constant_of_system k s (Some c) sorted = rw (sorted c refl, eq-eqb s.n s.n refl)

  initial_without_fault : (initial : List (Option ConstId)) → first_of (initial_checks shape initial) ≡ None → GoodInitial initial
  initial_without_fault initial h =
      let lengths : List Check = check (place.Initial (min (length shape.vars) (length initial))) Range (not (nat_eq (length shape.vars) (length initial))) ∷ [] in
      let p = passes_both (for_each (constant_checks shape.schema) (zip shape.vars initial)) lengths h in
      let e = none_fails lengths p.1 in
      record {
        for_each_variable = sym (eqb-true (length shape.vars) (length initial) (not-false (nat_eq (length shape.vars) (length initial)) e.0));
        sorts = λ k c s constant var. constant_without_fault k s c
            (each_passes (constant_checks shape.schema) (zip shape.vars initial) p.0 k (s, Some c) (slice_get-zip shape.vars initial k s (Some c) var constant));
      }

  initial_of_system : (initial : List (Option ConstId)) → GoodInitial initial → first_of (initial_checks shape initial) ≡ None
  initial_of_system initial good =
      let lengths : List Check = check (place.Initial (min (length shape.vars) (length initial))) Range (not (nat_eq (length shape.vars) (length initial))) ∷ [] in
      both_pass (for_each (constant_checks shape.schema) (zip shape.vars initial)) lengths
      (all_pass (constant_checks shape.schema) (zip shape.vars initial) (λ k x known.
      let parts = slice_get-unzip shape.vars initial k x known in
      constant_of_system k x.0 x.1 (λ c same. good.sorts k c x.0 (parts.1 ∙ ap (λ (o : Option ConstId). Some o) same) parts.0)))
      (rw (eq-eqb (length shape.vars) (length initial) (sym good.for_each_variable)))

pub system_without_fault : (s : SystemParts) → IsShape s.shape → All IsCube s.goals → first_fault s ≡ None → IsSystem s × HasSystemLimits s
system_without_fault s shape cubes none =
    let initial = initial_checks s.shape s.initial in
    let transitions = for_each (transition_checks s.shape) s.transitions in
    let goals = for_each (goal_checks s.shape) s.goals in
    let p = passes_both (initial ++ transitions) goals none in
    let q = passes_both initial transitions p.0 in
    let constants = initial_without_fault s.shape s.initial q.0 in
    let transition : (n : ℕ) (t : Transition) → slice_get s.transitions n ≡ Some t → GoodTransition s.shape n t =
    λ n t known. transition_without_fault s.shape n t (each_passes (transition_checks s.shape) s.transitions q.1 n t known) in
    let goal : (n : ℕ) (g : Problem) → slice_get s.goals n ≡ Some g → GoodGoal s.shape n g =
    λ n g known. goal_without_fault s.shape n g (from_known IsCube s.goals cubes n g known) (each_passes (goal_checks s.shape) s.goals p.1 n g known) in (
      record {
        shape = shape;
        initial_for_each = constants.for_each_variable;
        initial_sorts = constants.sorts;
        transitions = all_from_each (IsTransition s.shape) s.transitions (λ n t known. (transition n t known).fits);
        goals = all_from_each (Fits s.shape) s.goals (λ n g known. (goal n g known).fits);
        cubes = cubes;
      },
      record {
        transitions = few_from_each s.transitions 256 (λ n t known. (transition n t known).few);
        each_transition = all_from_each HasTransitionLimits s.transitions (λ n t known. (transition n t known).limits);
        goals = few_from_each s.goals 64 (λ n g known. (goal n g known).few);
        each_goal = all_from_each HasGoalLimits s.goals (λ n g known. (goal n g known).limits);
      },
    )

pub no_fault_of_system : (s : SystemParts) → IsSystem s → HasSystemLimits s → first_fault s ≡ None
no_fault_of_system s ok limits =
    let initial = initial_checks s.shape s.initial in
    let transitions = for_each (transition_checks s.shape) s.transitions in
    let goals = for_each (goal_checks s.shape) s.goals in
    both_pass (initial ++ transitions) goals
    (both_pass initial transitions
    (initial_of_system s.shape s.initial (record { for_each_variable = ok.initial_for_each; sorts = ok.initial_sorts }))
    (all_pass (transition_checks s.shape) s.transitions (λ n t known. transition_of_system s.shape n t (record {
      few = (let within = slice_get_within s.transitions n t known in let few = limits.transitions in omega arith);
      limits = from_known HasTransitionLimits s.transitions limits.each_transition n t known;
      fits = from_known (IsTransition s.shape) s.transitions ok.transitions n t known;
    }))))
    (all_pass (goal_checks s.shape) s.goals (λ n g known. goal_of_system s.shape n g (from_known IsCube s.goals ok.cubes n g known)
    (let within = slice_get_within s.goals n g known in let few = limits.goals in omega arith)
    (from_known HasGoalLimits s.goals limits.each_goal n g known) (from_known (Fits s.shape) s.goals ok.goals n g known)))

-- the same of lists that are read as ones that are the same
pub accepted : (shape : ShapeParts) (initial constants : List (Option ConstId)) (transitions steps : List Transition) (goals cubes : List Problem)
    → constants ≡ initial → steps ≡ transitions → cubes ≡ goals → IsShape shape → All IsCube cubes
    → first_fault (record { shape = shape; initial = constants; transitions = steps; goals = cubes }) ≡ None
    → IsSystem (record { shape = shape; initial = initial; transitions = transitions; goals = goals })
    × HasSystemLimits (record { shape = shape; initial = initial; transitions = transitions; goals = goals })
accepted shape initial constants transitions steps goals cubes same_constants same_steps same_cubes ok are_cubes none =
    let P : SystemParts → Type 0 = λ s. IsSystem s × HasSystemLimits s in
    let same : record { shape = shape; initial = constants; transitions = steps; goals = cubes } ≡ record { shape = shape; initial = initial; transitions = transitions; goals = goals } =
    rw (same_constants, same_steps, same_cubes) in
    subst P same (system_without_fault (record { shape = shape; initial = constants; transitions = steps; goals = cubes }) ok are_cubes none)
