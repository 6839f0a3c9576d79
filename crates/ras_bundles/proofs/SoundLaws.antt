-- In the numbers of a plain system nothing is wrong.
use Rattle.std.proofs.Common.{◌≡◌, ℕ, ◌<◌, ◌≤◌, Bool, true, false, ◌&&◌, List, [], ◌∷◌, length, map, get_or, take, nat_eq, nat_lt, sym, ap, ◌∙◌, subst, refl, arith, eq-eqb}
use Rattle.std.specs.Prelude.{Option, Some, None, All, slice_get, not, flat_map}
use Rattle.std.specs.List.{list_any, list_all}
use Rattle.std.proofs.lemmas.Bool.{le-ltb, lt-ltb, and_from, ne_eqb}
use Rattle.std.proofs.lemmas.List.{length-map}
use Rattle.std.proofs.lemmas.Option.{slice_get_within, slice_get-get_or, same_Some}
use Rattle.ras_logic.specs.declared.ids.SortId.{SortId}
use Rattle.ras_logic.specs.declared.ids.ConstId.{ConstId}
use Rattle.ras_logic.specs.declared.ids.RelId.{RelId}
use Rattle.ras_logic.specs.declared.literal.Literal.{Literal}
use Rattle.ras_logic.specs.declared.problem.Problem.{Problem}
use Rattle.ras_logic.specs.Schemas.{IsSort, HasSorts}
use Rattle.ras_logic.specs.Shapes.{ShapeParts, IsRelation}
use Rattle.ras_logic.specs.Formulas.{LiteralFits, Fits, IsCube}
use Rattle.ras_logic.proofs.Clashes.{from_known}
use Rattle.ras_system.specs.declared.update.Update.{Update}
use Rattle.ras_system.specs.Systems.{SystemParts, IsTransition, UpdateFits, update_literal}
use Rattle.ras_system.specs.SystemFaults.{HasTransitionLimits, HasGoalLimits, is_same_target}
use Rattle.ras_system.specs.Known.{is_known_literal, is_well_sorted}
use Rattle.ras_system.proofs.Passing.{test_from_all, fresh_from_pairs}
use Rattle.ras_system.proofs.KnownTerms.{true-one_sort, fits-known, fits-sorted}
use Rattle.ras_bundles.specs.declared.system_lines.FunctionLine.{FunctionLine}
use Rattle.ras_bundles.specs.declared.system_lines.VariableLine.{VariableLine}
use Rattle.ras_bundles.specs.declared.system_lines.UpdateLine.{UpdateLine}
use Rattle.ras_bundles.specs.declared.system_lines.TransitionLines.{TransitionLines}
use Rattle.ras_bundles.specs.declared.system_lines.SystemLines.{SystemLines}
use Rattle.ras_bundles.specs.Numbers.{disjunct_cube, transition_numbers, numbers_of, function_named, sort_named, constant_named, variable_sort, variable_initial, literals_of, update_named, transition_named, shape_named, system_named}
use Rattle.ras_bundles.specs.Bundles.{IsPlainSystem}
use Rattle.ras_bundles.specs.Checks.{first_of, count_checks, function_checks, constant_checks, is_known_initial, is_sorted_initial, variable_checks, cube_checks, guard_checks, update_checks, each, transition_checks, shape_checks, step_checks, line_checks, first_fault}
use Rattle.std.proofs.lemmas.List.{take-map}
use Rattle.ras_logic.proofs.ByPlace.{map-at}
use Rattle.ras_bundles.proofs.LineLaws.{AllPass, none_first, both_pass, all_pass, pass_lists, pass_checks}
use Rattle.ras_bundles.proofs.Walks.{no_cycle_closed}
use Rattle.ras_bundles.proofs.NamedLaws.{named_back}
use Rattle.ras_bundles.proofs.CompleteLaws.{IsDenoted, list_any-mapped, targets_differ}

true-not : (b : Bool) → b ≡ true → not b ≡ false
true-not b h = rw h refl

count_passes : (limit n : ℕ) → n ≤ limit → first_of (count_checks limit n) ≡ None
count_passes limit n le = pass_checks (count_checks limit n) (le-ltb limit n le, tt)

module _ (l : SystemLines) (d : IsDenoted l) where
  abbrev h : IsPlainSystem (system_named l)
  h = d.plain

  function_passes : (k : ℕ) (f : FunctionLine) → slice_get l.functions k ≡ Some f → first_of (function_checks l k f) ≡ None
  function_passes k f at =
      let sorts : HasSorts l.sorts (function_named f) = from_known (HasSorts l.sorts) (map function_named l.functions) h.system.shape.schema.functions k (function_named f) (map-at function_named l.functions k f at) in
      pass_checks (function_checks l k f) (true-not (nat_lt f.source l.sorts && nat_lt f.target l.sorts) (and_from (nat_lt f.source l.sorts) (nat_lt f.target l.sorts) (lt-ltb f.source l.sorts sorts.0) (lt-ltb f.target l.sorts sorts.1)), (no_cycle_closed l.sorts l.sorts l.functions k f h.system.shape.schema.acyclic at, tt))

  constants_pass : first_of (constant_checks l) ≡ None
  constants_pass =
      let known : list_all (λ (n : ℕ). nat_lt n l.sorts) l.constants.sorts ≡ true =
      test_from_all (λ (n : ℕ). nat_lt n l.sorts) (λ n. IsSort l.sorts (sort_named n)) (λ n lt. lt-ltb n l.sorts lt) l.constants.sorts
      (λ k e lt. from_named k e lt) in
      pass_checks (constant_checks l) (le-ltb 256 (length l.constants.sorts) (let n = h.schema.constants in omega (arith, n, length-map l.constants.sorts sort_named)), (true-not (list_all (λ (n : ℕ). nat_lt n l.sorts) l.constants.sorts) known, tt))
    where
      from_named : (k e : ℕ) → k < length l.constants.sorts → IsSort l.sorts (sort_named (get_or l.constants.sorts k e))
      from_named k e lt =
          from_known (IsSort l.sorts) (map sort_named l.constants.sorts) h.system.shape.schema.constants k (sort_named (get_or l.constants.sorts k e))
          (map-at sort_named l.constants.sorts k (get_or l.constants.sorts k e) (slice_get-get_or l.constants.sorts k e lt))

  initial_known : (sort : ℕ) (i : Option ℕ) → ((c : ConstId) → constant_named i ≡ Some c → slice_get (map sort_named l.constants.sorts) c.n ≡ Some (sort_named sort))
      → (is_known_initial l i ≡ true) × (is_sorted_initial l sort i ≡ true)
  initial_known sort None sorted = (refl, refl)
  initial_known sort (Some m) sorted =
      let at = sorted (record { n = m }) refl in
      let within = slice_get_within (map sort_named l.constants.sorts) m (sort_named sort) at in
      (lt-ltb m (length l.constants.sorts) (omega (arith, within, length-map l.constants.sorts sort_named)), true-one_sort (Some (sort_named sort)) (slice_get (map sort_named l.constants.sorts) m) (sort_named sort) refl at)

  variable_passes : (k : ℕ) (v : VariableLine) → slice_get l.variables k ≡ Some v → first_of (variable_checks l v) ≡ None
  variable_passes k v at =
      let var = map-at variable_sort l.variables k v at in
      let sort : v.sort < l.sorts = from_known (IsSort l.sorts) (map variable_sort l.variables) h.system.shape.vars k (variable_sort v) var in
      let initial = initial_known v.sort v.initial (λ c e. h.system.initial_sorts k c (variable_sort v) (map-at variable_initial l.variables k v at ∙ ap (λ (o : Option ConstId). Some o) e) var) in
      pass_checks (variable_checks l v) (true-not (nat_lt v.sort l.sorts && is_known_initial l v.initial) (and_from (nat_lt v.sort l.sorts) (is_known_initial l v.initial) (lt-ltb v.sort l.sorts sort) initial.0), (true-not (is_sorted_initial l v.sort v.initial) initial.1, tt))

  shape_passes : AllPass (shape_checks l)
  shape_passes = (
    refl,
    (
      count_passes 64 l.sorts h.schema.sorts,
      both_pass (count_checks 256 (length l.functions) ∷ each (function_checks l) l.functions) (constant_checks l ∷ (count_checks 64 (length l.variables) ∷ each (λ _. variable_checks l) l.variables))
          (count_passes 256 (length l.functions) (let n = h.schema.functions in omega (arith, n, length-map l.functions function_named)), all_pass (function_checks l) l.functions function_passes)
          (constants_pass, (count_passes 64 (length l.variables) (let n = h.shape.vars in omega (arith, n, length-map l.variables variable_sort)), all_pass (λ _. variable_checks l) l.variables variable_passes)),
    ),
  )

  abbrev shape : ShapeParts
  shape = shape_named l

  cube_passes : (c : Problem) → length c.literals ≤ 128 → c.rows ≡ [] → All (LiteralFits shape [] []) c.literals → first_of (cube_checks shape c) ≡ None
  cube_passes c few none fits =
      let known = test_from_all (is_known_literal shape [] []) (LiteralFits shape [] []) (fits-known shape [] []) c.literals fits in
      let sorted = test_from_all (is_well_sorted shape [] []) (LiteralFits shape [] []) (fits-sorted shape [] []) c.literals fits in
      pass_checks (cube_checks shape c) (
        le-ltb 128 (length c.literals) few,
        (
          true-not (nat_eq (length c.rows) 0 && list_all (is_known_literal shape [] []) c.literals)
              (and_from (nat_eq (length c.rows) 0) (list_all (is_known_literal shape [] []) c.literals) (eq-eqb (length c.rows) 0 (ap length none)) known),
          (true-not (list_all (is_well_sorted shape [] []) c.literals) sorted, tt),
        ),
      )

  module _ (k : ℕ) (t : TransitionLines) (at : slice_get l.transitions k ≡ Some t) where
    fits : IsTransition shape (transition_named t)
    fits = from_known (IsTransition shape) (map transition_named l.transitions) h.system.transitions k (transition_named t) (map-at transition_named l.transitions k t at)

    limits : HasTransitionLimits (transition_named t)
    limits = from_known HasTransitionLimits (map transition_named l.transitions) h.limits.each_transition k (transition_named t) (map-at transition_named l.transitions k t at)

    -- the cubes of the guard are those of its literals
    guard_back : map disjunct_cube (map literals_of t.guard) ≡ t.guard
    guard_back =
        let same : map transition_numbers (map transition_named l.transitions) ≡ l.transitions = ap (λ (x : SystemLines). x.transitions) d.numbers in
        let here : slice_get l.transitions k ≡ Some (transition_numbers (transition_named t)) =
        subst (λ (ts : List TransitionLines). slice_get ts k ≡ Some (transition_numbers (transition_named t))) same
        (map-at transition_numbers (map transition_named l.transitions) k (transition_named t) (map-at transition_named l.transitions k t at)) in
        ap (λ (x : TransitionLines). x.guard) (same_Some (transition_numbers (transition_named t)) t (sym here ∙ at))

    no_rows : (j : ℕ) (c : Problem) → slice_get t.guard j ≡ Some c → c.rows ≡ []
    no_rows j c c_at =
        let here : slice_get t.guard j ≡ Some (disjunct_cube c.literals) =
        subst (λ (cs : List Problem). slice_get cs j ≡ Some (disjunct_cube c.literals)) guard_back (map-at disjunct_cube (map literals_of t.guard) j c.literals (map-at literals_of t.guard j c c_at)) in
        sym (ap (λ (p : Problem). p.rows) (same_Some (disjunct_cube c.literals) c (sym here ∙ c_at)))

    disjunct_passes : (j : ℕ) (c : Problem) → slice_get t.guard j ≡ Some c → first_of (cube_checks shape c) ≡ None
    disjunct_passes j c c_at =
        let there = map-at literals_of t.guard j c c_at in
        cube_passes c (from_known (λ (ls : List Literal). length ls ≤ 128) (map literals_of t.guard) limits.disjuncts j c.literals there) (no_rows j c c_at)
        (from_known (All (LiteralFits shape [] [])) (map literals_of t.guard) fits.guard j c.literals there)

    update_passes : (j : ℕ) (u : UpdateLine) → slice_get t.updates j ≡ Some u → first_of (update_checks shape t j u) ≡ None
    update_passes j u u_at =
        let there = map-at update_named t.updates j u u_at in
        let literal = update_literal (update_named u) in
        let test : Update → Update → Bool = λ e v. is_same_target e.target v.target in
        let fit : LiteralFits shape [] [] literal = from_known (UpdateFits shape [] []) (map update_named t.updates) fits.updates j (update_named u) there in
        let fresh : list_any (λ (e : Update). test e (update_named u)) (take j (map update_named t.updates)) ≡ false =
        fresh_from_pairs test (λ (e : Update) (v : Update). e.target ≡ v.target → ⊥) targets_differ (map update_named t.updates) fits.once j (update_named u) there in
        pass_checks (update_checks shape t j u) (
          true-not (is_known_literal shape [] [] literal) (fits-known shape [] [] literal fit),
          (
            true-not (is_well_sorted shape [] [] literal) (fits-sorted shape [] [] literal fit),
            (
              sym (list_any-mapped (λ (e : Update). test e (update_named u)) update_named (take j t.updates))
                  ∙ sym (ap (list_any (λ (e : Update). test e (update_named u))) (take-map update_named j t.updates)) ∙ fresh,
              tt,
            ),
          ),
        )

    transition_passes : AllPass (transition_checks shape t)
    transition_passes =
        let as_many : length (map literals_of t.guard) ≡ length t.guard = length-map t.guard literals_of in
        both_pass (guard_checks t ∷ each (λ _. cube_checks shape) t.guard) ([] ∷ each (update_checks shape t) t.updates)
        (pass_checks (guard_checks t) (le-ltb 64 (length t.guard) (let n = limits.guard in omega (arith, n, as_many)), (ne_eqb (length t.guard) 0 (λ none. let n = fits.some_disjunct in omega (arith, n, none, as_many)), tt)), all_pass (λ _. cube_checks shape) t.guard disjunct_passes)
        (refl, all_pass (update_checks shape t) t.updates update_passes)

  no_relation : (rows : List RelId) → All (IsRelation shape) rows → rows ≡ []
  no_relation [] all = refl
  no_relation (r ∷ rows) all = absurd (let lt : r.n < 0 = all 0 r (omega arith) in omega (arith, lt))

  goal_passes : (k : ℕ) (g : Problem) → slice_get l.goals k ≡ Some g → first_of (cube_checks shape g) ≡ None
  goal_passes k g at =
      let fit : Fits shape g = from_known (Fits shape) l.goals h.system.goals k g at in
      let none : g.rows ≡ [] = no_relation g.rows fit.rows in
      let few : HasGoalLimits g = from_known HasGoalLimits l.goals h.limits.each_goal k g at in
      let params : g.params ≡ [] = (from_known IsCube l.goals h.system.cubes k g at).none in
      cube_passes g few.literals none
      (subst (λ (ps : List SortId). All (LiteralFits shape [] ps) g.literals) params (subst (λ (rs : List RelId). All (LiteralFits shape rs g.params) g.literals) none fit.literals))

  steps_pass : AllPass (step_checks shape l)
  steps_pass =
      both_pass (count_checks 256 (length l.transitions) ∷ flat_map (transition_checks shape) l.transitions) (count_checks 64 (length l.goals) ∷ each (λ _. cube_checks shape) l.goals)
      (count_passes 256 (length l.transitions) (let n = h.limits.transitions in omega (arith, n, length-map l.transitions transition_named)), pass_lists (transition_checks shape) l.transitions transition_passes)
      (count_passes 64 (length l.goals) h.limits.goals, all_pass (λ _. cube_checks shape) l.goals goal_passes)

  pub none_is_first : first_fault l ≡ None
  none_is_first = none_first 1 (line_checks l) (both_pass (shape_checks l) (step_checks shape l) shape_passes steps_pass)

-- in the numbers of a plain system nothing is wrong
pub sound : (s : SystemParts) → IsPlainSystem s → first_fault (numbers_of s) ≡ None
sound s h = none_is_first (numbers_of s) (record { plain = subst IsPlainSystem (sym (named_back s h)) h; numbers = ap numbers_of (named_back s h) })
