-- Where the checks of declared names pass, the names are new.
use Rattle.std.proofs.Common.{◌≡◌, ℕ, zero, suc, ◌+◌, ◌<◌, ◌≤◌, false, List, [], ◌∷◌, ◌++◌, length, take, map, get_or, refl, sym, ◌∙◌, ap, subst, arith, ⊎_elim, inl, inr, append_assoc}
use Rattle.std.specs.Prelude.{◌⊎◌, Option, Some, None, slice_get, All, Contains, nat_le}
use Rattle.std.proofs.lemmas.Bool.{cases_lt, le-leb}
use Rattle.std.proofs.lemmas.Option.{slice_get-get_or}
use Rattle.ras_logic.proofs.ByPlace.{all-from, at_take, contains-at, map-at, map_from, no_true, take_at}
use Rattle.ras_syntax.specs.Grammar as grammar
use Rattle.ras_syntax.specs.Grammar.{Text}
use Rattle.ras_names.specs.declared.names.RelNames.{RelNames}
use Rattle.ras_names.specs.declared.names.StepNames.{StepNames}
use Rattle.ras_names.specs.declared.names.GoalNames.{GoalNames}
use Rattle.ras_names.specs.declared.names.Names.{Names}
use Rattle.ras_names.specs.declared.spec_fault.SpecKind.TheVariants.{TooMany, Cycle, RepeatedTarget}
use Rattle.ras_names.specs.Lists.{HasNumber, AreDifferent}
use Rattle.ras_names.specs.FileNames.{names_of, names_of_rows, names_of_relation, names_of_step, names_of_goal}
use Rattle.ras_names.specs.NewNames as new
use Rattle.ras_names.specs.NewNames.{shared_names, AreNew, AreNewNames}
use Rattle.ras_names.specs.Placed as placed
use Rattle.ras_names.specs.Placed.{Name, Declared, columns}
use Rattle.ras_names.specs.Unplaced.{relation_of, row_of, each_of, step_of, goal_of, file_of}
use Rattle.ras_names.specs.Checks.{Check, check, for_each, for_each_from, is_among, texts, declared_texts, new_check, declared_checks, used_check}
use Rattle.ras_names.specs.TermChecks.{Scope, function_texts, guard_checks}
use Rattle.ras_names.specs.StepChecks.{relation_texts, row_checks, param_checks, update_checks, case_checks, case_count, with_row, each_checks, inside_checks}
use Rattle.ras_names.specs.FileChecks as checks
use Rattle.ras_names.specs.FileChecks.{sort_checks, function_checks, constant_checks, initial_checks, variable_checks, column_checks, relation_checks, above_functions, above_constants, above_variables, above_relations, above_steps, step_checks, goal_count, goal_checks, closes_cycle}
use Rattle.ras_names.proofs.Numbered.{in_left, in_right, in_either_at, AreNumbered}
use Rattle.ras_names.proofs.Passing.{Passes, passed_first, passed_both, passed_each}
use Rattle.ras_names.proofs.Among.{among_at, map-map}
use Rattle.ras_names.proofs.NameLists.{both, columns_are, relations_above, step_texts, steps_above, shared_above}
use Rattle.ras_names.proofs.PassSteps.{rows_are, params_are}

pub numbered-different : (names : List Text) → AreNumbered names → AreDifferent names
numbered-different names h i j d lt l e =
    let one : slice_get names i ≡ Some (get_or names i d) = slice_get-get_or names i d (omega (arith, lt, l)) in
    let other : slice_get names j ≡ Some (get_or names j d) = slice_get-get_or names j d l in
    let same : i ≡ j = h (get_or names j d) i j (one ∙ ap (λ (t : Text). Some t) e) other in absurd (omega (arith, lt, same))

-- names one by one new below others
pub fresh-numbered : {X : Type 0} (key : X → Text) (above : List Text) (xs : List X) → AreNumbered above
    → ((k : ℕ) (x : X) → slice_get xs k ≡ Some x → is_among (above ++ map key (take k xs)) (key x) ≡ false) → AreNumbered (above ++ map key xs)
fresh-numbered {X} key above xs numbered each name i j a b = go (in_either_at above (map key xs) i name a) (in_either_at above (map key xs) j name b)
  where
    old : (k : ℕ) (x : X) (n : ℕ) → slice_get xs k ≡ Some x → key x ≡ name → HasNumber above name n → ⊥
    old k x n at e h =
        let number : HasNumber (above ++ map key (take k xs)) (key x) n = in_left above (map key (take k xs)) n (key x) (h ∙ ap (λ (t : Text). Some t) (sym e)) in
        no_true _ (among_at (above ++ map key (take k xs)) (key x) n number) (each k x at)

    later : (k : ℕ) (x : X) (m : ℕ) (y : X) → slice_get xs k ≡ Some x → key x ≡ name → slice_get xs m ≡ Some y → key y ≡ name → k < m → ⊥
    later k x m y at e y_at f lt =
        let number : HasNumber (above ++ map key (take m xs)) (key y) (length above + k) =
        in_right above (map key (take m xs)) k (key y) (map-at key (take m xs) k x (at_take m xs k x lt at) ∙ ap (λ (t : Text). Some t) (e ∙ sym f)) in
        no_true _ (among_at (above ++ map key (take m xs)) (key y) (length above + k) number) (each m y y_at)

    go : ((slice_get above i ≡ Some name) ⊎ ((k : ℕ) × (i ≡ length above + k) × (slice_get (map key xs) k ≡ Some name)))
        → ((slice_get above j ≡ Some name) ⊎ ((k : ℕ) × (j ≡ length above + k) × (slice_get (map key xs) k ≡ Some name))) → i ≡ j
    go (inl h) (inl k) = numbered name i j h k
    go (inl h) (inr k) = let w = map_from key xs k.0 name k.2 in absurd (old k.0 w.0 i w.1 w.2 h)
    go (inr h) (inl k) = let w = map_from key xs h.0 name h.2 in absurd (old h.0 w.0 j w.1 w.2 k)
    go (inr h) (inr k) =
        let w = map_from key xs h.0 name h.2 in
        let v = map_from key xs k.0 name k.2 in
        ⊎_elim (λ lt. absurd (later h.0 w.0 k.0 v.0 w.1 w.2 v.1 v.2 lt))
        (λ ge. ⊎_elim (λ gt. absurd (later k.0 v.0 h.0 w.0 v.1 v.2 w.1 w.2 gt)) (λ le. omega (arith, ge, le, h.1, k.1)) (cases_lt k.0 h.0)) (cases_lt h.0 k.0)

element_at : {X : Type 0} (xs : List X) (k : ℕ) → k < length xs → (x : X) × (slice_get xs k ≡ Some x)
element_at [] k lt = absurd (omega (arith, lt))
element_at (x ∷ xs) zero lt = (x, refl)
element_at (x ∷ xs) (suc k) lt = element_at xs k (omega (arith, lt))

-- where no element is the first beyond the limit
pub within_limit : {X : Type 0} (limit : ℕ) (xs : List X) → ((k : ℕ) (x : X) → slice_get xs k ≡ Some x → nat_le limit k ≡ false) → length xs ≤ limit
within_limit limit xs each =
    ⊎_elim (λ more. let x = element_at xs limit more in absurd (no_true _ (le-leb limit limit (omega arith)) (each limit x.0 x.1))) (λ le. le) (cases_lt limit (length xs))

-- what the checks of declared names of one kind give
pub record IsCounted {X : Type 0} (limit : ℕ) (key : X → Text) (above : List Text) (xs : List X) : Type 0 where
  pub numbered : AreNumbered (above ++ map key xs)
  pub within : length xs ≤ limit

pub counted : {X : Type 0} (limit : ℕ) (key : X → Text) (name : X → Name) (above : List Text) (xs : List X) → ((x : X) → (name x).text ≡ key x) → AreNumbered above
    → ((k : ℕ) (x : X) → slice_get xs k ≡ Some x → Passes (declared_checks limit k (above ++ map key (take k xs)) (name x))) → IsCounted limit key above xs
counted {X} limit key name above xs same numbered each =
    let parts : (k : ℕ) (x : X) → slice_get xs k ≡ Some x → (nat_le limit k ≡ false) × (is_among (above ++ map key (take k xs)) (key x) ≡ false) = λ k x at.
    let a = passed_first (check (name x).at TooMany (nat_le limit k)) (new_check (above ++ map key (take k xs)) (name x) ∷ []) (each k x at) in
    let b = passed_first (new_check (above ++ map key (take k xs)) (name x)) [] a.1 in
    (a.0, subst (λ (t : Text). is_among (above ++ map key (take k xs)) t ≡ false) (same x) b.0) in record {
      numbered = fresh-numbered key above xs numbered (λ k x at. (parts k x at).1);
      within = within_limit limit xs (λ k x at. (parts k x at).0);
    }

no_names : AreNumbered []
no_names name i j a b = absurd (let e : ◌≡◌ {A = Option Text} None (Some name) = a in cc)

-- all checks of a file
pub record IsPassed (p : placed.File) : Type 0 where
  pub sorts : Passes (for_each (sort_checks p) p.sorts)
  pub functions : Passes (for_each (function_checks p) p.functions)
  pub constants : Passes (for_each (constant_checks p) p.constants)
  pub variables : Passes (for_each (variable_checks p) p.variables)
  pub relations : Passes (for_each (relation_checks p) p.relations)
  pub steps : Passes (for_each (step_checks p) p.steps)
  pub goals : Passes (for_each (goal_checks p) p.goals)

pub passed : (p : placed.File) → Passes (checks.checks p) → IsPassed p
passed p h =
    let goals : List Check = for_each (goal_checks p) p.goals in
    let steps : List Check = for_each (step_checks p) p.steps ++ goals in
    let relations : List Check = for_each (relation_checks p) p.relations ++ steps in
    let variables : List Check = for_each (variable_checks p) p.variables ++ relations in
    let constants : List Check = for_each (constant_checks p) p.constants ++ variables in
    let functions : List Check = for_each (function_checks p) p.functions ++ constants in
    let a = passed_both (for_each (sort_checks p) p.sorts) functions h in
    let b = passed_both (for_each (function_checks p) p.functions) constants a.1 in
    let c = passed_both (for_each (constant_checks p) p.constants) variables b.1 in
    let d = passed_both (for_each (variable_checks p) p.variables) relations c.1 in
    let e = passed_both (for_each (relation_checks p) p.relations) steps d.1 in
    let f = passed_both (for_each (step_checks p) p.steps) goals e.1 in
    record { sorts = a.0; functions = b.0; constants = c.0; variables = d.0; relations = e.0; steps = f.0; goals = f.1 }

module _ (p : placed.File) (h : IsPassed p) where
  pub sorts : IsCounted 64 (λ (n : Name). n.text) [] p.sorts
  sorts = counted 64 (λ (n : Name). n.text) (λ n. n) [] p.sorts (λ n. refl) no_names (λ k s at. passed_each (sort_checks p) p.sorts h.sorts k s at)

  pub functions : IsCounted 256 (λ (f : placed.Function). f.name.text) (texts p.sorts) p.functions
  functions = counted 256 (λ (f : placed.Function). f.name.text) (λ f. f.name) (texts p.sorts) p.functions (λ f. refl) sorts.numbered
      (λ k f at. (passed_both (declared_checks 256 k (above_functions p ++ function_texts (take k p.functions)) f.name)
      (used_check (texts p.sorts) f.source ∷ used_check (texts p.sorts) f.target ∷ check f.name.at (Cycle (record { n = k })) (closes_cycle p (take k p.functions) f) ∷ [])
      (passed_each (function_checks p) p.functions h.functions k f at)).0)

  pub constants : IsCounted 256 (λ (d : Declared). d.name.text) (above_constants p) p.constants
  constants = counted 256 (λ (d : Declared). d.name.text) (λ d. d.name) (above_constants p) p.constants (λ d. refl) functions.numbered
      (λ k c at. (passed_both (declared_checks 256 k (above_constants p ++ declared_texts (take k p.constants)) c.name) (used_check (texts p.sorts) c.of ∷ [])
      (passed_each (constant_checks p) p.constants h.constants k c at)).0)

  pub variables : IsCounted 64 (λ (v : placed.Variable). v.name.text) (above_variables p) p.variables
  variables = counted 64 (λ (v : placed.Variable). v.name.text) (λ v. v.name) (above_variables p) p.variables (λ v. refl) constants.numbered
      (λ k v at. (passed_both (declared_checks 64 k (above_variables p ++ map (λ (w : placed.Variable). w.name.text) (take k p.variables)) v.name)
      (used_check (texts p.sorts) v.sort ∷ initial_checks p v.sort v.initial) (passed_each (variable_checks p) p.variables h.variables k v at)).0)

  pub relations : IsCounted 16 (λ (r : placed.Relation). r.name.text) (above_relations p) p.relations
  relations = counted 16 (λ (r : placed.Relation). r.name.text) (λ r. r.name) (above_relations p) p.relations (λ r. refl) variables.numbered
      (λ k r at. (passed_both (declared_checks 16 k (above_relations p ++ map (λ (q : placed.Relation). q.name.text) (take k p.relations)) r.name)
      (for_each (column_checks p (columns r)) (columns r)) (passed_each (relation_checks p) p.relations h.relations k r at)).0)

  pub steps : IsCounted 256 (λ (s : placed.Step). s.name.text) (above_steps p) p.steps
  steps = counted 256 (λ (s : placed.Step). s.name.text) (λ s. s.name) (above_steps p) p.steps (λ s. refl) relations.numbered
      (λ k s at. (passed_both (declared_checks 256 k (checks.above_step p k) s.name) (inside_checks p (checks.above_step p (k + 1)) s) (passed_each (step_checks p) p.steps h.steps k s at)).0)

  -- the columns of a relation
  pub columns-counted : (k : ℕ) (r : placed.Relation) → slice_get p.relations k ≡ Some r → IsCounted 32 (λ (d : Declared). d.name.text) [] (columns r)
  columns-counted k r at =
      let of = (passed_both (declared_checks 16 k (above_relations p ++ map (λ (q : placed.Relation). q.name.text) (take k p.relations)) r.name)
      (for_each (column_checks p (columns r)) (columns r)) (passed_each (relation_checks p) p.relations h.relations k r at)).1 in
      counted 32 (λ (d : Declared). d.name.text) (λ d. d.name) [] (columns r) (λ d. refl) no_names
      (λ j c c_at. (passed_both (declared_checks 32 j (declared_texts (take j (columns r))) c.name) (used_check (texts p.sorts) c.of ∷ []) (passed_each (column_checks p (columns r)) (columns r) of j c c_at)).0)

  -- the shared names above the first steps
  pub above-numbered : (n : ℕ) → AreNumbered (checks.above_step p n)
  above-numbered n = fresh-numbered (λ (s : placed.Step). s.name.text) (above_steps p) (take n p.steps) relations.numbered (λ k s at.
      let t = take_at n p.steps k s at in
      subst (λ (ss : List placed.Step). is_among (above_steps p ++ map (λ (q : placed.Step). q.name.text) ss) s.name.text ≡ false) (sym (take-take n k p.steps t.1)) (step_fresh k s t.0))
    where
      take-take : (n k : ℕ) (ss : List placed.Step) → k < n → take k (take n ss) ≡ take k ss
      take-take n zero ss lt = refl
      take-take zero (suc k) ss lt = absurd (omega (arith, lt))
      take-take (suc n) (suc k) [] lt = refl
      take-take (suc n) (suc k) (s ∷ ss) lt = ap (λ (z : List placed.Step). s ∷ z) (take-take n k ss (omega (arith, lt)))

      step_fresh : (k : ℕ) (s : placed.Step) → slice_get p.steps k ≡ Some s → is_among (checks.above_step p k) s.name.text ≡ false
      step_fresh k s at =
          let a = (passed_both (declared_checks 256 k (checks.above_step p k) s.name) (inside_checks p (checks.above_step p (k + 1)) s) (passed_each (step_checks p) p.steps h.steps k s at)).0 in
          let b = passed_first (check s.name.at TooMany (nat_le 256 k)) (new_check (checks.above_step p k) s.name ∷ []) a in
          (passed_first (new_check (checks.above_step p k) s.name) [] b.1).0

  -- the checks of the inside of a step
  pub record IsInside (above : List Text) (s : placed.Step) : Type 0 where
    pub rows : Passes (for_each (row_checks p above s.rows) s.rows)
    pub params : Passes (for_each (param_checks p (above ++ declared_texts s.rows) s.params) s.params)
    pub guard : Passes (guard_checks (record { file = p; rows = s.rows; params = s.params }) 0 s.guard)
    pub updates : Passes (for_each (update_checks (record { file = p; rows = s.rows; params = s.params }) s.updates) s.updates)
    pub eachs : Passes (for_each (each_checks (record { file = p; rows = s.rows; params = s.params }) (above ++ (declared_texts s.rows ++ declared_texts s.params)) s.eachs) s.eachs)

  pub inside : (k : ℕ) (s : placed.Step) → slice_get p.steps k ≡ Some s → IsInside (checks.above_step p (k + 1)) s
  inside k s at =
      let above : List Text = checks.above_step p (k + 1) in
      let scope : Scope = record { file = p; rows = s.rows; params = s.params } in
      let all = (passed_both (declared_checks 256 k (checks.above_step p k) s.name) (inside_checks p above s) (passed_each (step_checks p) p.steps h.steps k s at)).1 in
      let eachs : List Check = for_each (each_checks scope (above ++ (declared_texts s.rows ++ declared_texts s.params)) s.eachs) s.eachs in
      let updates : List Check = for_each (update_checks scope s.updates) s.updates ++ eachs in
      let guard : List Check = guard_checks scope 0 s.guard ++ updates in
      let params : List Check = for_each (param_checks p (above ++ declared_texts s.rows) s.params) s.params ++ guard in
      let a = passed_both (for_each (row_checks p above s.rows) s.rows) params all in
      let b = passed_both (for_each (param_checks p (above ++ declared_texts s.rows) s.params) s.params) guard a.1 in
      let c = passed_both (guard_checks scope 0 s.guard) updates b.1 in
      let d = passed_both (for_each (update_checks scope s.updates) s.updates) eachs c.1 in
      record { rows = a.0; params = b.0; guard = c.0; updates = d.0; eachs = d.1 }

  pub rows-counted : (above : List Text) (rows : List Declared) → AreNumbered above → Passes (for_each (row_checks p above rows) rows) → IsCounted 8 (λ (d : Declared). d.name.text) above rows
  rows-counted above rows numbered pass = counted 8 (λ (d : Declared). d.name.text) (λ d. d.name) above rows (λ d. refl) numbered
      (λ k r at. (passed_both (declared_checks 8 k (above ++ declared_texts (take k rows)) r.name) (used_check (relation_texts p) r.of ∷ []) (passed_each (row_checks p above rows) rows pass k r at)).0)

  pub params-counted : (above : List Text) (params : List Declared) → AreNumbered above → Passes (for_each (param_checks p above params) params) → IsCounted 16 (λ (d : Declared). d.name.text) above params
  params-counted above params numbered pass = counted 16 (λ (d : Declared). d.name.text) (λ d. d.name) above params (λ d. refl) numbered
      (λ k q at. (passed_both (declared_checks 16 k (above ++ declared_texts (take k params)) q.name) (used_check (texts p.sorts) q.of ∷ []) (passed_each (param_checks p above params) params pass k q at)).0)

  -- the checks of an `each`
  pub record IsEach (scope : Scope) (names : List Text) (eachs : List placed.Each) (k : ℕ) (e : placed.Each) : Type 0 where
    pub fresh : is_among names e.row.text ≡ false
    pub known : (used_check (relation_texts scope.file) e.relation).fails ≡ false
    pub once : is_among (map (λ (d : placed.Each). d.relation.text) (take k eachs)) e.relation.text ≡ false
    pub cases : Passes (for_each_from (case_count (take k eachs)) (case_checks (with_row scope e) e) (placed.cases e))

  pub each-parts : (scope : Scope) (names : List Text) (eachs : List placed.Each) (k : ℕ) (e : placed.Each) → Passes (each_checks scope names eachs k e) → IsEach scope names eachs k e
  each-parts scope names eachs k e pass =
      let first : Check = new_check names e.row in
      let second : Check = used_check (relation_texts scope.file) e.relation in
      let third : Check = check e.relation.at RepeatedTarget (is_among (map (λ (d : placed.Each). d.relation.text) (take k eachs)) e.relation.text) in
      let rest : List Check = for_each_from (case_count (take k eachs)) (case_checks (with_row scope e) e) (placed.cases e) in
      let a = passed_first first (second ∷ third ∷ rest) pass in
      let b = passed_first second (third ∷ rest) a.1 in
      let c = passed_first third rest b.1 in
      record { fresh = a.0; known = b.0; once = c.0; cases = c.1 }

  each-new : (above : List Text) (s : placed.Step) → Passes (for_each (each_checks (record { file = p; rows = s.rows; params = s.params }) above s.eachs) s.eachs)
      → All (λ (name : Text). Contains above name → ⊥) (map (λ (e : placed.Each). e.row.text) s.eachs)
  each-new above s pass = all-from (λ (name : Text). Contains above name → ⊥) (map (λ (e : placed.Each). e.row.text) s.eachs) (λ i name at c.
      let w = map_from (λ (e : placed.Each). e.row.text) s.eachs i name at in
      let scope : Scope = record { file = p; rows = s.rows; params = s.params } in
      let parts = each-parts scope above s.eachs i w.0 (passed_each (each_checks scope above s.eachs) s.eachs pass i w.0 w.1) in
      let found = contains-at above name c in
      no_true _ (among_at above w.0.row.text found.0 (found.1 ∙ ap (λ (t : Text). Some t) (sym w.2))) parts.fresh)

  abbrev all : Names
  all = names_of (file_of p)

  -- the inside of a step is new below its shared names
  step-new : (k : ℕ) (s : placed.Step) → slice_get p.steps k ≡ Some s
      → AreNew (checks.above_step p (k + 1)) (declared_texts s.rows ++ declared_texts s.params) (map (λ (e : placed.Each). e.row.text) s.eachs)
  step-new k s at =
      let above : List Text = checks.above_step p (k + 1) in
      let parts = inside k s at in
      let rows = rows-counted above s.rows (above-numbered (k + 1)) parts.rows in
      let params = params-counted (above ++ declared_texts s.rows) s.params rows.numbered parts.params in record {
        own_names = numbered-different (above ++ (declared_texts s.rows ++ declared_texts s.params))
            (subst AreNumbered (append_assoc above (declared_texts s.rows) (declared_texts s.params)) params.numbered);
        each_rows = each-new (above ++ (declared_texts s.rows ++ declared_texts s.params)) s parts.eachs;
      }

  step-names-new : (k : ℕ) (s : placed.Step) → slice_get p.steps k ≡ Some s
      → AreNew (new.above_step all k) ((names_of_step (step_of s)).rows ++ (names_of_step (step_of s)).params) (names_of_step (step_of s)).each
  step-names-new k s at =
      let own : (names_of_step (step_of s)).rows ++ (names_of_step (step_of s)).params ≡ declared_texts s.rows ++ declared_texts s.params =
      both (names_of_step (step_of s)).rows (declared_texts s.rows) (names_of_step (step_of s)).params (declared_texts s.params) (rows_are s.rows) (params_are s.params) in
      let eachs : (names_of_step (step_of s)).each ≡ map (λ (e : placed.Each). e.row.text) s.eachs = map-map (λ (e : grammar.Each). e.row) each_of s.eachs in
      subst (λ (z : List Text). AreNew z ((names_of_step (step_of s)).rows ++ (names_of_step (step_of s)).params) (names_of_step (step_of s)).each) (sym (steps_above p (k + 1)))
      (subst (λ (z : List Text). AreNew (checks.above_step p (k + 1)) z (names_of_step (step_of s)).each) (sym own)
      (subst (λ (z : List Text). AreNew (checks.above_step p (k + 1)) (declared_texts s.rows ++ declared_texts s.params) z) (sym eachs) (step-new k s at)))

  -- the rows of an unsafe item
  pub goal-rows : (k : ℕ) (g : placed.Goal) → slice_get p.goals k ≡ Some g → IsCounted 8 (λ (d : Declared). d.name.text) (checks.above_step p (length p.steps)) g.rows
  goal-rows k g at =
      let above : List Text = checks.above_step p (length p.steps) in
      rows-counted above g.rows (above-numbered (length p.steps))
      (passed_both (for_each (row_checks p above g.rows) g.rows) (guard_checks (record { file = p; rows = g.rows; params = [] }) (goal_count (take k p.goals)) g.guard) (passed_each (goal_checks p) p.goals h.goals k g at)).0

  goal-new : (k : ℕ) (g : placed.Goal) → slice_get p.goals k ≡ Some g → AreNew (shared_names all all.steps) (names_of_goal (goal_of g)).rows []
  goal-new k g at =
      let above : List Text = checks.above_step p (length p.steps) in
      record {
        own_names = numbered-different (shared_names all all.steps ++ names_of_rows (map row_of g.rows))
            (subst AreNumbered (sym (both (shared_names all all.steps) above (names_of_rows (map row_of g.rows)) (declared_texts g.rows) (shared_above p) (rows_are g.rows))) (goal-rows k g at).numbered);
        each_rows = λ i d lt. absurd (omega (arith, lt));
      }

  pub new-names : AreNewNames all
  new-names = record {
    shared = numbered-different (shared_names all all.steps)
        (subst AreNumbered (sym (both (new.declared_names all) (above_steps p) (map (λ (q : StepNames). q.name) all.steps) (map (λ (q : placed.Step). q.name.text) p.steps) (relations_above p) (step_texts p p.steps))) steps.numbered);
    columns = all-from (λ (r : RelNames). AreDifferent r.columns) all.relations (λ k r at.
        let w = map_from names_of_relation (map relation_of p.relations) k r at in
        let z = map_from relation_of p.relations k w.0 w.1 in
        let same : names_of_relation (relation_of z.0) ≡ r = ap names_of_relation z.2 ∙ w.2 in
        subst (λ (q : RelNames). AreDifferent q.columns) same
        (numbered-different (names_of_relation (relation_of z.0)).columns (subst AreNumbered (sym (columns_are z.0)) (columns-counted k z.0 z.1).numbered)));
    steps = λ k s at.
        let w = map_from names_of_step (map step_of p.steps) k s at in
        let z = map_from step_of p.steps k w.0 w.1 in
        let same : names_of_step (step_of z.0) ≡ s = ap names_of_step z.2 ∙ w.2 in
        subst (λ (q : StepNames). AreNew (new.above_step all k) (q.rows ++ q.params) q.each) same (step-names-new k z.0 z.1);
    goals = all-from (λ (g : GoalNames). AreNew (shared_names all all.steps) g.rows []) all.goals (λ k g at.
        let w = map_from names_of_goal (map goal_of p.goals) k g at in
        let z = map_from goal_of p.goals k w.0 w.1 in
        let same : names_of_goal (goal_of z.0) ≡ g = ap names_of_goal z.2 ∙ w.2 in
        subst (λ (q : GoalNames). AreNew (shared_names all all.steps) q.rows []) same (goal-new k z.0 z.1));
  }
