-- A file that denotes a system has no fault.
use Rattle.std.proofs.Common.{◌≡◌, ℕ, ◌+◌, ◌<◌, ◌≤◌, false, List, [], ◌∷◌, ◌++◌, length, take, map, refl, sym, ◌∙◌, subst, arith}
use Rattle.std.specs.Prelude.{Option, Some, None, slice_get, option_map, not, All, nat_le}
use Rattle.std.proofs.lemmas.List.{length-map, take-map}
use Rattle.std.proofs.lemmas.Option.{slice_get_within}
use Rattle.ras_logic.specs.declared.ids.SortId.{SortId}
use Rattle.ras_logic.specs.declared.ids.ConstId.{ConstId}
use Rattle.ras_logic.specs.declared.problem.Problem.{Problem}
use Rattle.ras_logic.specs.Formulas.{LiteralFits, Fits}
use Rattle.ras_logic.proofs.ByPlace.{map-at, map_from}
use Rattle.ras_system.specs.Systems.{SystemParts, IsTransition}
use Rattle.ras_system.specs.SystemFaults.{HasTransitionLimits, HasGoalLimits}
use Rattle.ras_syntax.specs.Grammar as grammar
use Rattle.ras_syntax.specs.Grammar.{Text}
use Rattle.ras_names.specs.declared.names.RelNames.{RelNames}
use Rattle.ras_names.specs.declared.names.StepNames.{StepNames}
use Rattle.ras_names.specs.declared.names.GoalNames.{GoalNames}
use Rattle.ras_names.specs.declared.names.Names.{Names}
use Rattle.ras_names.specs.declared.spec_fault.SpecFault.{SpecFault}
use Rattle.ras_names.specs.declared.spec_fault.SpecKind.TheVariants.{WrongSort, TooMany, Cycle}
use Rattle.ras_names.specs.Lists.{HasNumber, AreDifferent}
use Rattle.ras_names.specs.FileParts as parts
use Rattle.ras_names.specs.FileNames.{names_of, names_of_rows, names_of_relation, names_of_step, names_of_goal}
use Rattle.ras_names.specs.NewNames as new
use Rattle.ras_names.specs.NewNames.{relation_names, declared_names, shared_names, AreNew}
use Rattle.ras_names.specs.Terms as denoted
use Rattle.ras_names.specs.Terms.{ConjunctionDenotes}
use Rattle.ras_names.specs.Steps.{RowDenotes, StepDenotes, GoalDenotes}
use Rattle.ras_names.specs.Files.{IsSortNamed, FunctionDenotes, InitialDenotes, ColumnsDenote, FileDenotes}
use Rattle.ras_names.specs.Placed as placed
use Rattle.ras_names.specs.Placed.{Name, Declared, columns, disjuncts}
use Rattle.ras_names.specs.Unplaced.{sort_of, function_of, constant_of, variable_of, column_of, relation_of, row_of, conjunction_of, each_of, step_of, goal_of, file_of}
use Rattle.ras_names.specs.Checks.{Check, check, for_each, is_among, texts, declared_texts, declared_of, new_check, declared_checks, used_check}
use Rattle.ras_names.specs.TermChecks.{Scope, agree, function_texts, disjunct_checks, guard_checks}
use Rattle.ras_names.specs.StepChecks.{row_checks, inside_checks}
use Rattle.ras_names.specs.FileChecks as checks
use Rattle.ras_names.specs.FileChecks.{closes_cycle, sort_checks, function_checks, constant_checks, initial_checks, variable_checks, column_checks, relation_checks, above_functions, above_constants, above_variables, above_relations, above_steps, step_checks, goal_count, goal_checks, first_fault}
use Rattle.ras_names.proofs.Numbered.{AreNumbered, different-numbered}
use Rattle.ras_names.proofs.Together.{one_by_one-at, one_by_one-to, one_by_one-map, part_at}
use Rattle.ras_names.proofs.OneTerm.{IsClear}
use Rattle.ras_names.proofs.ClearNames.{all-at, goal-clear}
use Rattle.ras_names.proofs.ClearNames as clear
use Rattle.ras_names.proofs.NameLists.{both, sorts_are, constants_are, functions_above, constants_above, variables_above, relations_above, step_texts, steps_above, shared_above}
use Rattle.ras_names.proofs.Passing.{Passes, pass_first, pass_one, pass_both, pass_each, pass_each_from, not-passes}
use Rattle.ras_names.proofs.Among.{fresh, map-map, below}
use Rattle.ras_names.proofs.PassTerms.{declared_by, names, IsSortText, agree-good, some_not_none, IsFound, declared_found, disjunct-passes}
use Rattle.ras_names.proofs.PassSteps.{rows_are, params_are, sort_known, rows-pass}
use Rattle.ras_names.proofs.PassEach.{inside-passes}
use Rattle.ras_names.proofs.NoCycle.{no-cycle}

-- a name of a list of items is none of those before it
fresh-made : {X : Type 0} (key : X → Text) (above : List Text) (xs : List X) (k : ℕ) (x : X) → AreNumbered (above ++ map key xs) → slice_get xs k ≡ Some x
    → is_among (above ++ map key (take k xs)) (key x) ≡ false
fresh-made key above xs k x numbered at =
    subst (λ (ts : List Text). is_among (above ++ ts) (key x) ≡ false) (take-map key k xs) (fresh above (map key xs) k (key x) numbered (map-at key xs k x at))

declared-passes : (limit n count : ℕ) (known : List Text) (name : Name) → n < count → count ≤ limit → is_among known name.text ≡ false → Passes (declared_checks limit n known name)
declared-passes limit n count known name lt le none =
    pass_first (check name.at TooMany (nat_le limit n)) (new_check known name ∷ []) (below limit n count lt le) (pass_one (new_check known name) none)

module _ (p : placed.File) (system : SystemParts) (denotes : FileDenotes (file_of p) system (names_of (file_of p))) where
  abbrev all : Names
  all = names p system.shape (declared_by p system denotes)

  sorts-pass : Passes (for_each (sort_checks p) p.sorts)
  sorts-pass =
      pass_each (sort_checks p) p.sorts (λ k s at.
      declared-passes 64 k (length p.sorts) (texts (take k p.sorts)) s (slice_get_within p.sorts k s at)
      (let e : system.shape.schema.sorts ≡ length p.sorts = denotes.sorts ∙ length-map p.sorts sort_of in
      let le : system.shape.schema.sorts ≤ 64 = denotes.schema_limits.sorts in omega (arith, e, le))
      (fresh-made (λ (n : Name). n.text) [] p.sorts k s (subst AreNumbered (sorts_are p) (clear.sorts-numbered all denotes.new_names)) at))

  functions-pass : Passes (for_each (function_checks p) p.functions)
  functions-pass =
      pass_each (function_checks p) p.functions (λ k f at.
      let d = one_by_one-to (FunctionDenotes all) (map function_of p.functions) system.shape.schema.functions k (function_of f) denotes.functions (map-at function_of p.functions k f at) in
      let known : List Text = above_functions p ++ function_texts (take k p.functions) in
      let source : Check = used_check (texts p.sorts) f.source in
      let target : Check = used_check (texts p.sorts) f.target in
      let cycle : Check = check f.name.at (Cycle (record { n = k })) (closes_cycle p (take k p.functions) f) in
      pass_both (declared_checks 256 k known f.name) (source ∷ target ∷ cycle ∷ [])
      (declared-passes 256 k (length system.shape.schema.functions) known f.name (slice_get_within system.shape.schema.functions k d.0 d.1) denotes.schema_limits.functions
      (fresh-made (λ (g : placed.Function). g.name.text) (above_functions p) p.functions k f (subst AreNumbered (functions_above p) (clear.functions all denotes.new_names)) at))
      (pass_first source (target ∷ cycle ∷ []) (sort_known p system.shape (declared_by p system denotes) f.source d.0.source d.2.source)
      (pass_first target (cycle ∷ []) (sort_known p system.shape (declared_by p system denotes) f.target d.0.target d.2.target) (pass_one cycle (no-cycle p system denotes k f at)))))

  constants-pass : Passes (for_each (constant_checks p) p.constants)
  constants-pass =
      pass_each (constant_checks p) p.constants (λ k c at.
      let d = one_by_one-to (λ (x : grammar.Constant). IsSortNamed all x.sort) (map constant_of p.constants) system.shape.schema.constants k (constant_of c) denotes.constants (map-at constant_of p.constants k c at) in
      let known : List Text = above_constants p ++ declared_texts (take k p.constants) in
      pass_both (declared_checks 256 k known c.name) (used_check (texts p.sorts) c.of ∷ [])
      (declared-passes 256 k (length system.shape.schema.constants) known c.name (slice_get_within system.shape.schema.constants k d.0 d.1) denotes.schema_limits.constants
      (fresh-made (λ (x : Declared). x.name.text) (above_constants p) p.constants k c (subst AreNumbered (constants_above p) (clear.constants all denotes.new_names)) at))
      (pass_one (used_check (texts p.sorts) c.of) (sort_known p system.shape (declared_by p system denotes) c.of d.0 d.2)))

  initial-passes : (k : ℕ) (sort : Name) (s : SortId) → slice_get system.shape.vars k ≡ Some s → HasNumber all.sorts sort.text s.n → (i : Option placed.Initial) (o : Option ConstId)
      → slice_get system.initial k ≡ Some o → InitialDenotes all (option_map (λ (x : placed.Initial). x.constant.text) i) o → Passes (initial_checks p sort i)
  initial-passes k sort s s_at named None o o_at h = refl
  initial-passes k sort s s_at named (Some i) None o_at h = absurd h
  initial-passes k sort s s_at named (Some i) (Some c) o_at h =
      let number : HasNumber (declared_texts p.constants) i.constant.text c.n = subst (λ (ts : List Text). HasNumber ts i.constant.text c.n) (constants_are p) h in
      let w = map_from (λ (d : Declared). d.name.text) p.constants c.n i.constant.text number in
      let found : IsFound p.constants i.constant.text w.0 =
      declared_found p.constants c.n w.0 i.constant.text (subst AreNumbered (constants_are p) (clear.constants-numbered all denotes.new_names)) w.1 w.2 in
      let own : HasNumber all.sorts w.0.of.text s.n =
      one_by_one-at (λ (x : grammar.Constant). IsSortNamed all x.sort) (map constant_of p.constants) system.shape.schema.constants c.n (constant_of w.0) s denotes.constants (map-at constant_of p.constants c.n w.0 w.1) (denotes.is_system.initial_sorts k c s o_at s_at) in
      let used : Check = used_check (declared_texts p.constants) i.constant in
      let last : Check = check i.at WrongSort (not (agree (Some sort.text) (declared_of p.constants i.constant.text))) in
      pass_first used (last ∷ []) (not-passes _ found.among)
      (pass_one last (not-passes _ (agree-good p system.shape (declared_by p system denotes) (Some sort.text) (declared_of p.constants i.constant.text) s named (subst (λ (o : Option Text). IsSortText p system.shape (declared_by p system denotes) o s) (sym found.of) own)
      (λ n m. some_not_none (declared_of p.constants i.constant.text) w.0.of.text found.of m))))

  variables-pass : Passes (for_each (variable_checks p) p.variables)
  variables-pass =
      pass_each (variable_checks p) p.variables (λ k v at.
      let placed_at = map-at variable_of p.variables k v at in
      let d = one_by_one-to (λ (x : grammar.Variable). IsSortNamed all x.sort) (map variable_of p.variables) system.shape.vars k (variable_of v) denotes.variables placed_at in
      let i = one_by_one-to (λ (x : grammar.Variable). InitialDenotes all x.initial) (map variable_of p.variables) system.initial k (variable_of v) denotes.initial placed_at in
      let known : List Text = above_variables p ++ map (λ (w : placed.Variable). w.name.text) (take k p.variables) in
      let sort : Check = used_check (texts p.sorts) v.sort in
      pass_both (declared_checks 64 k known v.name) (sort ∷ initial_checks p v.sort v.initial)
      (declared-passes 64 k (length system.shape.vars) known v.name (slice_get_within system.shape.vars k d.0 d.1) denotes.shape_limits.vars
      (fresh-made (λ (w : placed.Variable). w.name.text) (above_variables p) p.variables k v (subst AreNumbered (variables_above p) (clear.variables all denotes.new_names)) at))
      (pass_first sort (initial_checks p v.sort v.initial) (sort_known p system.shape (declared_by p system denotes) v.sort d.0 d.2) (initial-passes k v.sort d.0 d.1 d.2 v.initial i.0 i.1 i.2)))

  relations-pass : Passes (for_each (relation_checks p) p.relations)
  relations-pass =
      pass_each (relation_checks p) p.relations (λ k r at.
      let placed_at = map-at relation_of p.relations k r at in
      let d = one_by_one-to (ColumnsDenote all) (map relation_of p.relations) system.shape.relations k (relation_of r) denotes.relations placed_at in
      let known : List Text = above_relations p ++ map (λ (q : placed.Relation). q.name.text) (take k p.relations) in
      let texts_are : (names_of_relation (relation_of r)).columns ≡ declared_texts (columns r) = map-map (λ (c : grammar.Column). c.name) column_of (columns r) in
      let numbered : AreNumbered (declared_texts (columns r)) =
      subst AreNumbered texts_are (different-numbered (names_of_relation (relation_of r)).columns
      (all-at (λ (q : RelNames). AreDifferent q.columns) all.relations k (names_of_relation (relation_of r)) denotes.new_names.columns (map-at names_of_relation (map relation_of p.relations) k (relation_of r) placed_at))) in
      pass_both (declared_checks 16 k known r.name) (for_each (column_checks p (columns r)) (columns r))
      (declared-passes 16 k (length system.shape.relations) known r.name (slice_get_within system.shape.relations k d.0 d.1) denotes.shape_limits.relations
      (fresh-made (λ (q : placed.Relation). q.name.text) (above_relations p) p.relations k r (subst AreNumbered (relations_above p) (clear.declared all denotes.new_names)) at))
      (pass_each (column_checks p (columns r)) (columns r) (λ j c c_at.
      let e = one_by_one-to (λ (x : grammar.Column). IsSortNamed all x.sort) (map column_of (columns r)) d.0 j (column_of c) d.2 (map-at column_of (columns r) j c c_at) in
      pass_both (declared_checks 32 j (declared_texts (take j (columns r))) c.name) (used_check (texts p.sorts) c.of ∷ [])
      (declared-passes 32 j (length d.0) (declared_texts (take j (columns r))) c.name (slice_get_within d.0 j e.0 e.1)
      (all-at (λ (sorts : List SortId). length sorts ≤ 32) system.shape.relations k d.0 denotes.shape_limits.columns d.1)
      (fresh-made (λ (x : Declared). x.name.text) [] (columns r) j c numbered c_at))
      (pass_one (used_check (texts p.sorts) c.of) (sort_known p system.shape (declared_by p system denotes) c.of e.0 e.2)))))

  steps-pass : Passes (for_each (step_checks p) p.steps)
  steps-pass =
      pass_each (step_checks p) p.steps (λ k s at.
      let placed_at = map-at step_of p.steps k s at in
      let d = one_by_one-to (StepDenotes all) (map step_of p.steps) system.transitions k (step_of s) denotes.steps placed_at in
      let inside : AreNew (checks.above_step p (k + 1)) (declared_texts s.rows ++ declared_texts s.params) (map (λ (e : placed.Each). e.row.text) s.eachs) =
      new_inside k s (denotes.new_names.steps k (names_of_step (step_of s)) (map-at names_of_step (map step_of p.steps) k (step_of s) placed_at)) in
      let texts_are : shared_names all all.steps ≡ above_steps p ++ map (λ (q : placed.Step). q.name.text) p.steps =
      both (declared_names all) (above_steps p) (map (λ (q : StepNames). q.name) all.steps) (map (λ (q : placed.Step). q.name.text) p.steps) (relations_above p) (step_texts p p.steps) in
      pass_both (declared_checks 256 k (checks.above_step p k) s.name) (inside_checks p (checks.above_step p (k + 1)) s)
      (declared-passes 256 k (length system.transitions) (checks.above_step p k) s.name (slice_get_within system.transitions k d.0 d.1) denotes.limits.transitions
      (fresh-made (λ (q : placed.Step). q.name.text) (above_steps p) p.steps k s (subst AreNumbered texts_are (different-numbered (shared_names all all.steps) denotes.new_names.shared)) at))
      (inside-passes p system denotes k s at d.0 d.2 (all-at (IsTransition system.shape) system.transitions k d.0 denotes.is_system.transitions d.1)
      (all-at HasTransitionLimits system.transitions k d.0 denotes.limits.each_transition d.1) (checks.above_step p (k + 1)) inside))
    where
      new_inside : (k : ℕ) (s : placed.Step) → AreNew (new.above_step all k) ((names_of_step (step_of s)).rows ++ (names_of_step (step_of s)).params) (names_of_step (step_of s)).each
          → AreNew (checks.above_step p (k + 1)) (declared_texts s.rows ++ declared_texts s.params) (map (λ (e : placed.Each). e.row.text) s.eachs)
      new_inside k s h =
          let own : (names_of_step (step_of s)).rows ++ (names_of_step (step_of s)).params ≡ declared_texts s.rows ++ declared_texts s.params =
          both (names_of_step (step_of s)).rows (declared_texts s.rows) (names_of_step (step_of s)).params (declared_texts s.params) (rows_are s.rows) (params_are s.params) in
          let eachs : (names_of_step (step_of s)).each ≡ map (λ (e : placed.Each). e.row.text) s.eachs = map-map (λ (e : grammar.Each). e.row) each_of s.eachs in
          subst (λ (z : List Text). AreNew (checks.above_step p (k + 1)) (declared_texts s.rows ++ declared_texts s.params) z) eachs
          (subst (λ (z : List Text). AreNew (checks.above_step p (k + 1)) z (names_of_step (step_of s)).each) own
          (subst (λ (z : List Text). AreNew z ((names_of_step (step_of s)).rows ++ (names_of_step (step_of s)).params) (names_of_step (step_of s)).each) (steps_above p (k + 1)) h))

  abbrev pairs_of : grammar.Goal → List (grammar.Goal × grammar.Conjunction)
  pairs_of g = map (λ (c : grammar.Conjunction). (g, c)) (parts.disjuncts g.guard)

  as_many : (g : placed.Goal) → length (disjuncts g.guard) ≡ length (pairs_of (goal_of g))
  as_many g =
      let pair : grammar.Conjunction → grammar.Goal × grammar.Conjunction = λ c. (goal_of g, c) in
      sym (length-map (map conjunction_of (disjuncts g.guard)) pair ∙ length-map (disjuncts g.guard) conjunction_of)

  -- the goal for a disjunct of an unsafe item
  record IsGoal (k : ℕ) (g : placed.Goal) (i : ℕ) (c : placed.Conjunction) : Type 0 where
    goal : Problem
    goal_at : slice_get system.goals (goal_count (take k p.goals) + i) ≡ Some goal
    denoted_by : GoalDenotes all (goal_of g, conjunction_of c) goal

  the_goal : (k : ℕ) (g : placed.Goal) (i : ℕ) (c : placed.Conjunction) → slice_get p.goals k ≡ Some g → slice_get (disjuncts g.guard) i ≡ Some c → IsGoal k g i c
  the_goal k g i c at c_at =
      let position : ℕ = goal_count (take k p.goals) + i in
      let pair : grammar.Conjunction → grammar.Goal × grammar.Conjunction = λ x. (goal_of g, x) in
      let listed : slice_get (parts.file_goals (file_of p)) position ≡ Some (goal_of g, conjunction_of c) =
      part_at (λ (x : placed.Goal). disjuncts x.guard) pairs_of goal_of as_many p.goals k g i (goal_of g, conjunction_of c) at
      (map-at pair (map conjunction_of (disjuncts g.guard)) i (conjunction_of c) (map-at conjunction_of (disjuncts g.guard) i c c_at)) in
      let b = one_by_one-to (GoalDenotes all) (parts.file_goals (file_of p)) system.goals position (goal_of g, conjunction_of c) denotes.goals listed in
      record { goal = b.0; goal_at = b.1; denoted_by = b.2 }

  disjunct-of-goal : (k : ℕ) (g : placed.Goal) (i : ℕ) (c : placed.Conjunction) → slice_get p.goals k ≡ Some g → slice_get (disjuncts g.guard) i ≡ Some c
      → Passes (disjunct_checks (record { file = p; rows = g.rows; params = [] }) (goal_count (take k p.goals) + i) c)
  disjunct-of-goal k g i c at c_at =
      let one : IsGoal k g i c = the_goal k g i c at c_at in
      let b : Problem = one.goal in
      let position : ℕ = goal_count (take k p.goals) + i in
      let scope : List Text → denoted.Scope = λ rows. record { names = all; rows = rows; relations = b.rows; params = [] } in
      let fits = denotes.is_system.goals in
      let lt : position < length system.goals = slice_get_within system.goals position b one.goal_at in
      let le : length system.goals ≤ 64 = denotes.limits.goals in
      let fit = all-at (Fits system.shape) system.goals position b fits one.goal_at in
      disjunct-passes p system.shape (declared_by p system denotes) g.rows [] b.rows []
      (subst (λ (ts : List Text). IsClear (scope ts)) (rows_are g.rows) (goal-clear (file_of p) denotes.new_names k (goal_of g) (map-at goal_of p.goals k g at) b.rows))
      (one_by_one-map (RowDenotes all) row_of g.rows b.rows one.denoted_by.rows) tt position c b.literals (omega (arith, lt, le))
      (all-at HasGoalLimits system.goals position b denotes.limits.each_goal one.goal_at).literals
      (subst (λ (ts : List Text). ConjunctionDenotes (scope ts) (conjunction_of c) b.literals) (rows_are g.rows) one.denoted_by.literals)
      (subst (λ (q : List SortId). All (LiteralFits system.shape b.rows q) b.literals) one.denoted_by.no_params fit.literals)

  goals-pass : Passes (for_each (goal_checks p) p.goals)
  goals-pass =
      pass_each (goal_checks p) p.goals (λ k g at.
      let first : IsGoal k g 0 g.guard.first = the_goal k g 0 g.guard.first at refl in
      let above : List Text = checks.above_step p (length p.steps) in
      let shared : AreNew (shared_names all all.steps) (names_of_rows (map row_of g.rows)) [] =
      all-at (λ (q : GoalNames). AreNew (shared_names all all.steps) q.rows []) all.goals k (names_of_goal (goal_of g)) denotes.new_names.goals (map-at names_of_goal (map goal_of p.goals) k (goal_of g) (map-at goal_of p.goals k g at)) in
      let numbered : AreNumbered (above ++ declared_texts g.rows) =
      subst AreNumbered (both (shared_names all all.steps) above (names_of_rows (map row_of g.rows)) (declared_texts g.rows) (shared_above p) (rows_are g.rows))
      (different-numbered (shared_names all all.steps ++ names_of_rows (map row_of g.rows)) shared.own_names) in
      let scope : Scope = record { file = p; rows = g.rows; params = [] } in
      pass_both (for_each (row_checks p above g.rows) g.rows) (guard_checks scope (goal_count (take k p.goals)) g.guard)
      (rows-pass p system.shape (declared_by p system denotes) above g.rows first.goal.rows numbered (all-at HasGoalLimits system.goals (goal_count (take k p.goals) + 0) first.goal denotes.limits.each_goal first.goal_at).rows
      (one_by_one-map (RowDenotes all) row_of g.rows first.goal.rows first.denoted_by.rows))
      (pass_each_from (goal_count (take k p.goals)) (disjunct_checks scope) (disjuncts g.guard) (λ i c c_at. disjunct-of-goal k g i c at c_at)))

  pub passes : first_fault p ≡ None
  passes =
      let functions : List Check = for_each (function_checks p) p.functions in
      let constants : List Check = for_each (constant_checks p) p.constants in
      let variables : List Check = for_each (variable_checks p) p.variables in
      let relations : List Check = for_each (relation_checks p) p.relations in
      let steps : List Check = for_each (step_checks p) p.steps in
      let goals : List Check = for_each (goal_checks p) p.goals in
      pass_both (for_each (sort_checks p) p.sorts) (functions ++ (constants ++ (variables ++ (relations ++ (steps ++ goals))))) sorts-pass
      (pass_both functions (constants ++ (variables ++ (relations ++ (steps ++ goals)))) functions-pass
      (pass_both constants (variables ++ (relations ++ (steps ++ goals))) constants-pass
      (pass_both variables (relations ++ (steps ++ goals)) variables-pass
      (pass_both relations (steps ++ goals) relations-pass
      (pass_both steps goals steps-pass goals-pass)))))

-- a file that has a fault denotes nothing
pub faulty-denotes_nothing : (p : placed.File) (fault : SpecFault) → first_fault p ≡ Some fault → (system : SystemParts) (all : Names) → FileDenotes (file_of p) system all → ⊥
faulty-denotes_nothing p fault h system all denotes =
    let none : first_fault p ≡ None = passes p system (subst (FileDenotes (file_of p) system) denotes.own_names denotes) in
    let e : ◌≡◌ {A = Option SpecFault} (Some fault) None = sym h ∙ none in cc
