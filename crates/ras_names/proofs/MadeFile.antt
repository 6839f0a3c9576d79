-- A file without a fault denotes a system.
use Rattle.std.proofs.Common.{◌≡◌, ℕ, suc, ◌<◌, ◌≤◌, true, false, List, [], ◌∷◌, ◌++◌, length, take, map, refl, sym, ◌∙◌, ap, subst, arith}
use Rattle.std.specs.Prelude.{Option, Some, None, slice_get, option_map, not, All}
use Rattle.std.proofs.lemmas.List.{length-map}
use Rattle.ras_logic.specs.declared.ids.SortId.{SortId}
use Rattle.ras_logic.specs.declared.ids.ConstId.{ConstId}
use Rattle.ras_logic.specs.declared.function.FunDecl.{FunDecl}
use Rattle.ras_logic.specs.declared.problem.Problem.{Problem}
use Rattle.ras_logic.specs.Schemas.{IsSort, HasSorts, IsSchema}
use Rattle.ras_logic.specs.Shapes.{ShapeParts, IsShape}
use Rattle.ras_logic.specs.Formulas.{Fits, IsCube}
use Rattle.ras_logic.proofs.ByPlace.{map_from, one_value}
use Rattle.ras_system.specs.declared.transition.Transition.{Transition}
use Rattle.ras_system.specs.Systems.{SystemParts, IsTransition}
use Rattle.ras_system.specs.SystemFaults.{HasTransitionLimits, HasGoalLimits}
use Rattle.ras_syntax.specs.Grammar as grammar
use Rattle.ras_syntax.specs.Grammar.{Text}
use Rattle.ras_names.specs.declared.names.Names.{Names}
use Rattle.ras_names.specs.declared.spec_fault.SpecKind.TheVariants.{WrongSort, Cycle}
use Rattle.ras_names.specs.Lists.{HasNumber, OneByOne}
use Rattle.ras_names.specs.FileParts as parts
use Rattle.ras_names.specs.FileNames.{names_of}
use Rattle.ras_names.specs.Steps.{StepDenotes, GoalDenotes}
use Rattle.ras_names.specs.Files.{IsSortNamed, FunctionDenotes, InitialDenotes, ColumnsDenote, FileDenotes}
use Rattle.ras_names.specs.Placed as placed
use Rattle.ras_names.specs.Placed.{Name, Declared, columns}
use Rattle.ras_names.specs.Unplaced.{sort_of, function_of, constant_of, variable_of, column_of, relation_of, step_of, file_of}
use Rattle.ras_names.specs.Checks.{Check, check, for_each, texts, declared_texts, declared_of, declared_checks, used_check}
use Rattle.ras_names.specs.TermChecks.{agree, function_texts}
use Rattle.ras_names.specs.FileChecks.{function_checks, constant_checks, initial_checks, variable_checks, column_checks, relation_checks, above_functions, above_constants, above_variables, above_relations, closes_cycle, first_fault}
use Rattle.ras_names.proofs.Numbered.{AreNumbered}
use Rattle.ras_names.proofs.Together.{one_by_one-to, one_by_one-from, one_by_one-made, one_by_one-mapped, one_by_one-length, one_by_one-gives, one_by_one-weaker}
use Rattle.ras_names.proofs.ClearNames.{sorts-numbered, constants-numbered}
use Rattle.ras_names.proofs.Passing.{Passes, passed_first, passed_both, passed_each, passed-not}
use Rattle.ras_names.proofs.Among.{text_same, below}
use Rattle.ras_names.proofs.NameLists.{sorts_are, constants_are}
use Rattle.ras_names.proofs.PassTerms.{IsDeclared, IsFound, declared_found}
use Rattle.ras_names.proofs.MadeNames.{IsPassed, passed, new-names, sorts, functions, constants, variables, relations, steps, columns-counted, within_limit}
use Rattle.ras_names.proofs.MadeTerms.{number_of, is_sort}
use Rattle.ras_names.proofs.NoCycleBack.{acyclic}
use Rattle.ras_names.proofs.MadeItems.{step-made, IsGoal, goal-made}

module _ (p : placed.File) (all_pass : IsPassed p) where
  abbrev names : Names
  names = names_of (file_of p)

  sort_made : (n : Name) → (used_check (texts p.sorts) n).fails ≡ false → (s : SortId) × IsSortNamed names n.text s
  sort_made n pass =
      let k = number_of (texts p.sorts) n.text (passed-not _ pass) in (record { n = k.0 }, subst (λ (ts : List Text). HasNumber ts n.text k.0) (sym (sorts_are p)) k.1)

  record IsFunctionChecked (k : ℕ) (f : placed.Function) : Type 0 where
    source : (s : SortId) × IsSortNamed names f.source.text s
    target : (s : SortId) × IsSortNamed names f.target.text s
    cycle : closes_cycle p (take k p.functions) f ≡ false

  function_checked : (k : ℕ) (f : placed.Function) → slice_get p.functions k ≡ Some f → IsFunctionChecked k f
  function_checked k f at =
      let source : Check = used_check (texts p.sorts) f.source in
      let target : Check = used_check (texts p.sorts) f.target in
      let cycle : Check = check f.name.at (Cycle (record { n = k })) (closes_cycle p (take k p.functions) f) in
      let own = passed_both (declared_checks 256 k (above_functions p ++ function_texts (take k p.functions)) f.name) (source ∷ target ∷ cycle ∷ []) (passed_each (function_checks p) p.functions all_pass.functions k f at) in
      let a = passed_first source (target ∷ cycle ∷ []) own.1 in
      let b = passed_first target (cycle ∷ []) a.1 in
      record { source = sort_made f.source a.0; target = sort_made f.target b.0; cycle = (passed_first cycle [] b.1).0 }

  abbrev FunctionIs : placed.Function → FunDecl → Type 0
  FunctionIs f d = FunctionDenotes names (function_of f) d

  made_functions : (ds : List FunDecl) × OneByOne FunctionIs p.functions ds
  made_functions = one_by_one-made FunctionIs p.functions (λ k f at.
      let c = function_checked k f at in
      (record { source = c.source.0; target = c.target.0; total = f.total }, record { source = c.source.1; target = c.target.1; total = refl }))

  abbrev ConstantIs : Declared → SortId → Type 0
  ConstantIs c s = IsSortNamed names c.of.text s

  made_constants : (ss : List SortId) × OneByOne ConstantIs p.constants ss
  made_constants = one_by_one-made ConstantIs p.constants (λ k c at.
      let own = passed_both (declared_checks 256 k (above_constants p ++ declared_texts (take k p.constants)) c.name) (used_check (texts p.sorts) c.of ∷ []) (passed_each (constant_checks p) p.constants all_pass.constants k c at) in
      sort_made c.of (passed_first (used_check (texts p.sorts) c.of) [] own.1).0)

  record IsVariableChecked (v : placed.Variable) : Type 0 where
    sort : (s : SortId) × IsSortNamed names v.sort.text s
    initial : Passes (initial_checks p v.sort v.initial)

  variable_checked : (k : ℕ) (v : placed.Variable) → slice_get p.variables k ≡ Some v → IsVariableChecked v
  variable_checked k v at =
      let sort : Check = used_check (texts p.sorts) v.sort in
      let own = passed_both (declared_checks 64 k (above_variables p ++ map (λ (w : placed.Variable). w.name.text) (take k p.variables)) v.name) (sort ∷ initial_checks p v.sort v.initial)
      (passed_each (variable_checks p) p.variables all_pass.variables k v at) in
      let a = passed_first sort (initial_checks p v.sort v.initial) own.1 in
      record { sort = sort_made v.sort a.0; initial = a.1 }

  abbrev VariableIs : placed.Variable → SortId → Type 0
  VariableIs v s = IsSortNamed names v.sort.text s

  made_variables : (ss : List SortId) × OneByOne VariableIs p.variables ss
  made_variables = one_by_one-made VariableIs p.variables (λ k v at. (variable_checked k v at).sort)

  abbrev RelationIs : placed.Relation → List SortId → Type 0
  RelationIs r ss = ColumnsDenote names (relation_of r) ss

  columns_made : (k : ℕ) (r : placed.Relation) → slice_get p.relations k ≡ Some r → (ss : List SortId) × RelationIs r ss
  columns_made k r at =
      let own = passed_both (declared_checks 16 k (above_relations p ++ map (λ (q : placed.Relation). q.name.text) (take k p.relations)) r.name) (for_each (column_checks p (columns r)) (columns r))
      (passed_each (relation_checks p) p.relations all_pass.relations k r at) in
      let ss = one_by_one-made ConstantIs (columns r) (λ j c c_at.
      let one = passed_both (declared_checks 32 j (declared_texts (take j (columns r))) c.name) (used_check (texts p.sorts) c.of ∷ []) (passed_each (column_checks p (columns r)) (columns r) own.1 j c c_at) in
      sort_made c.of (passed_first (used_check (texts p.sorts) c.of) [] one.1).0) in
      (ss.0, one_by_one-mapped (λ (c : grammar.Column). IsSortNamed names c.sort) column_of (columns r) ss.0 ss.1)

  made_relations : (rs : List (List SortId)) × OneByOne RelationIs p.relations rs
  made_relations = one_by_one-made RelationIs p.relations columns_made

  abbrev shape : ShapeParts
  shape = record {
    schema = record { sorts = length p.sorts; functions = made_functions.0; constants = made_constants.0 };
    vars = made_variables.0;
    relations = made_relations.0;
  }

  declared : IsDeclared (file_of p) shape
  declared = record {
    new_names = new-names p all_pass;
    functions = one_by_one-mapped (FunctionDenotes names) function_of p.functions made_functions.0 made_functions.1;
    constants = one_by_one-mapped (λ (c : grammar.Constant). IsSortNamed names c.sort) constant_of p.constants made_constants.0 made_constants.1;
    variables = one_by_one-mapped (λ (v : grammar.Variable). IsSortNamed names v.sort) variable_of p.variables made_variables.0 made_variables.1;
    relations = one_by_one-mapped (ColumnsDenote names) relation_of p.relations made_relations.0 made_relations.1;
  }

  there : (text : Text) (s : SortId) → IsSortNamed names text s → IsSort (length p.sorts) s
  there text s h = is_sort p shape declared refl text s h

  functions_good : All (HasSorts (length p.sorts)) made_functions.0
  functions_good = one_by_one-gives FunctionIs (HasSorts (length p.sorts)) p.functions made_functions.0 made_functions.1 (λ k f d at h. (there f.source.text d.source h.source, there f.target.text d.target h.target))

  schema_good : IsSchema shape.schema
  schema_good = record {
    functions = functions_good;
    constants = one_by_one-gives ConstantIs (IsSort (length p.sorts)) p.constants made_constants.0 made_constants.1 (λ k c s at h. there c.of.text s h);
    acyclic = acyclic p made_functions.0 declared.functions (length p.sorts) functions_good refl (λ k f at. (function_checked k f at).cycle);
  }

  columns_good : (r : placed.Relation) (ss : List SortId) → RelationIs r ss → All (IsSort (length p.sorts)) ss × (0 < length ss)
  columns_good r ss h =
      let count : length (parts.columns (relation_of r)) ≡ length ss = one_by_one-length (λ (c : grammar.Column). IsSortNamed names c.sort) (parts.columns (relation_of r)) ss h in (
        one_by_one-gives (λ (c : grammar.Column). IsSortNamed names c.sort) (IsSort (length p.sorts)) (parts.columns (relation_of r)) ss h (λ k c s at i. there c.sort s i),
        (let q : suc (length (map column_of r.others)) ≡ length ss = count in omega (arith, q)),
      )

  shape_good : IsShape shape
  shape_good = record {
    schema = schema_good;
    vars = one_by_one-gives VariableIs (IsSort (length p.sorts)) p.variables made_variables.0 made_variables.1 (λ k v s at h. there v.sort.text s h);
    columns = one_by_one-gives RelationIs (All (IsSort (length p.sorts))) p.relations made_relations.0 made_relations.1 (λ k r ss at h. (columns_good r ss h).0);
    some_column = one_by_one-gives RelationIs (λ (ss : List SortId). 0 < length ss) p.relations made_relations.0 made_relations.1 (λ k r ss at h. (columns_good r ss h).1);
  }

  -- the initial constant of a variable
  abbrev initial_text : Option placed.Initial → Option Text
  initial_text i = option_map (λ (x : placed.Initial). x.constant.text) i

  initial_made : (sort : Name) (i : Option placed.Initial) → Passes (initial_checks p sort i) → (c : Option ConstId) × InitialDenotes names (initial_text i) c
  initial_made sort None pass = (None, tt)
  initial_made sort (Some i) pass =
      let used : Check = used_check (declared_texts p.constants) i.constant in
      let last : Check = check i.at WrongSort (not (agree (Some sort.text) (declared_of p.constants i.constant.text))) in
      let k = number_of (declared_texts p.constants) i.constant.text (passed-not _ (passed_first used (last ∷ []) pass).0) in
      (Some (record { n = k.0 }), subst (λ (ts : List Text). HasNumber ts i.constant.text k.0) (sym (constants_are p)) k.1)

  abbrev InitialIs : placed.Variable → Option ConstId → Type 0
  InitialIs v c = InitialDenotes names (initial_text v.initial) c

  made_initial : (cs : List (Option ConstId)) × OneByOne InitialIs p.variables cs
  made_initial = one_by_one-made InitialIs p.variables (λ k v at. initial_made v.sort v.initial (variable_checked k v at).initial)

  one_sort : (text : Text) (a b : SortId) → IsSortNamed names text a → IsSortNamed names text b → a ≡ b
  one_sort text a b h k = ap (λ (n : ℕ). record { n = n }) (sorts-numbered names declared.new_names text a.n b.n h k)

  initial_sort : (sort : Name) (i : Option placed.Initial) (c : ConstId) (s : SortId) → Passes (initial_checks p sort i) → InitialDenotes names (initial_text i) (Some c) → IsSortNamed names sort.text s
      → slice_get made_constants.0 c.n ≡ Some s
  initial_sort sort None c s pass h named = absurd h
  initial_sort sort (Some i) c s pass h named =
      let used : Check = used_check (declared_texts p.constants) i.constant in
      let last : Check = check i.at WrongSort (not (agree (Some sort.text) (declared_of p.constants i.constant.text))) in
      let fits : agree (Some sort.text) (declared_of p.constants i.constant.text) ≡ true = passed-not _ (passed_first last [] (passed_first used (last ∷ []) pass).1).0 in
      let number : HasNumber (declared_texts p.constants) i.constant.text c.n = subst (λ (ts : List Text). HasNumber ts i.constant.text c.n) (constants_are p) h in
      let w = map_from (λ (d : Declared). d.name.text) p.constants c.n i.constant.text number in
      let found : IsFound p.constants i.constant.text w.0 =
      declared_found p.constants c.n w.0 i.constant.text (subst AreNumbered (constants_are p) (constants-numbered names declared.new_names)) w.1 w.2 in
      let same : sort.text ≡ w.0.of.text = text_same sort.text w.0.of.text (subst (λ (o : Option Text). agree (Some sort.text) o ≡ true) found.of fits) in
      let t = one_by_one-to ConstantIs p.constants made_constants.0 c.n w.0 made_constants.1 w.1 in
      t.1 ∙ ap (λ (z : SortId). Some z) (one_sort w.0.of.text t.0 s t.2 (subst (λ (n : Text). IsSortNamed names n s) same named))

  abbrev StepIs : placed.Step → Transition → Type 0
  StepIs s t = StepDenotes names (step_of s) t × IsTransition shape t × HasTransitionLimits t

  made_steps : (ts : List Transition) × OneByOne StepIs p.steps ts
  made_steps = one_by_one-made StepIs p.steps (λ k s at. let m = step-made p shape declared refl all_pass k s at in (m.transition, (m.denotes, m.fits, m.limits)))

  abbrev all_goals : List (grammar.Goal × grammar.Conjunction)
  all_goals = parts.file_goals (file_of p)

  abbrev GoalIs : grammar.Goal × grammar.Conjunction → Problem → Type 0
  GoalIs z g = GoalDenotes names z g × Fits shape g × IsCube g × HasGoalLimits g

  goal_at : (k : ℕ) (z : grammar.Goal × grammar.Conjunction) → slice_get all_goals k ≡ Some z → IsGoal p shape declared refl all_pass k z
  goal_at k z at = goal-made p shape declared refl all_pass k z at

  made_goals : (gs : List Problem) × OneByOne GoalIs all_goals gs
  made_goals = one_by_one-made GoalIs all_goals (λ k z at. let m = goal_at k z at in (m.problem, (m.denotes, m.fits, m.cube, m.limits)))

  pub system : SystemParts
  system = record { shape = shape; initial = made_initial.0; transitions = made_steps.0; goals = made_goals.0 }

  pub denotes : FileDenotes (file_of p) system names
  unfolding system
  denotes =
      let constants_count : length p.constants ≡ length made_constants.0 = one_by_one-length ConstantIs p.constants made_constants.0 made_constants.1 in
      let functions_count : length p.functions ≡ length made_functions.0 = one_by_one-length FunctionIs p.functions made_functions.0 made_functions.1 in
      let variables_count : length p.variables ≡ length made_variables.0 = one_by_one-length VariableIs p.variables made_variables.0 made_variables.1 in
      let initial_count : length p.variables ≡ length made_initial.0 = one_by_one-length InitialIs p.variables made_initial.0 made_initial.1 in
      let relations_count : length p.relations ≡ length made_relations.0 = one_by_one-length RelationIs p.relations made_relations.0 made_relations.1 in
      let steps_count : length p.steps ≡ length made_steps.0 = one_by_one-length StepIs p.steps made_steps.0 made_steps.1 in
      let goals_count : length all_goals ≡ length made_goals.0 = one_by_one-length GoalIs all_goals made_goals.0 made_goals.1 in
      let goals_within : length all_goals ≤ 64 = within_limit 64 all_goals (λ k z at. below 64 k 64 (goal_at k z at).low (omega arith)) in
      let step_denotes : placed.Step → Transition → Type 0 = λ s t. StepDenotes names (step_of s) t in
      let constants_within : length p.constants ≤ 256 = (constants p all_pass).within in
      let functions_within : length p.functions ≤ 256 = (functions p all_pass).within in
      let variables_within : length p.variables ≤ 64 = (variables p all_pass).within in
      let relations_within : length p.relations ≤ 16 = (relations p all_pass).within in
      let steps_within : length p.steps ≤ 256 = (steps p all_pass).within in record {
        own_names = refl;
        new_names = declared.new_names;
        sorts = sym (length-map p.sorts sort_of);
        functions = declared.functions;
        constants = declared.constants;
        variables = declared.variables;
        initial = one_by_one-mapped (λ (v : grammar.Variable). InitialDenotes names v.initial) variable_of p.variables made_initial.0 made_initial.1;
        relations = declared.relations;
        steps = one_by_one-mapped (StepDenotes names) step_of p.steps made_steps.0 (one_by_one-weaker StepIs step_denotes p.steps made_steps.0 made_steps.1 (λ s t h. h.0));
        goals = one_by_one-weaker GoalIs (GoalDenotes names) all_goals made_goals.0 made_goals.1 (λ z g h. h.0);
        is_system = record {
          shape = shape_good;
          initial_for_each = sym initial_count ∙ variables_count;
          initial_sorts = λ k c s c_at s_at.
              let v = one_by_one-from InitialIs p.variables made_initial.0 k (Some c) made_initial.1 c_at in
              let w = one_by_one-from VariableIs p.variables made_variables.0 k s made_variables.1 s_at in
              let same : w.0 ≡ v.0 = one_value p.variables k w.0 v.0 w.1 v.1 in
              initial_sort v.0.sort v.0.initial c s (variable_checked k v.0 v.1).initial v.2 (subst (λ (x : placed.Variable). IsSortNamed names x.sort.text s) same w.2);
          transitions = one_by_one-gives StepIs (IsTransition shape) p.steps made_steps.0 made_steps.1 (λ k s t at h. h.1);
          goals = one_by_one-gives GoalIs (Fits shape) all_goals made_goals.0 made_goals.1 (λ k z g at h. h.1);
          cubes = one_by_one-gives GoalIs IsCube all_goals made_goals.0 made_goals.1 (λ k z g at h. h.2);
        };
        schema_limits = record { sorts = (sorts p all_pass).within; functions = omega (arith, functions_count, functions_within); constants = omega (arith, constants_count, constants_within) };
        shape_limits = record {
          vars = omega (arith, variables_count, variables_within);
          relations = omega (arith, relations_count, relations_within);
          columns = one_by_one-gives RelationIs (λ (ss : List SortId). length ss ≤ 32) p.relations made_relations.0 made_relations.1 (λ k r ss at h.
              let n : length (map column_of (columns r)) ≡ length ss = one_by_one-length (λ (c : grammar.Column). IsSortNamed names c.sort) (parts.columns (relation_of r)) ss h in
              let m : length (map column_of (columns r)) ≡ length (columns r) = length-map (columns r) column_of in
              let le : length (columns r) ≤ 32 = (columns-counted p all_pass k r at).within in omega (arith, n, m, le));
        };
        limits = record {
          transitions = omega (arith, steps_count, steps_within);
          each_transition = one_by_one-gives StepIs HasTransitionLimits p.steps made_steps.0 made_steps.1 (λ k s t at h. h.2);
          goals = omega (arith, goals_count, goals_within);
          each_goal = one_by_one-gives GoalIs HasGoalLimits all_goals made_goals.0 made_goals.1 (λ k z g at h. h.3);
        };
      }

pub faultless-denotes : (p : placed.File) → first_fault p ≡ None → (s : SystemParts) × FileDenotes (file_of p) s (names_of (file_of p))
faultless-denotes p h = let all = passed p h in (system p all, denotes p all)
