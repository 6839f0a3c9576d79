-- A system that a file denotes is the value of the file.
use Rattle.std.proofs.Common.{◌≡◌, ℕ, Bool, List, map, refl, sym, ◌∙◌, ap, subst}
use Rattle.std.specs.Prelude.{Option, Some, None, flat_map, option_map}
use Rattle.std.proofs.lemmas.List.{length-map}
use Rattle.ras_logic.specs.declared.ids.SortId.{SortId}
use Rattle.ras_logic.specs.declared.ids.ConstId.{ConstId}
use Rattle.ras_logic.specs.declared.function.FunDecl.{FunDecl}
use Rattle.ras_logic.specs.declared.problem.Problem.{Problem}
use Rattle.ras_logic.specs.Schemas.{SchemaParts}
use Rattle.ras_logic.specs.Shapes.{ShapeParts}
use Rattle.ras_logic.specs.Formulas.{Fits}
use Rattle.ras_system.specs.declared.transition.Transition.{Transition}
use Rattle.ras_system.specs.Systems.{SystemParts, IsTransition}
use Rattle.ras_syntax.specs.Grammar as grammar
use Rattle.ras_syntax.specs.Grammar.{Text}
use Rattle.ras_names.specs.declared.names.Names.{Names}
use Rattle.ras_names.specs.Lists.{OneByOne}
use Rattle.ras_names.specs.FileParts as parts
use Rattle.ras_names.specs.FileNames.{names_of}
use Rattle.ras_names.specs.Steps.{StepDenotes, GoalDenotes}
use Rattle.ras_names.specs.Files.{IsSortNamed, FunctionDenotes, InitialDenotes, ColumnsDenote, FileDenotes}
use Rattle.ras_names.specs.Placed as placed
use Rattle.ras_names.specs.Placed.{Declared, columns, disjuncts}
use Rattle.ras_names.specs.Unplaced.{sort_of, function_of, constant_of, variable_of, column_of, relation_of, conjunction_of, step_of, goal_of, file_of}
use Rattle.ras_names.specs.FileChecks.{first_fault}
use Rattle.ras_names.proofs.Together.{one_by_one-map, one_by_one-all, pair_from}
use Rattle.ras_names.proofs.MadeFile.{faultless-denotes}
use Rattle.ras_names.proofs.PassTerms.{IsDeclared, declared_by, names}
use Rattle.ras_numbering.specs.Numbers.{sort_named, declared_sort, constant_of_name}
use Rattle.ras_numbering.specs.FileValues.{function_value, variable_value, initial_value, relation_value, shape_value, step_value, goal_value, goal_values, system_value}
use Rattle.ras_numbering.proofs.FirstPlaces.{map_is, with_parts, parts_mapped, with_parts_mapped}
use Rattle.ras_numbering.proofs.NumberedTerms.{sort-is, constant-is}
use Rattle.ras_numbering.proofs.NumberedItems.{step-is, goal-is}

module _ (p : placed.File) (system : SystemParts) (denotes : FileDenotes (file_of p) system (names_of (file_of p))) where
  abbrev shape : ShapeParts
  shape = system.shape

  abbrev declared : IsDeclared (file_of p) system.shape
  declared = declared_by p system denotes

  abbrev all : Names
  all = names p system.shape (declared_by p system denotes)

  sort : (name : Text) (s : SortId) → IsSortNamed all name s → sort_named p name ≡ s
  sort name s h = sort-is p shape declared name s h

  function-is : (f : placed.Function) (d : FunDecl) → FunctionDenotes all (function_of f) d → function_value p f ≡ d
  function-is f d h =
      let make : SortId → SortId → Bool → FunDecl = λ s t b. record { source = s; target = t; total = b } in
      let v : FunDecl = function_value p f in
      ap (λ (s : SortId). make s v.target v.total) (sort f.source.text d.source h.source) ∙ ap (λ (t : SortId). make d.source t v.total) (sort f.target.text d.target h.target) ∙ ap (make d.source d.target) (sym h.total)

  functions-are : map (function_value p) p.functions ≡ shape.schema.functions
  functions-are =
      let is : placed.Function → FunDecl → Type 0 = λ f d. FunctionDenotes all (function_of f) d in
      map_is is (function_value p) p.functions shape.schema.functions (one_by_one-map (FunctionDenotes all) function_of p.functions shape.schema.functions denotes.functions) (λ k f d at h. function-is f d h)

  constants-are : map (declared_sort p) p.constants ≡ shape.schema.constants
  constants-are =
      let denoted : grammar.Constant → SortId → Type 0 = λ c s. IsSortNamed all c.sort s in
      let is : Declared → SortId → Type 0 = λ c s. IsSortNamed all c.of.text s in
      map_is is (declared_sort p) p.constants shape.schema.constants (one_by_one-map denoted constant_of p.constants shape.schema.constants denotes.constants) (λ k c s at h. sort c.of.text s h)

  variables-are : map (variable_value p) p.variables ≡ shape.vars
  variables-are =
      let denoted : grammar.Variable → SortId → Type 0 = λ v s. IsSortNamed all v.sort s in
      let is : placed.Variable → SortId → Type 0 = λ v s. IsSortNamed all v.sort.text s in
      map_is is (variable_value p) p.variables shape.vars (one_by_one-map denoted variable_of p.variables shape.vars denotes.variables) (λ k v s at h. sort v.sort.text s h)

  relation-is : (r : placed.Relation) (ss : List SortId) → ColumnsDenote all (relation_of r) ss → relation_value p r ≡ ss
  relation-is r ss h =
      let denoted : grammar.Column → SortId → Type 0 = λ c s. IsSortNamed all c.sort s in
      let is : Declared → SortId → Type 0 = λ c s. IsSortNamed all c.of.text s in
      map_is is (declared_sort p) (columns r) ss (one_by_one-map denoted column_of (columns r) ss h) (λ k c s at i. sort c.of.text s i)

  relations-are : map (relation_value p) p.relations ≡ shape.relations
  relations-are =
      let is : placed.Relation → List SortId → Type 0 = λ r ss. ColumnsDenote all (relation_of r) ss in
      map_is is (relation_value p) p.relations shape.relations (one_by_one-map (ColumnsDenote all) relation_of p.relations shape.relations denotes.relations) (λ k r ss at h. relation-is r ss h)

  shape-is : shape_value p ≡ shape
  shape-is =
      let schema : ℕ → List FunDecl → List SortId → SchemaParts = λ n f c. record { sorts = n; functions = f; constants = c } in
      let make : SchemaParts → List SortId → List (List SortId) → ShapeParts = λ q v r. record { schema = q; vars = v; relations = r } in
      let own : ShapeParts = shape_value p in
      let sorts : own.schema.sorts ≡ shape.schema.sorts = sym (denotes.sorts ∙ length-map p.sorts sort_of) in
      let one_schema : own.schema ≡ shape.schema =
      ap (λ (n : ℕ). schema n own.schema.functions own.schema.constants) sorts
      ∙ ap (λ (f : List FunDecl). schema shape.schema.sorts f own.schema.constants) functions-are
      ∙ ap (schema shape.schema.sorts shape.schema.functions) constants-are in
      ap (λ (q : SchemaParts). make q own.vars own.relations) one_schema ∙ ap (λ (v : List SortId). make shape.schema v own.relations) variables-are ∙ ap (make shape.schema shape.vars) relations-are

  abbrev constant_text : Option placed.Initial → Option Text
  constant_text i = option_map (λ (x : placed.Initial). x.constant.text) i

  initial-is : (i : Option placed.Initial) (c : Option ConstId) → InitialDenotes all (constant_text i) c → option_map (λ (x : placed.Initial). constant_of_name p x.constant) i ≡ c
  initial-is None None h = refl
  initial-is None (Some c) h = absurd h
  initial-is (Some i) None h = absurd h
  initial-is (Some i) (Some c) h = ap (λ (k : ConstId). Some k) (constant-is p shape declared i.constant c h)

  initial-are : map (initial_value p) p.variables ≡ system.initial
  initial-are =
      let denoted : grammar.Variable → Option ConstId → Type 0 = λ v c. InitialDenotes all v.initial c in
      let is : placed.Variable → Option ConstId → Type 0 = λ v c. InitialDenotes all (constant_text v.initial) c in
      map_is is (initial_value p) p.variables system.initial (one_by_one-map denoted variable_of p.variables system.initial denotes.initial) (λ k v c at h. initial-is v.initial c h)

  steps-are : map (step_value p) p.steps ≡ system.transitions
  steps-are =
      let is : placed.Step → Transition → Type 0 = λ s t. StepDenotes all (step_of s) t in
      let good : placed.Step → Transition → Type 0 = λ s t. is s t × IsTransition shape t in
      map_is good (step_value p) p.steps system.transitions
      (one_by_one-all is (IsTransition shape) p.steps system.transitions (one_by_one-map (StepDenotes all) step_of p.steps system.transitions denotes.steps) denotes.is_system.transitions)
      (λ k s t at both. step-is p shape declared k s at t both.0 both.1)

  abbrev own_disjuncts : placed.Goal → List placed.Conjunction
  own_disjuncts g = disjuncts g.guard

  goals-are : flat_map (goal_values p) p.goals ≡ system.goals
  goals-are =
      let pair : placed.Goal × placed.Conjunction → grammar.Goal × grammar.Conjunction = λ z. (goal_of z.0, conjunction_of z.1) in
      let is : placed.Goal × placed.Conjunction → Problem → Type 0 = λ z x. GoalDenotes all (pair z) x in
      let good : placed.Goal × placed.Conjunction → Problem → Type 0 = λ z x. is z x × Fits shape x in
      let items : List (placed.Goal × placed.Conjunction) = with_parts own_disjuncts p.goals in
      let listed : OneByOne (GoalDenotes all) (map pair items) system.goals =
      subst (λ (zs : List (grammar.Goal × grammar.Conjunction)). OneByOne (GoalDenotes all) zs system.goals)
      (with_parts_mapped own_disjuncts (λ (g : grammar.Goal). parts.disjuncts g.guard) goal_of conjunction_of (λ g. refl) p.goals) denotes.goals in
      parts_mapped own_disjuncts (goal_value p) p.goals
      ∙ map_is good (λ z. goal_value p z.0 z.1) items system.goals
      (one_by_one-all is (Fits shape) items system.goals (one_by_one-map (GoalDenotes all) pair items system.goals listed) denotes.is_system.goals)
      (λ n z x z_at both. let from = pair_from own_disjuncts p.goals n z z_at in goal-is p shape declared from.0 z.0 z.1 x from.1 both.0 both.1)

  pub system-is : system_value p ≡ system
  system-is =
      let make : ShapeParts → List (Option ConstId) → List Transition → List Problem → SystemParts = λ q i t g. record { shape = q; initial = i; transitions = t; goals = g } in
      let own : SystemParts = system_value p in
      ap (λ (q : ShapeParts). make q own.initial own.transitions own.goals) shape-is
      ∙ ap (λ (i : List (Option ConstId)). make shape i own.transitions own.goals) initial-are
      ∙ ap (λ (t : List Transition). make shape system.initial t own.goals) steps-are
      ∙ ap (make shape system.initial system.transitions) goals-are

-- a file without a fault denotes some system, and that is its value
pub faultless-value : (p : placed.File) → first_fault p ≡ None → FileDenotes (file_of p) (system_value p) (names_of (file_of p))
faultless-value p h =
    let made = faultless-denotes p h in
    subst (λ (s : SystemParts). FileDenotes (file_of p) s (names_of (file_of p))) (sym (system-is p made.0 made.1)) made.1
