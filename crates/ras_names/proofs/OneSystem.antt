-- A file denotes one system at most.
use Rattle.std.proofs.Common.{◌≡◌, ℕ, List, Bool, refl, sym, ◌∙◌, ap, subst}
use Rattle.std.specs.Prelude.{Some, None, Option, All}
use Rattle.ras_logic.specs.declared.ids.SortId.{SortId}
use Rattle.ras_logic.specs.declared.ids.ConstId.{ConstId}
use Rattle.ras_logic.specs.declared.function.FunDecl.{FunDecl}
use Rattle.ras_logic.specs.declared.problem.Problem.{Problem}
use Rattle.ras_logic.specs.Schemas.{SchemaParts}
use Rattle.ras_logic.specs.Shapes.{ShapeParts}
use Rattle.ras_logic.specs.Formulas.{Fits}
use Rattle.ras_system.specs.declared.transition.Transition.{Transition}
use Rattle.ras_system.specs.Systems.{SystemParts, IsTransition}
use Rattle.ras_syntax.specs.Grammar as grammar
use Rattle.ras_syntax.specs.Grammar.{Text}
use Rattle.ras_names.specs.declared.names.Names.{Names}
use Rattle.ras_names.specs.FileParts.{columns, disjuncts, file_goals}
use Rattle.ras_names.specs.FileNames.{names_of}
use Rattle.ras_names.specs.NewNames.{AreNewNames}
use Rattle.ras_names.specs.Steps.{StepDenotes, GoalDenotes}
use Rattle.ras_names.specs.Files.{IsSortNamed, FunctionDenotes, InitialDenotes, ColumnsDenote, FileDenotes}
use Rattle.ras_names.proofs.Together.{one_by_one-unique, one_by_one-all, pair_from}
use Rattle.ras_names.proofs.OneStep.{step-unique, goal-unique}
use Rattle.ras_names.proofs.ClearNames.{relations-numbered, sorts-numbered, constants-numbered, step-clear, each-numbered, goal-clear}

module _ (file : grammar.File) (new : AreNewNames (names_of file)) where
  abbrev names : Names
  names = names_of file

  sort-unique : (name : Text) (a b : SortId) → IsSortNamed names name a → IsSortNamed names name b → a ≡ b
  sort-unique name a b h k = ap (λ (n : ℕ). record { n = n }) (sorts-numbered names new name a.n b.n h k)

  function-unique : (f : grammar.Function) (d e : FunDecl) → FunctionDenotes names f d → FunctionDenotes names f e → d ≡ e
  function-unique f d e h k =
      let make : SortId → SortId → Bool → FunDecl = λ s t b. record { source = s; target = t; total = b } in
      ap (λ (s : SortId). make s d.target d.total) (sort-unique f.source d.source e.source h.source k.source)
      ∙ ap (λ (t : SortId). make e.source t d.total) (sort-unique f.target d.target e.target h.target k.target)
      ∙ ap (make e.source e.target) (h.total ∙ sym k.total)

  initial-unique : (name : Option Text) (c d : Option ConstId) → InitialDenotes names name c → InitialDenotes names name d → c ≡ d
  initial-unique None None None h k = refl
  initial-unique None None (Some d) h k = absurd k
  initial-unique None (Some c) d h k = absurd h
  initial-unique (Some name) None d h k = absurd h
  initial-unique (Some name) (Some c) None h k = absurd k
  initial-unique (Some name) (Some c) (Some d) h k = ap (λ (n : ℕ). Some (record { n = n })) (constants-numbered names new name c.n d.n h k)

  columns-unique : (r : grammar.Relation) (xs ys : List SortId) → ColumnsDenote names r xs → ColumnsDenote names r ys → xs ≡ ys
  columns-unique r xs ys =
      let denotes : grammar.Column → SortId → Type 0 = λ c. IsSortNamed names c.sort in
      one_by_one-unique denotes denotes (columns r) xs ys (λ k c e. sort-unique c.sort)

  shape-unique : (s t : SystemParts) → FileDenotes file s names → FileDenotes file t names → s.shape ≡ t.shape
  shape-unique s t h k =
      let functions = one_by_one-unique (FunctionDenotes names) (FunctionDenotes names) file.functions s.shape.schema.functions t.shape.schema.functions (λ n f e. function-unique f) h.functions k.functions in
      let constant : grammar.Constant → SortId → Type 0 = λ c. IsSortNamed names c.sort in
      let constants = one_by_one-unique constant constant file.constants s.shape.schema.constants t.shape.schema.constants (λ n c e. sort-unique c.sort) h.constants k.constants in
      let variable : grammar.Variable → SortId → Type 0 = λ v. IsSortNamed names v.sort in
      let vars = one_by_one-unique variable variable file.variables s.shape.vars t.shape.vars (λ n v e. sort-unique v.sort) h.variables k.variables in
      let relations = one_by_one-unique (ColumnsDenote names) (ColumnsDenote names) file.relations s.shape.relations t.shape.relations (λ n r e. columns-unique r) h.relations k.relations in
      let schema : ℕ → List FunDecl → List SortId → SchemaParts = λ n f c. record { sorts = n; functions = f; constants = c } in
      let make : SchemaParts → List SortId → List (List SortId) → ShapeParts = λ q v r. record { schema = q; vars = v; relations = r } in
      let one_schema : s.shape.schema ≡ t.shape.schema =
      ap (λ (n : ℕ). schema n s.shape.schema.functions s.shape.schema.constants) (h.sorts ∙ sym k.sorts)
      ∙ ap (λ (f : List FunDecl). schema t.shape.schema.sorts f s.shape.schema.constants) functions
      ∙ ap (schema t.shape.schema.sorts t.shape.schema.functions) constants in
      ap (λ (q : SchemaParts). make q s.shape.vars s.shape.relations) one_schema
      ∙ ap (λ (v : List SortId). make t.shape.schema v s.shape.relations) vars
      ∙ ap (make t.shape.schema t.shape.vars) relations

  transitions-unique : (s t : SystemParts) → s.shape ≡ t.shape → FileDenotes file s names → FileDenotes file t names → s.transitions ≡ t.transitions
  transitions-unique s t same h k =
      let shape : ShapeParts = s.shape in
      let good : grammar.Step → Transition → Type 0 = λ p x. StepDenotes names p x × IsTransition shape x in
      one_by_one-unique good good file.steps s.transitions t.transitions
      (λ n p e x y a b. step-unique names shape (relations-numbered names new) (sorts-numbered names new) p x (step-clear file new n p e x.rows) (each-numbered file new n p e) y a.0 b.0 a.1 b.1)
      (one_by_one-all (StepDenotes names) (IsTransition shape) file.steps s.transitions h.steps h.is_system.transitions)
      (one_by_one-all (StepDenotes names) (IsTransition shape) file.steps t.transitions k.steps
      (subst (λ (q : ShapeParts). All (IsTransition q) t.transitions) (sym same) k.is_system.transitions))

  goals-unique : (s t : SystemParts) → s.shape ≡ t.shape → FileDenotes file s names → FileDenotes file t names → s.goals ≡ t.goals
  goals-unique s t same h k =
      let shape : ShapeParts = s.shape in
      let good : grammar.Goal × grammar.Conjunction → Problem → Type 0 = λ p x. GoalDenotes names p x × Fits shape x in
      one_by_one-unique good good (file_goals file) s.goals t.goals
      (λ n p e x y a b. let from = pair_from (λ (g : grammar.Goal). disjuncts g.guard) file.goals n p e in
      goal-unique names shape (relations-numbered names new) (sorts-numbered names new) p x (goal-clear file new from.0 p.0 from.1 x.rows) y a.0 b.0 a.1 b.1)
      (one_by_one-all (GoalDenotes names) (Fits shape) (file_goals file) s.goals h.goals h.is_system.goals)
      (one_by_one-all (GoalDenotes names) (Fits shape) (file_goals file) t.goals k.goals
      (subst (λ (q : ShapeParts). All (Fits q) t.goals) (sym same) k.is_system.goals))

  system-unique : (s t : SystemParts) → FileDenotes file s names → FileDenotes file t names → s ≡ t
  system-unique s t h k =
      let shape : s.shape ≡ t.shape = shape-unique s t h k in
      let initial = one_by_one-unique (λ (v : grammar.Variable). InitialDenotes names v.initial) (λ (v : grammar.Variable). InitialDenotes names v.initial) file.variables s.initial t.initial (λ n v e. initial-unique v.initial) h.initial k.initial in
      let make : ShapeParts → List (Option ConstId) → List Transition → List Problem → SystemParts = λ q i x g. record { shape = q; initial = i; transitions = x; goals = g } in
      ap (λ (q : ShapeParts). make q s.initial s.transitions s.goals) shape
      ∙ ap (λ (i : List (Option ConstId)). make t.shape i s.transitions s.goals) initial
      ∙ ap (λ (x : List Transition). make t.shape t.initial x s.goals) (transitions-unique s t shape h k)
      ∙ ap (make t.shape t.initial t.transitions) (goals-unique s t shape h k)

pub one_system : (file : grammar.File) (s t : SystemParts) (m n : Names) → FileDenotes file s m → FileDenotes file t n → (s ≡ t) × (m ≡ n)
one_system file s t m n h k =
    let new : AreNewNames (names_of file) = subst AreNewNames h.own_names h.new_names in
    (system-unique file new s t (subst (FileDenotes file s) h.own_names h) (subst (FileDenotes file t) k.own_names k), h.own_names ∙ sym k.own_names)
