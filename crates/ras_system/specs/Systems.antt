-- What a relational artifact system is.
use Rattle.std.specs.Prelude.{◌≡◌, ◌≢◌, ℕ, ◌<◌, true, List, [], ◌∷◌, ◌++◌, map, length, slice_get, Option, Some, All, AllPairs}
use Rattle.ras_logic.specs.declared.ids.SortId.{SortId}
use Rattle.ras_logic.specs.declared.ids.ConstId.{ConstId}
use Rattle.ras_logic.specs.declared.ids.RelId.{RelId}
use Rattle.ras_logic.specs.declared.term.Base.TheVariants as base
use Rattle.ras_logic.specs.declared.term.Term.{Term}
use Rattle.ras_logic.specs.declared.literal.Literal.{Literal}
use Rattle.ras_logic.specs.declared.literal.Literal.TheVariants.{Equal}
use Rattle.ras_logic.specs.declared.problem.Problem.{Problem}
use Rattle.ras_logic.specs.Schemas.{IsSort}
use Rattle.ras_logic.specs.Shapes.{ShapeParts, IsShape, IsRelation}
use Rattle.ras_logic.specs.Terms.{base_term}
use Rattle.ras_logic.specs.Formulas.{LiteralFits, Fits, IsCube}
use Rattle.ras_system.specs.declared.update.Target.{Target}
use Rattle.ras_system.specs.declared.update.Target.TheVariants.{Var, Cell}
use Rattle.ras_system.specs.declared.update.Update.{Update}
use Rattle.ras_system.specs.declared.bulk.Assign.{Assign}
use Rattle.ras_system.specs.declared.bulk.Bulk.{Bulk}
use Rattle.ras_system.specs.declared.transition.Transition.{Transition}

-- a shape, the initial constant of each variable that has one, the transitions, and the goals
pub record SystemParts : Type 0 where
  pub shape : ShapeParts
  pub initial : List (Option ConstId)
  pub transitions : List Transition
  pub goals : List Problem

-- what a target is in the old state
abbrev pub target_term : Target → Term
target_term (Var v) = base_term (base.Var v)
target_term (Cell row column) = base_term (base.Cell row column)

-- a target and its term as the two sides of a literal
abbrev pub update_literal : Update → Literal
update_literal u = Equal (target_term u.target) u.term true

-- a target and its term have one sort
abbrev pub UpdateFits : ShapeParts → List RelId → List SortId → Update → Type 0
UpdateFits shape rows params u = LiteralFits shape rows params (update_literal u)

-- the named rows of a bulk case: the row parameters, and then the updated row
abbrev pub bulk_rows : Transition → Bulk → List RelId
bulk_rows t b = t.rows ++ b.relation ∷ []

-- a column of the row of this number and its term as the two sides of a literal
abbrev pub assign_literal : ℕ → Assign → Literal
assign_literal row a = Equal (base_term (base.Cell row a.column)) a.term true

-- the literals of a case: its condition, then its assignments to the row of this number
abbrev pub case_literals : ℕ → Bulk → List Literal
case_literals row b = b.condition ++ map (assign_literal row) b.assigns

-- a column of the updated row and its term have one sort
abbrev pub AssignFits : ShapeParts → Transition → Bulk → Assign → Type 0
AssignFits shape t b a = LiteralFits shape (bulk_rows t b) t.params (assign_literal (length t.rows) a)

-- a bulk case: its condition and its terms fit, and no column is assigned twice
pub record BulkFits (shape : ShapeParts) (t : Transition) (b : Bulk) : Type 0 where
  pub relation : IsRelation shape b.relation
  pub condition : All (LiteralFits shape (bulk_rows t b) t.params) b.condition
  pub assigns : All (AssignFits shape t b) b.assigns
  pub once : AllPairs (λ (a : Assign) (e : Assign). a.column ≢ e.column) b.assigns

-- bulk cases of one relation are consecutive: what stands between two of them is of it too
abbrev pub AreInGroups : List Bulk → Type 0
AreInGroups bulk = (i j k : ℕ) (a b c : Bulk) → i < j → j < k → slice_get bulk i ≡ Some a → slice_get bulk j ≡ Some b → slice_get bulk k ≡ Some c
    → a.relation ≡ c.relation → b.relation ≡ a.relation

-- a transition of the shape: what it names exists, sorts agree, and no target is assigned twice
pub record IsTransition (shape : ShapeParts) (t : Transition) : Type 0 where
  pub rows : All (IsRelation shape) t.rows
  pub params : All (IsSort shape.schema.sorts) t.params
  pub some_disjunct : 0 < length t.guard
  pub guard : All (All (LiteralFits shape t.rows t.params)) t.guard
  pub updates : All (UpdateFits shape t.rows t.params) t.updates
  pub once : AllPairs (λ (u : Update) (e : Update). u.target ≢ e.target) t.updates
  pub bulk : All (BulkFits shape t) t.bulk
  pub in_groups : AreInGroups t.bulk

-- a system: a shape, for each variable an initial constant of its sort or none, transitions of the shape, and goals that fit it
pub record IsSystem (system : SystemParts) : Type 0 where
  pub shape : IsShape system.shape
  pub initial_for_each : length system.initial ≡ length system.shape.vars
  pub initial_sorts : (k : ℕ) (c : ConstId) (s : SortId) → slice_get system.initial k ≡ Some (Some c) → slice_get system.shape.vars k ≡ Some s
      → slice_get system.shape.schema.constants c.n ≡ Some s
  pub transitions : All (IsTransition system.shape) system.transitions
  pub goals : All (Fits system.shape) system.goals
  pub cubes : All IsCube system.goals
