-- What a step and an unsafe item denote.
use Rattle.std.specs.Prelude.{◌≡◌, ◌≢◌, ℕ, length, [], ◌∷◌, ◌++◌, Option, Some, None, AllPairs}
use Rattle.ras_logic.specs.declared.ids.SortId.{SortId}
use Rattle.ras_logic.specs.declared.ids.RelId.{RelId}
use Rattle.ras_logic.specs.declared.problem.Problem.{Problem}
use Rattle.ras_system.specs.declared.update.Target.{Target}
use Rattle.ras_system.specs.declared.update.Target.TheVariants.{Var, Cell}
use Rattle.ras_system.specs.declared.update.Update.{Update}
use Rattle.ras_system.specs.declared.bulk.Assign.{Assign}
use Rattle.ras_system.specs.declared.bulk.Bulk.{Bulk}
use Rattle.ras_system.specs.declared.transition.Transition.{Transition}
use Rattle.ras_system.specs.Systems.{bulk_rows}
use Rattle.ras_syntax.specs.Grammar as grammar
use Rattle.ras_syntax.specs.Grammar.{Text}
use Rattle.ras_names.specs.declared.names.Names.{Names}
use Rattle.ras_names.specs.Lists.{HasNumber, OneByOne}
use Rattle.ras_names.specs.FileParts.{disjuncts, step_cases}
use Rattle.ras_names.specs.FileNames.{names_of_rows, names_of_params}
use Rattle.ras_names.specs.NewNames.{relation_names}
use Rattle.ras_names.specs.Terms.{Scope, IsCell, TermDenotes, ConjunctionDenotes}

-- a variable, or a cell of a row parameter
abbrev pub TargetDenotes : Scope → Text → Option Text → Target → Type 0
TargetDenotes scope name None (Var v) = HasNumber scope.names.vars name v.n
TargetDenotes scope name (Some column) (Cell m n) = IsCell scope name column m n
TargetDenotes scope name None (Cell m n) = ⊥
TargetDenotes scope name (Some column) (Var v) = ⊥

abbrev pub UpdateDenotes : Scope → grammar.Update → Update → Type 0
UpdateDenotes scope u update = TargetDenotes scope u.name u.column update.target × TermDenotes scope u.term update.term

-- an assignment to a column of the row of this number
abbrev pub AssignmentDenotes : Scope → ℕ → grammar.Assignment → Assign → Type 0
AssignmentDenotes scope row a assign = IsCell scope a.row a.column row assign.column × TermDenotes scope a.term assign.term

module _ (names : Names) where
  abbrev pub RowDenotes : grammar.Row → RelId → Type 0
  RowDenotes r relation = HasNumber (relation_names names) r.relation relation.n

  abbrev pub ParamDenotes : grammar.Param → SortId → Type 0
  ParamDenotes p sort = HasNumber names.sorts p.sort sort.n

  -- what may be named in a step: its row parameters and its data parameters
  abbrev pub step_scope : grammar.Step → Transition → Scope
  step_scope s t = record { names = names; rows = names_of_rows s.rows; relations = t.rows; params = names_of_params s.params }

  -- inside an `each` its row too, which has the number behind the row parameters
  abbrev pub each_scope : grammar.Step → grammar.Each → Transition → Bulk → Scope
  each_scope s e t b = record {
    names = names;
    rows = names_of_rows s.rows ++ e.row ∷ [];
    relations = bulk_rows t b;
    params = names_of_params s.params;
  }

  -- a case: the relation of its `each`, the literals of its condition, and its assignments to the row of the `each`
  pub record CaseDenotes (s : grammar.Step) (t : Transition) (each_case : grammar.Each × grammar.Case) (b : Bulk) : Type 0 where
    pub relation : HasNumber (relation_names names) each_case.0.relation b.relation.n
    pub condition : ConjunctionDenotes (each_scope s each_case.0 t b) each_case.1.condition b.condition
    pub assigns : OneByOne (AssignmentDenotes (each_scope s each_case.0 t b) (length t.rows)) each_case.1.assignments b.assigns

  -- A step: its parameters, the disjuncts of its guard, its updates, and the cases of all its `each`, of which no two have
  -- one relation.
  pub record StepDenotes (s : grammar.Step) (t : Transition) : Type 0 where
    pub rows : OneByOne RowDenotes s.rows t.rows
    pub params : OneByOne ParamDenotes s.params t.params
    pub guard : OneByOne (ConjunctionDenotes (step_scope s t)) (disjuncts s.guard) t.guard
    pub updates : OneByOne (UpdateDenotes (step_scope s t)) s.updates t.updates
    pub bulk : OneByOne (CaseDenotes s t) (step_cases s) t.bulk
    pub one_each : AllPairs (λ (e f : grammar.Each). e.relation ≢ f.relation) s.eachs

  abbrev pub goal_scope : grammar.Goal → Problem → Scope
  goal_scope g p = record { names = names; rows = names_of_rows g.rows; relations = p.rows; params = [] }

  -- a goal: all rows of an unsafe item, and one of its disjuncts
  pub record GoalDenotes (item : grammar.Goal × grammar.Conjunction) (p : Problem) : Type 0 where
    pub rows : OneByOne RowDenotes item.0.rows p.rows
    pub no_params : p.params ≡ []
    pub literals : ConjunctionDenotes (goal_scope item.0 p) item.1 p.literals
