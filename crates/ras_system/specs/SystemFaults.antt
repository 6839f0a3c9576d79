-- The first fault of what is no system: a list of checks in order, and the first of them that fails.
use Rattle.std.specs.Prelude.{ℕ, ◌-◌, ◌≤◌, Bool, false, not, ◌&&◌, ◌||◌, List, [], ◌∷◌, ◌++◌, length, min, slice_get, nat_eq, nat_lt, nat_le, Option, Some, None, is_none, Result, MatchResult, ◌≡◌, flat_map, All, take, if◌then◌else◌}
use Rattle.std.specs.List.{list_any, list_all, enumerate_from, zip}
use Rattle.std.specs.Option.{option_map_or}
use Rattle.ras_logic.specs.declared.ids.SortId.{SortId}
use Rattle.ras_logic.specs.declared.ids.ConstId.{ConstId}
use Rattle.ras_logic.specs.declared.ids.RelId.{RelId}
use Rattle.ras_logic.specs.declared.literal.Literal.{Literal}
use Rattle.ras_logic.specs.declared.problem.Problem.{Problem}
use Rattle.ras_logic.specs.Schemas.{SchemaParts}
use Rattle.ras_logic.specs.Shapes.{ShapeParts}
use Rattle.ras_system.specs.declared.update.Target.{Target}
use Rattle.ras_system.specs.declared.update.Target.TheVariants.{Var, Cell}
use Rattle.ras_system.specs.declared.update.Update.{Update}
use Rattle.ras_system.specs.declared.bulk.Assign.{Assign}
use Rattle.ras_system.specs.declared.bulk.Bulk.{Bulk}
use Rattle.ras_system.specs.declared.transition.Transition.{Transition}
use Rattle.ras_system.specs.declared.system_fault.SystemPlace.{SystemPlace}
use Rattle.ras_system.specs.declared.system_fault.SystemPlace.TheVariants as place
use Rattle.ras_system.specs.declared.system_fault.SystemKind.{SystemKind}
use Rattle.ras_system.specs.declared.system_fault.SystemKind.TheVariants.{Limit, Range, Sort, Target as Twice, NoDisjunct}
use Rattle.ras_system.specs.declared.system_fault.SystemFault.{SystemFault}
use Rattle.ras_system.specs.Known.{are_known_relations, are_known_sorts, is_known_literal, is_well_sorted, is_one_sort}
use Rattle.ras_system.specs.Systems.{SystemParts, update_literal, case_literals, bulk_rows}

-- at most 8 row parameters, 16 data parameters, 64 disjuncts of 128 literals each, 8 bulk cases with conditions of 16 literals each
pub record HasTransitionLimits (t : Transition) : Type 0 where
  pub rows : length t.rows ≤ 8
  pub params : length t.params ≤ 16
  pub guard : length t.guard ≤ 64
  pub disjuncts : All (λ (disjunct : List Literal). length disjunct ≤ 128) t.guard
  pub bulk : length t.bulk ≤ 8
  pub conditions : All (λ (b : Bulk). length b.condition ≤ 16) t.bulk

-- at most 8 rows and 128 literals
pub record HasGoalLimits (g : Problem) : Type 0 where
  pub rows : length g.rows ≤ 8
  pub literals : length g.literals ≤ 128

-- at most 256 transitions and 64 goals, each within its limits
pub record HasSystemLimits (s : SystemParts) : Type 0 where
  pub transitions : length s.transitions ≤ 256
  pub each_transition : All HasTransitionLimits s.transitions
  pub goals : length s.goals ≤ 64
  pub each_goal : All HasGoalLimits s.goals

-- a fault, and whether it is there
pub record Check : Type 0 where
  pub fault : SystemFault
  pub fails : Bool

abbrev pub check : SystemPlace → SystemKind → Bool → Check
check p k b = record { fault = record { place = p; kind = k }; fails = b }

-- the fault of the first check that fails
abbrev pub first_of : List Check → Option SystemFault
first_of [] = None
first_of (c ∷ checks) = if c.fails then Some c.fault else first_of checks

-- the answer is the first fault of the checks, or that none fails
abbrev pub Answers : {A : Type 0} → List Check → Result A SystemFault → Type 0
Answers checks answer = MatchResult answer (λ _. first_of checks ≡ None) (λ f. first_of checks ≡ Some f)

-- the checks of each element of a list, which know its number
abbrev pub for_each : {A : Type 0} → (ℕ → A → List Check) → List A → List Check
for_each {A} checks xs = flat_map (λ (p : ℕ × A). checks p.0 p.1) (enumerate_from 0 xs)

-- an initial constant exists, and has the sort of its variable
abbrev pub constant_checks : SchemaParts → ℕ → SortId × Option ConstId → List Check
constant_checks schema k (sort, None) = []
constant_checks schema k (sort, Some c) =
    check (place.Initial k) Range (is_none (slice_get schema.constants c.n))
    ∷ check (place.Initial k) Sort (not (is_one_sort (Some sort) (slice_get schema.constants c.n)))
    ∷ []

-- the initial constants of the variables; where one of the lists is longer, the first number that only it has
abbrev pub initial_checks : ShapeParts → List (Option ConstId) → List Check
initial_checks shape initial =
    for_each (constant_checks shape.schema) (zip shape.vars initial)
    ++ check (place.Initial (min (length shape.vars) (length initial))) Range (not (nat_eq (length shape.vars) (length initial)))
    ∷ []

-- literals under these row and data parameters
abbrev pub literal_checks : ShapeParts → SystemPlace → List RelId → List SortId → List Literal → List Check
literal_checks shape p rows params literals =
    check p Range (not (list_all (is_known_literal shape rows params) literals))
    ∷ check p Sort (not (list_all (is_well_sorted shape rows params) literals))
    ∷ []

-- a transition by itself: its number, its parameters, and that it has a disjunct
abbrev pub parameter_checks : ShapeParts → ℕ → Transition → List Check
parameter_checks shape n t =
    check (place.Transition n) Limit (nat_le 256 n || nat_lt 8 (length t.rows) || nat_lt 16 (length t.params))
    ∷ check (place.Transition n) Range (not (are_known_relations shape t.rows && are_known_sorts shape.schema t.params))
    ∷ check (place.Transition n) NoDisjunct (nat_eq (length t.guard) 0)
    ∷ []

abbrev pub disjunct_checks : ShapeParts → ℕ → Transition → ℕ → List Literal → List Check
disjunct_checks shape n t k disjunct =
    check (place.Guard n k) Limit (nat_le 64 k || nat_lt 128 (length disjunct))
    ∷ literal_checks shape (place.Guard n k) t.rows t.params disjunct

abbrev pub is_same_target : Target → Target → Bool
is_same_target (Var v) (Var w) = nat_eq v.n w.n
is_same_target (Var v) (Cell row column) = false
is_same_target (Cell row column) (Var w) = false
is_same_target (Cell row column) (Cell other_row other_column) = nat_eq row other_row && nat_eq column other_column

-- an update: its target and its term, and whether an earlier one has its target
abbrev pub update_checks : ShapeParts → ℕ → Transition → ℕ → Update → List Check
update_checks shape n t k u =
    literal_checks shape (place.Update n k) t.rows t.params (update_literal u ∷ [])
    ++ check (place.Update n k) Twice (list_any (λ (earlier : Update). is_same_target earlier.target u.target) (take k t.updates))
    ∷ []

abbrev pub is_of_relation : RelId → Bulk → Bool
is_of_relation r b = nat_eq b.relation.n r.n

-- the relation has an earlier case, but is not that of the case just before
abbrev pub is_out_of_group : List Bulk → RelId → Bool
is_out_of_group earlier r =
    list_any (is_of_relation r) earlier && not (option_map_or (is_of_relation r) (slice_get earlier (length earlier - 1)) false)

-- whether an earlier assignment of a case has the same column
abbrev pub column_checks : SystemPlace → List Assign → ℕ → Assign → List Check
column_checks p assigns k a = check p Twice (list_any (λ (earlier : Assign). nat_eq earlier.column a.column) (take k assigns)) ∷ []

abbrev pub case_checks : ShapeParts → ℕ → Transition → ℕ → Bulk → List Check
case_checks shape n t k b =
    check (place.Bulk n k) Limit (nat_le 8 k || nat_lt 16 (length b.condition))
    ∷ check (place.Bulk n k) Range (not (are_known_relations shape (b.relation ∷ [])))
    ∷ literal_checks shape (place.Bulk n k) (bulk_rows t b) t.params (case_literals (length t.rows) b)
    ++ check (place.Bulk n k) Twice (is_out_of_group (take k t.bulk) b.relation)
    ∷ for_each (column_checks (place.Bulk n k) b.assigns) b.assigns

-- a transition: itself, its guard, its updates, its bulk cases
abbrev pub transition_checks : ShapeParts → ℕ → Transition → List Check
transition_checks shape n t =
    parameter_checks shape n t ++ for_each (disjunct_checks shape n t) t.guard ++ for_each (update_checks shape n t) t.updates ++ for_each (case_checks shape n t) t.bulk

abbrev pub goal_checks : ShapeParts → ℕ → Problem → List Check
goal_checks shape n g =
    check (place.Goal n) Limit (nat_le 64 n || nat_lt 8 (length g.rows) || nat_lt 128 (length g.literals))
    ∷ check (place.Goal n) Range (not (are_known_relations shape g.rows))
    ∷ literal_checks shape (place.Goal n) g.rows [] g.literals

-- all checks in order: the initial constants, the transitions, the goals
abbrev pub checks : SystemParts → List Check
checks s = initial_checks s.shape s.initial ++ for_each (transition_checks s.shape) s.transitions ++ for_each (goal_checks s.shape) s.goals

-- the first fault of the parts of a system, if there is one
abbrev pub first_fault : SystemParts → Option SystemFault
first_fault s = first_of (checks s)
