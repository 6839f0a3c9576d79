-- What is looked for in each line of the system part, and the first line in which something is wrong.
use Rattle.std.specs.Prelude.{ℕ, suc, Bool, true, not, ◌&&◌, List, [], ◌∷◌, ◌++◌, length, map, flat_map, take, slice_get, nat_eq, nat_lt, Option, Some, None, if◌then◌else◌}
use Rattle.std.specs.List.{list_any, list_all, enumerate_from}
use Rattle.ras_logic.specs.declared.problem.Problem.{Problem}
use Rattle.ras_logic.specs.Leading as lead
use Rattle.ras_logic.specs.Shapes.{ShapeParts}
use Rattle.ras_system.specs.Systems.{update_literal}
use Rattle.ras_system.specs.Known.{is_known_literal, is_well_sorted, is_one_sort}
use Rattle.ras_bundles.specs.declared.system_lines.FunctionLine.{FunctionLine}
use Rattle.ras_bundles.specs.declared.system_lines.VariableLine.{VariableLine}
use Rattle.ras_bundles.specs.declared.system_lines.UpdateLine.{UpdateLine}
use Rattle.ras_bundles.specs.declared.system_lines.TransitionLines.{TransitionLines}
use Rattle.ras_bundles.specs.declared.system_lines.SystemLines.{SystemLines}
use Rattle.ras_bundles.specs.declared.fault.BundleKind.{BundleKind}
use Rattle.ras_bundles.specs.declared.fault.BundleKind.TheVariants.{Limit, Range, Sort, Cycle, Target, Disjunct}
use Rattle.ras_bundles.specs.Numbers.{sort_named, update_named, schema_named, shape_named}

-- what can be wrong in a line, and whether it is
pub record Check : Type 0 where
  pub kind : BundleKind
  pub fails : Bool

abbrev pub check : BundleKind → Bool → Check
check k b = record { kind = k; fails = b }

-- the kind of the first check that fails
abbrev pub first_of : List Check → Option BundleKind
first_of [] = None
first_of (c ∷ checks) = if c.fails then Some c.kind else first_of checks

-- What is looked for in each kind of line, in the order in which it is told.

-- a count: it is within its limit
abbrev pub count_checks : ℕ → ℕ → List Check
count_checks limit n = check Limit (nat_lt limit n) ∷ []

-- none or more of the functions, at most n, lead one after the other from a sort to a sort
abbrev pub leads : List FunctionLine → ℕ → ℕ → ℕ → Bool
leads = lead.leads nat_eq (λ (f : FunctionLine). f.source) (λ (f : FunctionLine). f.target)

-- The functions above lead from the target of the function back to its source. Without a cycle among them they are fewer
-- than the sorts.
abbrev pub closes_cycle : SystemLines → List FunctionLine → FunctionLine → Bool
closes_cycle s above f = leads above s.sorts f.target f.source

-- a function, by its number: its sorts exist, and it closes no cycle
abbrev pub function_checks : SystemLines → ℕ → FunctionLine → List Check
function_checks s n f =
    check Range (not (nat_lt f.source s.sorts && nat_lt f.target s.sorts))
    ∷ check Cycle (closes_cycle s (take n s.functions) f)
    ∷ []

-- the constants: their number, and that their sorts exist
abbrev pub constant_checks : SystemLines → List Check
constant_checks s =
    check Limit (nat_lt 256 (length s.constants.sorts))
    ∷ check Range (not (list_all (λ (n : ℕ). nat_lt n s.sorts) s.constants.sorts))
    ∷ []

-- the initial constant exists
abbrev pub is_known_initial : SystemLines → Option ℕ → Bool
is_known_initial s None = true
is_known_initial s (Some c) = nat_lt c (length s.constants.sorts)

-- the initial constant is of the sort
abbrev pub is_sorted_initial : SystemLines → ℕ → Option ℕ → Bool
is_sorted_initial s sort None = true
is_sorted_initial s sort (Some c) = is_one_sort (Some (sort_named sort)) (slice_get (schema_named s).constants c)

-- a variable: its sort and its initial constant exist, and the constant is of the sort
abbrev pub variable_checks : SystemLines → VariableLine → List Check
variable_checks s v =
    check Range (not (nat_lt v.sort s.sorts && is_known_initial s v.initial))
    ∷ check Sort (not (is_sorted_initial s v.sort v.initial))
    ∷ []

-- a cube: its number of literals; it names no row, and all that it names exists; both sides of each literal have one sort
abbrev pub cube_checks : ShapeParts → Problem → List Check
cube_checks shape c =
    check Limit (nat_lt 128 (length c.literals))
    ∷ check Range (not (nat_eq (length c.rows) 0 && list_all (is_known_literal shape [] []) c.literals))
    ∷ check Sort (not (list_all (is_well_sorted shape [] []) c.literals))
    ∷ []

-- the guard of a transition: at most 64 disjuncts, and at least one
abbrev pub guard_checks : TransitionLines → List Check
guard_checks t = check Limit (nat_lt 64 (length t.guard)) ∷ check Disjunct (nat_eq (length t.guard) 0) ∷ []

-- an update, by its number: all that it names exists, the variable and the term have one sort, and no update above assigns the variable
abbrev pub update_checks : ShapeParts → TransitionLines → ℕ → UpdateLine → List Check
update_checks shape t n u =
    check Range (not (is_known_literal shape [] [] (update_literal (update_named u))))
    ∷ check Sort (not (is_well_sorted shape [] [] (update_literal (update_named u))))
    ∷ check Target (list_any (λ (above : UpdateLine). nat_eq above.target u.target) (take n t.updates))
    ∷ []

-- All lines in order, as they stand in the text.

-- the line of each value, by its number
abbrev pub each : {A : Type 0} → (ℕ → A → List Check) → List A → List (List Check)
each {A} checks xs = map (λ (p : ℕ × A). checks p.0 p.1) (enumerate_from 0 xs)

-- `guard D` and its cubes, `updates U` and the updates
abbrev pub transition_checks : ShapeParts → TransitionLines → List (List Check)
transition_checks shape t = (guard_checks t ∷ each (λ _. cube_checks shape) t.guard) ++ ([] ∷ each (update_checks shape t) t.updates)

-- `bundle 1`, the sorts, the functions, the constants, the variables
abbrev pub shape_checks : SystemLines → List (List Check)
shape_checks s =
    []
    ∷ (count_checks 64 s.sorts
    ∷ ((count_checks 256 (length s.functions) ∷ each (function_checks s) s.functions)
    ++ (constant_checks s
    ∷ (count_checks 64 (length s.variables) ∷ each (λ _. variable_checks s) s.variables))))

-- the transitions, the goals
abbrev pub step_checks : ShapeParts → SystemLines → List (List Check)
step_checks shape s =
    (count_checks 256 (length s.transitions) ∷ flat_map (transition_checks shape) s.transitions)
    ++ (count_checks 64 (length s.goals) ∷ each (λ _. cube_checks shape) s.goals)

abbrev pub line_checks : SystemLines → List (List Check)
line_checks s = shape_checks s ++ step_checks (shape_named s) s

-- what is wrong in the first of some lines, which has the number n, or else what is wrong in the later ones
abbrev pub first_or_later : ℕ → Option BundleKind → Option (ℕ × BundleKind) → Option (ℕ × BundleKind)
first_or_later n (Some kind) later = Some (n, kind)
first_or_later n None later = later

-- the number of the first line with a check that fails, and its first such check; the first of these lines has the number n
abbrev pub first_from : ℕ → List (List Check) → Option (ℕ × BundleKind)
first_from n [] = None
first_from n (checks ∷ lines) = first_or_later n (first_of checks) (first_from (suc n) lines)

-- the first fault of the system part
abbrev pub first_fault : SystemLines → Option (ℕ × BundleKind)
first_fault s = first_from 1 (line_checks s)
