-- All checks of a file in order, and its first fault.
use Rattle.std.specs.Prelude.{ℕ, ◌+◌, Bool, not, List, [], ◌∷◌, ◌++◌, Option, Some, None, map, length, take, flat_map}
use Rattle.std.specs.Str.{bytes_eq}
use Rattle.ras_logic.specs.Leading as lead
use Rattle.ras_syntax.specs.Grammar.{Text}
use Rattle.ras_names.specs.declared.spec_fault.SpecKind.TheVariants.{WrongSort, Cycle}
use Rattle.ras_names.specs.declared.spec_fault.SpecFault.{SpecFault}
use Rattle.ras_names.specs.Placed as placed
use Rattle.ras_names.specs.Placed.{Name, Declared, columns, disjuncts}
use Rattle.ras_names.specs.Checks.{Check, check, first_of, for_each, texts, declared_texts, declared_of, declared_checks, used_check}
use Rattle.ras_names.specs.TermChecks.{agree, function_texts, guard_checks}
use Rattle.ras_names.specs.StepChecks.{variable_texts, relation_texts, row_checks, inside_checks}

-- none or more of the functions, at most n, lead one after the other from a sort to a sort
abbrev pub leads : List placed.Function → ℕ → Text → Text → Bool
leads = lead.leads bytes_eq (λ (f : placed.Function). f.source.text) (λ (f : placed.Function). f.target.text)

-- The functions above lead from the target of the function back to its source. Without a cycle among them they are fewer
-- than the sorts.
abbrev pub closes_cycle : placed.File → List placed.Function → placed.Function → Bool
closes_cycle file above f = leads above (length file.sorts) f.target.text f.source.text

abbrev pub sort_checks : placed.File → ℕ → Name → List Check
sort_checks file n s = declared_checks 64 n (texts (take n file.sorts)) s

-- the names of each kind follow those of the kinds above
abbrev pub above_functions : placed.File → List Text
above_functions file = texts file.sorts

abbrev pub function_checks : placed.File → ℕ → placed.Function → List Check
function_checks file n f =
    declared_checks 256 n (above_functions file ++ function_texts (take n file.functions)) f.name
    ++ (used_check (texts file.sorts) f.source
    ∷ used_check (texts file.sorts) f.target
    ∷ check f.name.at (Cycle (record { n = n })) (closes_cycle file (take n file.functions) f)
    ∷ [])

abbrev pub above_constants : placed.File → List Text
above_constants file = above_functions file ++ function_texts file.functions

abbrev pub constant_checks : placed.File → ℕ → Declared → List Check
constant_checks file n c =
    declared_checks 256 n (above_constants file ++ declared_texts (take n file.constants)) c.name ++ used_check (texts file.sorts) c.of ∷ []

abbrev pub above_variables : placed.File → List Text
above_variables file = above_constants file ++ declared_texts file.constants

-- a constant that exists, and then its sort
abbrev pub initial_checks : placed.File → Name → Option placed.Initial → List Check
initial_checks file sort None = []
initial_checks file sort (Some i) =
    used_check (declared_texts file.constants) i.constant
    ∷ check i.at WrongSort (not (agree (Some sort.text) (declared_of file.constants i.constant.text)))
    ∷ []

abbrev pub variable_checks : placed.File → ℕ → placed.Variable → List Check
variable_checks file n v =
    declared_checks 64 n (above_variables file ++ map (λ (w : placed.Variable). w.name.text) (take n file.variables)) v.name
    ++ (used_check (texts file.sorts) v.sort ∷ initial_checks file v.sort v.initial)

abbrev pub above_relations : placed.File → List Text
above_relations file = above_variables file ++ variable_texts file

abbrev pub column_checks : placed.File → List Declared → ℕ → Declared → List Check
column_checks file all n c = declared_checks 32 n (declared_texts (take n all)) c.name ++ used_check (texts file.sorts) c.of ∷ []

abbrev pub relation_checks : placed.File → ℕ → placed.Relation → List Check
relation_checks file n r =
    declared_checks 16 n (above_relations file ++ map (λ (q : placed.Relation). q.name.text) (take n file.relations)) r.name
    ++ for_each (column_checks file (columns r)) (columns r)

abbrev pub above_steps : placed.File → List Text
above_steps file = above_relations file ++ relation_texts file

-- the shared names above the n-th step, or above all that follows the steps
abbrev pub above_step : placed.File → ℕ → List Text
above_step file n = above_steps file ++ map (λ (s : placed.Step). s.name.text) (take n file.steps)

abbrev pub step_checks : placed.File → ℕ → placed.Step → List Check
step_checks file n s = declared_checks 256 n (above_step file n) s.name ++ inside_checks file (above_step file (n + 1)) s

-- all disjuncts of some unsafe items are goals
abbrev pub goal_count : List placed.Goal → ℕ
goal_count goals = length (flat_map (λ (g : placed.Goal). disjuncts g.guard) goals)

abbrev pub goal_checks : placed.File → ℕ → placed.Goal → List Check
goal_checks file n g =
    for_each (row_checks file (above_step file (length file.steps)) g.rows) g.rows
    ++ guard_checks (record { file = file; rows = g.rows; params = [] }) (goal_count (take n file.goals)) g.guard

abbrev pub checks : placed.File → List Check
checks file =
    for_each (sort_checks file) file.sorts
    ++ (for_each (function_checks file) file.functions
    ++ (for_each (constant_checks file) file.constants
    ++ (for_each (variable_checks file) file.variables
    ++ (for_each (relation_checks file) file.relations
    ++ (for_each (step_checks file) file.steps
    ++ for_each (goal_checks file) file.goals)))))

-- the first fault of names and sorts, if there is one
abbrev pub first_fault : placed.File → Option SpecFault
first_fault file = first_of (checks file)
