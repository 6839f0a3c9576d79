-- There are as many lists of checks as lines.
use Rattle.std.proofs.Common.{◌≡◌, ℕ, List, [], ◌∷◌, ◌++◌, length, map, sym, ◌∙◌, refl, arith, length-append}
use Rattle.std.specs.Prelude.{flat_map, codes}
use Rattle.std.specs.List.{enumerate_from}
use Rattle.std.proofs.lemmas.List.{length-map}
use Rattle.std.proofs.lemmas.List.FromFn.{length-enumerate_from}
use Rattle.ras_logic.specs.Shapes.{ShapeParts}
use Rattle.ras_lines.specs.Lines.{count_line, section}
use Rattle.ras_lines.specs.Words.{cube_line}
use Rattle.ras_bundles.specs.declared.system_lines.TransitionLines.{TransitionLines}
use Rattle.ras_bundles.specs.declared.system_lines.SystemLines.{SystemLines}
use Rattle.ras_bundles.specs.SystemTexts.{function_line, variable_line, update_line, constant_line, transition_lines, system_lines}
use Rattle.ras_bundles.specs.Numbers.{shape_named}
use Rattle.ras_bundles.specs.Checks.{Check, each, count_checks, function_checks, constant_checks, variable_checks, cube_checks, guard_checks, update_checks, transition_checks, shape_checks, step_checks, line_checks}

-- a line for each value
each_line : {A : Type 0} (f : ℕ → A → List Check) (text : A → List ℕ) (xs : List A) → length (each f xs) ≡ length (map text xs)
each_line {A} f text xs = length-map (enumerate_from 0 xs) (λ (p : ℕ × A). f p.0 p.1) ∙ length-enumerate_from 0 xs ∙ sym (length-map xs text)

transition_line : (shape : ShapeParts) (t : TransitionLines) → length (transition_checks shape t) ≡ length (transition_lines t)
transition_line shape t =
    omega (
      arith,
      length-append (guard_checks t ∷ each (λ _. cube_checks shape) t.guard) ([] ∷ each (update_checks shape t) t.updates),
      length-append (section (codes "guard") cube_line t.guard) (section (codes "updates") update_line t.updates),
      each_line (λ _. cube_checks shape) cube_line t.guard,
      each_line (update_checks shape t) update_line t.updates,
    )

all_transitions : (shape : ShapeParts) (ts : List TransitionLines) → length (flat_map (transition_checks shape) ts) ≡ length (flat_map transition_lines ts)
all_transitions shape [] = refl
all_transitions shape (t ∷ ts) =
    omega (
      arith,
      length-append (transition_checks shape t) (flat_map (transition_checks shape) ts),
      length-append (transition_lines t) (flat_map transition_lines ts),
      transition_line shape t,
      all_transitions shape ts,
    )

-- the lines of a system from the back to the front

abbrev goals_text : SystemLines → List (List ℕ)
goals_text l = section (codes "unsafe") cube_line l.goals

abbrev steps_text : SystemLines → List (List ℕ)
steps_text l = count_line (codes "transitions") (length l.transitions) ∷ flat_map transition_lines l.transitions

abbrev variables_text : SystemLines → List (List ℕ)
variables_text l = section (codes "variables") variable_line l.variables

abbrev functions_text : SystemLines → List (List ℕ)
functions_text l = section (codes "functions") function_line l.functions

abbrev function_part : SystemLines → List (List Check)
function_part l = count_checks 256 (length l.functions) ∷ each (function_checks l) l.functions

abbrev variable_part : SystemLines → List (List Check)
variable_part l = constant_checks l ∷ (count_checks 64 (length l.variables) ∷ each (λ _. variable_checks l) l.variables)

abbrev transition_part : SystemLines → List (List Check)
transition_part l = count_checks 256 (length l.transitions) ∷ flat_map (transition_checks (shape_named l)) l.transitions

abbrev goal_part : SystemLines → List (List Check)
goal_part l = count_checks 64 (length l.goals) ∷ each (λ _. cube_checks (shape_named l)) l.goals

pub as_many : (l : SystemLines) → length (line_checks l) ≡ length (system_lines l)
as_many l =
    omega (
      arith,
      length-append (shape_checks l) (step_checks (shape_named l) l),
      length-append (function_part l) (variable_part l),
      length-append (transition_part l) (goal_part l),
      length-append (functions_text l) (constant_line l.constants ∷ (variables_text l ++ (steps_text l ++ goals_text l))),
      length-append (variables_text l) (steps_text l ++ goals_text l),
      length-append (steps_text l) (goals_text l),
      each_line (function_checks l) function_line l.functions,
      each_line (λ _. variable_checks l) variable_line l.variables,
      all_transitions (shape_named l) l.transitions,
      each_line (λ _. cube_checks (shape_named l)) cube_line l.goals,
    )
