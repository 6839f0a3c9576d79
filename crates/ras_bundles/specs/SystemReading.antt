-- How the system part of a bundle is read.
use Rattle.std.specs.Prelude.{ℕ, List, Bool, true, false, Option, Some, None, Ok, Err, codes}
use Rattle.ras_logic.specs.declared.problem.Problem.{Problem}
use Rattle.ras_lines.specs.Fronts.{Front, follow, chain}
use Rattle.ras_lines.specs.Numbers.{behind, either, fixed, number, behind_blank, announced}
use Rattle.ras_lines.specs.Formulas.{term, cube}
use Rattle.ras_lines.specs.Sections.{at_line, count, section}
use Rattle.ras_bundles.specs.declared.system_lines.FunctionLine.{FunctionLine}
use Rattle.ras_bundles.specs.declared.system_lines.VariableLine.{VariableLine}
use Rattle.ras_bundles.specs.declared.system_lines.UpdateLine.{UpdateLine}
use Rattle.ras_bundles.specs.declared.system_lines.TransitionLines.{TransitionLines}
use Rattle.ras_bundles.specs.declared.system_lines.ConstantLine.{ConstantLine}
use Rattle.ras_bundles.specs.declared.system_lines.SystemLines.{SystemLines}

abbrev pub totality : List ℕ → Front ℕ Bool
totality bytes = either (behind (codes "total") bytes) (λ rest. Ok (true, rest)) (either (behind (codes "nullable") bytes) (λ rest. Ok (false, rest)) (Err bytes))

abbrev pub function_of : ℕ → ℕ × Bool → FunctionLine
function_of source p = record { source = source; target = p.0; total = p.1 }

abbrev pub function : List ℕ → Front ℕ FunctionLine
function bytes = chain (λ _ f. f) (fixed (codes "function")) (chain function_of (behind_blank number) (chain (λ target total. (target, total)) (behind_blank number) (behind_blank totality))) bytes

abbrev pub initial : List ℕ → Front ℕ (Option ℕ)
initial bytes = either (behind (codes "none") bytes) (λ rest. Ok (None, rest)) (follow (number bytes) (λ n rest. Ok (Some n, rest)))

abbrev pub variable_of : ℕ → Option ℕ → VariableLine
variable_of sort start = record { sort = sort; initial = start }

abbrev pub variable : List ℕ → Front ℕ VariableLine
variable bytes = chain (λ _ v. v) (fixed (codes "variable")) (chain variable_of (behind_blank number) (behind_blank initial)) bytes

abbrev pub update : List ℕ → Front ℕ UpdateLine
update bytes = chain (λ _ u. u) (fixed (codes "update")) (chain (λ n t. record { target = n; term = t }) (behind_blank number) (behind_blank term)) bytes

abbrev pub constants : List ℕ → Front ℕ ConstantLine
constants bytes = chain (λ _ c. c) (fixed (codes "consts")) (λ more. follow (announced number more) (λ ns rest. Ok (record { sorts = ns }, rest))) bytes

abbrev pub transition : List (List ℕ) → Front (List ℕ) TransitionLines
transition lines = chain (λ g u. record { guard = g; updates = u }) (section (codes "guard") (at_line cube)) (section (codes "updates") (at_line update)) lines

-- What stands behind the sorts, the functions and so on.

abbrev pub Transitions : Type 0
Transitions = List TransitionLines × List Problem

abbrev pub Variables : Type 0
Variables = List VariableLine × Transitions

abbrev pub Constants : Type 0
Constants = ConstantLine × Variables

abbrev pub Functions : Type 0
Functions = List FunctionLine × Constants

abbrev pub system_of : ℕ → Functions → SystemLines
system_of sorts p = record { sorts = sorts; functions = p.0; constants = p.1.0; variables = p.1.1.0; transitions = p.1.1.1.0; goals = p.1.1.1.1 }

abbrev pub from_transitions : List (List ℕ) → Front (List ℕ) Transitions
from_transitions lines = chain (λ ts gs. (ts, gs)) (section (codes "transitions") transition) (section (codes "unsafe") (at_line cube)) lines

abbrev pub from_variables : List (List ℕ) → Front (List ℕ) Variables
from_variables lines = chain (λ vs p. (vs, p)) (section (codes "variables") (at_line variable)) from_transitions lines

abbrev pub from_constants : List (List ℕ) → Front (List ℕ) Constants
from_constants lines = chain (λ cs p. (cs, p)) (at_line constants) from_variables lines

abbrev pub from_functions : List (List ℕ) → Front (List ℕ) Functions
from_functions lines = chain (λ fs p. (fs, p)) (section (codes "functions") (at_line function)) from_constants lines

abbrev pub from_sorts : List (List ℕ) → Front (List ℕ) SystemLines
from_sorts lines = chain system_of (at_line (count (codes "sorts"))) from_functions lines

abbrev pub system : List (List ℕ) → Front (List ℕ) SystemLines
system lines = chain (λ _ s. s) (at_line (fixed (codes "bundle 1"))) from_sorts lines
