-- The text of the system part of a bundle, in numbers that need not name anything.
use Rattle.std.specs.Prelude.{ℕ, List, [], ◌∷◌, ◌++◌, length, map, flat_map, Bool, true, false, Option, Some, None, codes}
use Rattle.std.specs.Fmt.{decimal}
use Rattle.ras_lines.specs.Lines.{line, counted, count_line, section, AreWritten}
use Rattle.ras_lines.specs.Words.{term_word, cube_line, IsSmallTerm, IsSmallCube}
use Rattle.ras_lines.specs.Trees.{IsWrittenNumber}
use Rattle.ras_bundles.specs.declared.system_lines.FunctionLine.{FunctionLine}
use Rattle.ras_bundles.specs.declared.system_lines.VariableLine.{VariableLine}
use Rattle.ras_bundles.specs.declared.system_lines.UpdateLine.{UpdateLine}
use Rattle.ras_bundles.specs.declared.system_lines.TransitionLines.{TransitionLines}
use Rattle.ras_bundles.specs.declared.system_lines.ConstantLine.{ConstantLine}
use Rattle.ras_bundles.specs.declared.system_lines.SystemLines.{SystemLines}

abbrev pub totality_word : Bool → List ℕ
totality_word true = codes "total"
totality_word false = codes "nullable"

-- `function S T total` or `function S T nullable`
abbrev pub function_line : FunctionLine → List ℕ
function_line f = line (codes "function") (decimal f.source ∷ decimal f.target ∷ totality_word f.total ∷ [])

-- `none`, or the number of the initial constant
abbrev pub initial_word : Option ℕ → List ℕ
initial_word None = codes "none"
initial_word (Some c) = decimal c

-- `variable S none` or `variable S C`
abbrev pub variable_line : VariableLine → List ℕ
variable_line v = line (codes "variable") (decimal v.sort ∷ initial_word v.initial ∷ [])

-- `update V t`
abbrev pub update_line : UpdateLine → List ℕ
update_line u = line (codes "update") (decimal u.target ∷ term_word u.term ∷ [])

-- `consts K s1 .. sK`
abbrev pub constant_line : ConstantLine → List ℕ
constant_line c = line (codes "consts") (counted (map decimal c.sorts))

-- `guard D` and its cubes, `updates U` and the updates
abbrev pub transition_lines : TransitionLines → List (List ℕ)
transition_lines t = section (codes "guard") cube_line t.guard ++ section (codes "updates") update_line t.updates

-- `bundle 1`, the sorts, the functions, the constants, the variables, the transitions, the goals
abbrev pub system_lines : SystemLines → List (List ℕ)
system_lines s =
    line (codes "bundle") (codes "1" ∷ [])
    ∷ (count_line (codes "sorts") s.sorts
    ∷ (section (codes "functions") function_line s.functions
    ++ (constant_line s.constants
    ∷ (section (codes "variables") variable_line s.variables
    ++ ((count_line (codes "transitions") (length s.transitions) ∷ flat_map transition_lines s.transitions)
    ++ section (codes "unsafe") cube_line s.goals)))))

-- What can be written: numbers and counts below 4,294,967,296, and terms and cubes that can be written.

pub record IsWrittenFunction (f : FunctionLine) : Type 0 where
  pub source : IsWrittenNumber f.source
  pub target : IsWrittenNumber f.target

abbrev pub IsWrittenInitial : Option ℕ → Type 0
IsWrittenInitial None = Unit {0}
IsWrittenInitial (Some c) = IsWrittenNumber c

pub record IsWrittenVariable (v : VariableLine) : Type 0 where
  pub sort : IsWrittenNumber v.sort
  pub initial : IsWrittenInitial v.initial

pub record IsWrittenUpdate (u : UpdateLine) : Type 0 where
  pub target : IsWrittenNumber u.target
  pub term : IsSmallTerm u.term

pub record IsWrittenTransition (t : TransitionLines) : Type 0 where
  pub guard : AreWritten IsSmallCube t.guard
  pub updates : AreWritten IsWrittenUpdate t.updates

pub record IsWrittenSystem (s : SystemLines) : Type 0 where
  pub sorts : IsWrittenNumber s.sorts
  pub functions : AreWritten IsWrittenFunction s.functions
  pub constants : AreWritten IsWrittenNumber s.constants.sorts
  pub variables : AreWritten IsWrittenVariable s.variables
  pub transitions : AreWritten IsWrittenTransition s.transitions
  pub goals : AreWritten IsSmallCube s.goals
