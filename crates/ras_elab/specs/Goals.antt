-- The goals of an unsafe item.
use Rattle.std.specs.Prelude.{ℕ, List, [], ◌++◌}
use Rattle.ras_syntax.specs.Grammar.{Text}
use Rattle.ras_logic.specs.declared.ids.RelId.{RelId}
use Rattle.ras_logic.specs.declared.literal.Literal.{Literal}
use Rattle.ras_logic.specs.declared.problem.Problem.{Problem}
use Rattle.ras_names.specs.Placed as placed
use Rattle.ras_names.specs.Checks.{Check, for_each}
use Rattle.ras_names.specs.TermChecks.{guard_checks}
use Rattle.ras_names.specs.StepChecks.{row_checks}
use Rattle.ras_numbering.specs.FileValues.{goal_names}
use Rattle.ras_scope.specs.declared.declared.Declared.{Declared}
use Rattle.ras_scope.specs.Agreeing.{Agrees}

-- what is declared is that of some file
pub record IsOfFile (declared : Declared) : Type 0 where
  pub file : placed.File
  pub agrees : Agrees file declared

-- rows of these relations, of which these literals hold
abbrev pub cube_of : List RelId → List Literal → Problem
cube_of relations literals = record { rows = relations; params = []; literals = literals }

-- an unsafe item below these shared names, with as many goals above it
abbrev pub item_checks : placed.File → List Text → ℕ → placed.Goal → List Check
item_checks file names above g = for_each (row_checks file names g.rows) g.rows ++ guard_checks (goal_names file g) above g.guard
