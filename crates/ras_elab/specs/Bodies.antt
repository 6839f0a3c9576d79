-- The checks of a step behind its rows and data parameters.
use Rattle.std.specs.Prelude.{List, ◌++◌}
use Rattle.ras_syntax.specs.Grammar.{Text}
use Rattle.ras_names.specs.Placed as placed
use Rattle.ras_names.specs.Placed.{Declared as Item}
use Rattle.ras_names.specs.Checks.{Check, for_each}
use Rattle.ras_names.specs.TermChecks.{Scope, guard_checks}
use Rattle.ras_names.specs.StepChecks.{update_checks, each_checks}
use Rattle.ras_scope.specs.Agreeing.{IsRelationText}

-- what stands behind the colon is a declared relation
abbrev pub IsOfRelation : placed.File → Item → Type 0
IsOfRelation file d = IsRelationText file d.of.text

-- the guard, the updates, and the `each` below these names
abbrev pub body_checks : Scope → List Text → placed.Step → List Check
body_checks scope names s =
    guard_checks scope 0 s.guard
    ++ (for_each (update_checks scope s.updates) s.updates
    ++ for_each (each_checks scope names s.eachs) s.eachs)
