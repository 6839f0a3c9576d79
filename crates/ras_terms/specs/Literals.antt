-- The sides of a literal.
use Rattle.std.specs.Prelude.{not, List, [], ◌∷◌, ◌++◌, Option, Some, None, nat_eq, if◌then◌else◌}
use Rattle.ras_logic.specs.declared.ids.SortId.{SortId}
use Rattle.ras_names.specs.declared.spec_fault.SpecKind.TheVariants.{WrongSort}
use Rattle.ras_names.specs.Placed as placed
use Rattle.ras_names.specs.Checks.{Check, check}
use Rattle.ras_names.specs.TermChecks.{Scope, agree, term_sort, term_checks}

-- the one sort of both sides, where `undef` is at most one of them
abbrev pub common : Option SortId → Option SortId → Option SortId
common None right = right
common (Some s) None = Some s
common (Some s) (Some t) = if nat_eq s.n t.n then Some s else None

-- the left term, the right term, the sign
abbrev pub side_checks : Scope → placed.Literal → List Check
side_checks seen l = term_checks seen l.left ++ (term_checks seen l.right ++ check l.at WrongSort (not (agree (term_sort seen l.left) (term_sort seen l.right))) ∷ [])
