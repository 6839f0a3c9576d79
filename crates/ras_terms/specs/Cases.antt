-- The parts of an `each`: its row, its cases and their assignments, behind what stands above.
use Rattle.std.specs.Prelude.{◌≡◌, true, List, [], ◌∷◌, ◌++◌, map}
use Rattle.ras_syntax.specs.Grammar.{Text}
use Rattle.ras_names.specs.declared.spec_fault.SpecKind.TheVariants.{RepeatedTarget}
use Rattle.ras_names.specs.Placed as placed
use Rattle.ras_names.specs.Placed.{Declared as Item}
use Rattle.ras_names.specs.Checks.{Check, check, for_each, is_among, declared_texts, declared_of, new_check, used_check}
use Rattle.ras_names.specs.TermChecks.{Scope, columns_named, conjunction_checks}
use Rattle.ras_names.specs.StepChecks.{relation_texts, assignment_checks}
use Rattle.ras_numbering.specs.Numbers.{relation_named}
use Rattle.ras_scope.specs.declared.scope.EachRow.{EachRow}
use Rattle.ras_scope.specs.Agreeing.{IsRelationText}
use Rattle.ras_terms.specs.Assigning.{assigned_checks}

-- the row of an `each`, and its relation by its number
pub record IsRowOf (file : placed.File) (row : EachRow) (e : placed.Each) : Type 0 where
  pub name : row.name ≡ e.row.text
  pub relation : relation_named file e.relation.text ≡ row.relation
  pub known : IsRelationText file e.relation.text

-- the row and the relation of an `each` behind these
abbrev pub row_checks_behind : Scope → List Text → List placed.Each → placed.Each → List Check
row_checks_behind seen names above e =
    new_check names e.row
    ∷ used_check (relation_texts seen.file) e.relation
    ∷ check e.relation.at RepeatedTarget (is_among (map (λ (d : placed.Each). d.relation.text) above) e.relation.text)
    ∷ []

abbrev pub columns_of : Scope → placed.Each → List Item
columns_of seen e = columns_named seen.file e.relation.text

-- an assignment behind these
abbrev pub assignment_checks_behind : Scope → placed.Each → List placed.Assignment → placed.Assignment → List Check
assignment_checks_behind seen e above a =
    used_check (e.row.text ∷ []) a.row
    ∷ used_check (declared_texts (columns_of seen e)) a.column
    ∷ check a.row.at RepeatedTarget (is_among (map (λ (b : placed.Assignment). b.column.text) above) a.column.text)
    ∷ assigned_checks seen a.at (declared_of (columns_of seen e) a.column.text) a.term

-- the column of an assignment is known
abbrev pub IsKnownColumn : Scope → placed.Each → placed.Assignment → Type 0
IsKnownColumn seen e a = is_among (declared_texts (columns_of seen e)) a.column.text ≡ true

-- the condition of a case, and its assignments
abbrev pub body_checks : Scope → placed.Each → placed.Case → List Check
body_checks seen e c = conjunction_checks seen 16 c.condition ++ for_each (assignment_checks seen e c.assignments) c.assignments
