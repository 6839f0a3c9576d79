-- What a reader may name at a place is what the checks see there.
use Rattle.std.specs.Prelude.{◌≡◌, List, [], ◌∷◌, ◌++◌, Option, Some, None, map, All}
use Rattle.ras_syntax.specs.Grammar.{Text}
use Rattle.ras_logic.specs.declared.ids.RelId.{RelId}
use Rattle.ras_names.specs.Placed.{Declared as Item}
use Rattle.ras_names.specs.Checks.{declared_texts}
use Rattle.ras_names.specs.TermChecks as checks
use Rattle.ras_numbering.specs.Numbers.{declared_sort, declared_relation}
use Rattle.ras_scope.specs.declared.scope.EachRow.{EachRow}
use Rattle.ras_scope.specs.declared.scope.Scope.{Scope}
use Rattle.ras_scope.specs.Scopes.{row_names}
use Rattle.ras_scope.specs.Agreeing.{Agrees, IsOfSort, IsRelationText}

abbrev pub each_relations : Option EachRow → List RelId
each_relations None = []
each_relations (Some e) = e.relation ∷ []

-- the relations of the row parameters, and that of the row of the `each`
abbrev pub row_relations : Scope → List RelId
row_relations s = s.rows.now.values.items ++ each_relations s.each

-- the names from which that of the row of an `each` differs
abbrev pub step_texts : Scope → List Text
step_texts s = s.declared.now.shared ++ (s.rows.now.names ++ s.params.now.names)

pub record Sees (scope : Scope) (seen : checks.Scope) : Type 0 where
  pub agrees : Agrees seen.file scope.declared.now
  pub rows : row_names scope ≡ declared_texts seen.rows
  pub relations : row_relations scope ≡ map (declared_relation seen.file) seen.rows
  pub known_relations : All (λ (d : Item). IsRelationText seen.file d.of.text) seen.rows
  pub params : scope.params.now.names ≡ declared_texts seen.params
  pub sorts : scope.params.now.values.items ≡ map (declared_sort seen.file) seen.params
  pub known_sorts : All (IsOfSort seen.file) seen.params
