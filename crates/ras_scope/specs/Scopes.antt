-- The names that may be used at a place.
use Rattle.std.specs.Prelude.{List, [], ◌∷◌, ◌++◌, Option, Some, None}
use Rattle.ras_syntax.specs.Grammar.{Text}
use Rattle.ras_scope.specs.declared.scope.EachRow.{EachRow}
use Rattle.ras_scope.specs.declared.scope.Scope.{Scope}

-- the row of the `each`, where there is one
abbrev pub each_names : Option EachRow → List Text
each_names None = []
each_names (Some e) = e.name ∷ []

-- the row parameters, and the row of the `each`
abbrev pub row_names : Scope → List Text
row_names s = s.rows.now.names ++ each_names s.each

-- what a name alone may be: a constant, a variable or a data parameter
abbrev pub plain_names : Scope → List Text
plain_names s = s.declared.now.constants.names ++ (s.declared.now.vars.names ++ s.params.now.names)
