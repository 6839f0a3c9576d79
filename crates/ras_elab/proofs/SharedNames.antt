-- What is declared agrees with a file whatever the shared names are.
use Rattle.ras_names.specs.Placed as placed
use Rattle.ras_scope.specs.declared.declared.Declared.{Declared}
use Rattle.ras_scope.specs.declared.name_set.NameSet.{NameSet}
use Rattle.ras_scope.specs.Agreeing.{Agrees}

pub agrees_shared : (p : placed.File) (d : Declared) (shared : NameSet) → Agrees p d → Agrees p (record d { shared = shared })
agrees_shared p d shared a = record {
  sorts = a.sorts;
  functions = a.functions;
  function_values = a.function_values;
  function_sorts = a.function_sorts;
  constants = a.constants;
  constant_values = a.constant_values;
  constant_sorts = a.constant_sorts;
  variables = a.variables;
  variable_values = a.variable_values;
  variable_sorts = a.variable_sorts;
  relations = a.relations;
  column_names = a.column_names;
  column_values = a.column_values;
  column_sorts = a.column_sorts;
}
