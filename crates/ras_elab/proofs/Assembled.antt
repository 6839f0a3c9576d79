-- What was read of a file without a fault, as the shape and the names of its system.
use Rattle.std.proofs.Common.{◌≡◌, ℕ, List, length, sym, ◌∙◌, ap}
use Rattle.std.proofs.lemmas.List.{length-map}
use Rattle.ras_logic.specs.declared.ids.SortId.{SortId}
use Rattle.ras_logic.specs.declared.function.FunDecl.{FunDecl}
use Rattle.ras_logic.specs.Shapes.{ShapeParts}
use Rattle.ras_syntax.specs.Grammar.{Text}
use Rattle.ras_names.specs.FileNames.{names_of}
use Rattle.ras_names.specs.Placed as placed
use Rattle.ras_names.specs.Placed.{Name}
use Rattle.ras_names.specs.Unplaced.{file_of}
use Rattle.ras_names.proofs.NameLists.{sorts_are, functions_are, constants_are, vars_are}
use Rattle.ras_numbering.specs.FileValues.{shape_value, relation_value, system_value}
use Rattle.ras_elab.specs.declared.elaborating.Parts.{Parts}
use Rattle.ras_scope.specs.Agreeing.{sorts_of_columns}
use Rattle.ras_elab.specs.Elaborating.{ArePartsOf, named_columns, names_with, shape_with}
use Rattle.ras_elab.proofs.NamedColumns.{named_relations}
use Rattle.ras_scope.specs.declared.table.Table.{Table}

module _ (file : placed.File) (parts : Parts) (is : ArePartsOf file parts) where
  -- a list of columns for each relation
  pub as_many : length parts.declared.relations ≡ length parts.declared.columns.items
  as_many =
      let tables = parts.declared.columns.items in
      let names : length parts.declared.relations ≡ length file.relations = ap length is.agrees.relations ∙ length-map file.relations (λ (r : placed.Relation). r.name.text) in
      let values : length tables ≡ length file.relations =
      sym (length-map tables (λ (t : Table SortId). t.values.items)) ∙ ap length is.agrees.column_values ∙ length-map file.relations (relation_value file) in
      names ∙ sym values

  pub shape_is : (sorts : ℕ) (functions : List FunDecl) (constants vars : List SortId) (relations : List (List SortId)) → sorts ≡ length parts.declared.sorts
      → functions ≡ parts.declared.functions.values.items → constants ≡ parts.declared.constants.values.items → vars ≡ parts.declared.vars.values.items
      → relations ≡ sorts_of_columns parts.declared.columns.items → shape_with sorts functions constants vars relations ≡ shape_value file
  shape_is sorts functions constants vars relations a b c d e =
      let count : sorts ≡ length file.sorts = a ∙ ap length is.agrees.sorts ∙ length-map file.sorts (λ (n : Name). n.text) in
      let own_functions = b ∙ is.agrees.function_values in
      let own_constants = c ∙ is.agrees.constant_values in
      let own_vars = d ∙ is.agrees.variable_values in
      let own_relations = e ∙ is.agrees.column_values in
      λ i. shape_with (count i) (own_functions i) (own_constants i) (own_vars i) (own_relations i)

  pub names_are : names_with file.name.text parts.declared parts.steps parts.goals ≡ names_of (file_of file)
  names_are =
      let tables = parts.declared.columns.items in
      let sorts = is.agrees.sorts ∙ sym (sorts_are file) in
      let functions = is.agrees.functions ∙ sym (functions_are file) in
      let constants = is.agrees.constants ∙ sym (constants_are file) in
      let vars = is.agrees.variables ∙ sym (vars_are file) in
      let relations = ap (λ (ns : List Text). named_columns ns tables) is.agrees.relations ∙ named_relations file.relations tables is.agrees.column_names in
      λ i. record {
        system = file.name.text;
        sorts = sorts i;
        functions = functions i;
        constants = constants i;
        vars = vars i;
        relations = relations i;
        steps = is.steps i;
        goals = is.goals i;
      }

  pub system_is : (shape : ShapeParts) → shape ≡ shape_value file
      → record { shape = shape; initial = parts.initial; transitions = parts.transitions; goals = parts.cubes } ≡ system_value file
  system_is shape same = λ i. record { shape = same i; initial = is.initial i; transitions = is.transitions i; goals = is.cubes i }
