use Rattle.std.proofs.Common.{List, length, sym, ◌∙◌, ap, subst}
use Rattle.ras_logic.specs.Shapes.{ShapeParts, IsShape}
use Rattle.ras_logic.specs.SchemaFaults.{HasSchemaLimits}
use Rattle.ras_logic.specs.ShapeFaults.{HasShapeLimits}
use Rattle.ras_system.specs.Systems.{IsSystem}
use Rattle.ras_system.specs.SystemFaults.{HasSystemLimits}
use Rattle.ras_logic.specs.declared.ids.SortId.{SortId}
use Rattle.ras_names.specs.Placed as placed
use Rattle.ras_scope.specs.declared.table.Table.{Table}
use Rattle.ras_scope.specs.Placing.{placed_file}
use Rattle.ras_scope.specs.Agreeing.{sorts_of_columns}
use Rattle.ras_elab.specs.Elaborating.{named_columns}
use Rattle.ras_elab.proofs.Assembled.{as_many, shape_is, names_are, system_is}
use Rattle.ras_elab.proofs.elaborating.assemble.Goals as goal

pub name_columns-requires : goal.name_columns-requires
name_columns-requires c = as_many (placed_file c.args.file.now) c.args.parts c.requires.parts ∙ sym (ap length c.as_slice.ensures.value)

pub name_parts-requires : goal.name_parts-requires
name_parts-requires c =
    c.in_ok-relations.ensures.names ∙ ap (λ (ts : List (Table SortId)). named_columns c.args.parts.declared.relations ts) c.as_slice.ensures.value

pub new_shape-shape-requires : goal.new_shape-shape-requires
new_shape-shape-requires c =
    let p : placed.File = placed_file c.args.file.now in
    let denotes = c.a_file_without_a_fault_denotes_its_value.ensures p c.requires.clear in
    let shape = shape_is p c.args.parts c.requires.parts c.count-sorts.result c.into_values-functions.result c.into_values-constants.result c.into_values-vars.result c.in_ok-relations.relations.sorts
    c.count-sorts.ensures c.into_values-functions.ensures c.into_values-constants.ensures c.into_values-vars.ensures (c.in_ok-relations.ensures.sorts ∙ ap sorts_of_columns c.as_slice.ensures.value) in
    record {
      shape = subst IsShape (sym shape) denotes.is_system.shape;
      schema_limits = subst (λ (s : ShapeParts). HasSchemaLimits s.schema) (sym shape) denotes.schema_limits;
      limits = subst HasShapeLimits (sym shape) denotes.shape_limits;
    }

pub new_system-requires : goal.new_system-requires
new_system-requires c =
    let p : placed.File = placed_file c.args.file.now in
    let denotes = c.a_file_without_a_fault_denotes_its_value.ensures p c.requires.clear in
    let shape = shape_is p c.args.parts c.requires.parts c.count-sorts.result c.into_values-functions.result c.into_values-constants.result c.into_values-vars.result c.in_ok-relations.relations.sorts
    c.count-sorts.ensures c.into_values-functions.ensures c.into_values-constants.ensures c.into_values-vars.ensures (c.in_ok-relations.ensures.sorts ∙ ap sorts_of_columns c.as_slice.ensures.value) in
    let system = system_is p c.args.parts c.requires.parts c.new_shape-shape.result (c.new_shape-shape.ensures ∙ shape) in
    record { system = subst IsSystem (sym system) denotes.is_system; limits = subst HasSystemLimits (sym system) denotes.limits }

pub returns : goal.returns
returns c =
    let p : placed.File = placed_file c.args.file.now in
    let shape = shape_is p c.args.parts c.requires.parts c.count-sorts.result c.into_values-functions.result c.into_values-constants.result c.into_values-vars.result c.in_ok-relations.relations.sorts
    c.count-sorts.ensures c.into_values-functions.ensures c.into_values-constants.ensures c.into_values-vars.ensures (c.in_ok-relations.ensures.sorts ∙ ap sorts_of_columns c.as_slice.ensures.value) in
    record {
      system = c.new_system.ensures ∙ system_is p c.args.parts c.requires.parts c.new_shape-shape.result (c.new_shape-shape.ensures ∙ shape);
      names = c.in_ok-names.ensures ∙ names_are p c.args.parts c.requires.parts;
    }
