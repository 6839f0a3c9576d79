use Rattle.std.proofs.Common.{◌≡◌, subst}
use Rattle.std.specs.Prelude.{IfErr}
use Rattle.ras_logic.specs.Schemas.{SchemaParts}
use Rattle.ras_logic.specs.SchemaFaults.{IsSchemaFault}
use Rattle.ras_logic.specs.Shapes.{ShapeParts}
use Rattle.ras_logic.specs.ShapeFaults.{IsShapeFault}
use Rattle.ras_elab.specs.Elaborating.{shape_with}
use Rattle.ras_elab.proofs.NoFault.{is_ok, ok_value, no_schema_fault, no_shape_fault}
use Rattle.ras_elab.proofs.elaborating.new_shape.Goals as goal

pub unwrap-schema-requires : goal.unwrap-schema-requires
unwrap-schema-requires c =
    let parts : ShapeParts = shape_with c.args.sorts c.args.functions c.args.constants c.args.vars c.args.relations in
    is_ok (IsSchemaFault parts.schema) c.new.result (no_schema_fault parts.schema c.requires.shape.schema c.requires.schema_limits) c.new.ensures.fault

pub unwrap-requires : goal.unwrap-requires
unwrap-requires c =
    let parts : ShapeParts = shape_with c.args.sorts c.args.functions c.args.constants c.args.vars c.args.relations in
    let schema : c.unwrap-schema.result ≡ parts.schema = ok_value (λ s. s ≡ parts.schema) c.new.result c.unwrap-schema.result c.unwrap-schema.ensures c.new.ensures.value in
    let make : SchemaParts → ShapeParts = λ s. record { schema = s; vars = c.args.vars; relations = c.args.relations } in
    is_ok (IsShapeFault parts) c.new-2.result (no_shape_fault parts c.requires.shape c.requires.limits)
    (subst (λ (s : SchemaParts). IfErr c.new-2.result (IsShapeFault (make s))) schema c.new-2.ensures.fault)
