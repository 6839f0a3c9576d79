use Rattle.std.proofs.Common.{map, ap, ◌∙◌}
use Rattle.ras_bundles.specs.Numbers.{function_named, sort_named, variable_sort}
use Rattle.ras_bundles.proofs.DenotedLaws.{short_functions, short_constants, short_sorts, no_schema_fault, no_shape_fault}
use Rattle.ras_bundles.proofs.denoted.shape_of.Goals as goal

pub functions_of-requires : goal.functions_of-requires
functions_of-requires c = short_functions c.args.lines.now c.requires.schema c.requires.shape c.as_slice.result.now c.as_slice.ensures.items

pub sorts_of-requires : goal.sorts_of-requires
sorts_of-requires c = short_constants c.args.lines.now c.requires.schema c.requires.shape c.as_slice-2.result.now c.as_slice-2.ensures.items

pub variable_sorts-requires : goal.variable_sorts-requires
variable_sorts-requires c = short_sorts c.args.lines.now c.requires.schema c.requires.shape c.as_slice-3.result.now c.as_slice-3.ensures.items

pub unreachable-requires : goal.unreachable-requires
unreachable-requires c =
    no_schema_fault c.args.lines.now c.requires.schema c.requires.shape c.in_ok-functions.functions c.in_ok-constants.constants c.in-Err.field-0
    (c.in_ok-functions.ensures ∙ ap (map function_named) c.as_slice.ensures.items) (c.in_ok-constants.ensures ∙ ap (map sort_named) c.as_slice-2.ensures.items) c.in-Err.ensures.fault

pub unreachable-requires-in-Err-new : goal.unreachable-requires-in-Err-new
unreachable-requires-in-Err-new c =
    no_shape_fault c.args.lines.now c.requires.schema c.requires.shape c.requires.limits c.in-Ok.schema c.in_ok-functions.functions c.in_ok-constants.constants c.in_ok-vars.vars c.new-2.result c.in-Err-new.field-0
    c.in-Ok.ensures.value (c.in_ok-functions.ensures ∙ ap (map function_named) c.as_slice.ensures.items) (c.in_ok-constants.ensures ∙ ap (map sort_named) c.as_slice-2.ensures.items)
    (c.in_ok-vars.ensures ∙ ap (map variable_sort) c.as_slice-3.ensures.items) c.new-2.ensures c.in-Err-new.ensures.fault
