use Rattle.std.proofs.Common.{map, ap, ◌∙◌}
use Rattle.ras_bundles.specs.Numbers.{variable_initial, transition_named}
use Rattle.ras_bundles.proofs.DenotedLaws.{short_initial, short_targets, no_system_fault}
use Rattle.ras_bundles.proofs.denoted.system_of.Goals as goal

pub initial_constants-requires : goal.initial_constants-requires
initial_constants-requires c = short_initial c.args.lines c.requires.plain c.as_slice.result.now c.as_slice.ensures.items

pub transitions_of-requires : goal.transitions_of-requires
transitions_of-requires c = short_targets c.args.lines c.requires.plain c.as_slice-2.result.now c.as_slice-2.ensures.items

pub unreachable-requires : goal.unreachable-requires
unreachable-requires c =
    no_system_fault c.args.lines c.requires.plain c.args.shape c.in_ok-initial.initial c.in_ok-transitions.transitions c.in-Err.field-0 c.requires.shape
    (c.in_ok-initial.ensures ∙ ap (map variable_initial) c.as_slice.ensures.items) (c.in_ok-transitions.ensures ∙ ap (map transition_named) c.as_slice-2.ensures.items) c.in-Err.ensures.fault
