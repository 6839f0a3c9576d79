use Rattle.std.proofs.Common.{◌≤◌, ◌+◌, ◌*◌, ◌^◌}
use Rattle.ras_bundles.specs.Checks.{transition_checks}
use Rattle.ras_bundles.proofs.LineLaws.{Went}
use Rattle.ras_bundles.proofs.step_lines.all_transition_lines.Given as goal

abbrev pub invariant-loop-transition : goal.invariant-loop-transition
invariant-loop-transition l = record {
  went : Went (transition_checks l.shape) l.transitions l.first l.next l.transition-index;
  few : l.next ≤ 2 ^ 40 + l.transition-index * 2 ^ 35;
}
