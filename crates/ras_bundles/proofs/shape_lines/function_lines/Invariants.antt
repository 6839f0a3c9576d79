use Rattle.std.proofs.Common.{take, All}
use Rattle.ras_bundles.specs.Checks.{function_checks}
use Rattle.ras_bundles.specs.Judging.{HasSmallSorts}
use Rattle.ras_bundles.proofs.LineLaws.{Passed}
use Rattle.ras_bundles.proofs.shape_lines.function_lines.Given as goal

abbrev pub invariant-loop-n : goal.invariant-loop-n
invariant-loop-n l = record {
  passed : Passed (function_checks l.lines) l.lines.functions l.first l.n;
  above : All HasSmallSorts (take l.n l.lines.functions);
}
