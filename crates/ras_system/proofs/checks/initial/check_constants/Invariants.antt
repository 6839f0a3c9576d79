use Rattle.std.specs.List.{zip}
use Rattle.ras_system.specs.SystemFaults.{constant_checks}
use Rattle.ras_system.proofs.FirstFaults.{Passed}
use Rattle.ras_system.proofs.checks.initial.check_constants.Given as goal

abbrev pub invariant-loop-k : goal.invariant-loop-k
invariant-loop-k l = Passed (constant_checks l.schema) (zip l.vars l.constants) l.k
