use Rattle.std.proofs.Common.{take}
use Rattle.ras_sat.specs.Splits.{IsEachOpen}
use Rattle.ras_sat.proofs.pruning.first_closing.Given as goal

abbrev pub invariant-loop-place : goal.invariant-loop-place
invariant-loop-place l = IsEachOpen l.task l.facts (take l.place l.trees)
