use Rattle.std.proofs.Common.{All, take}
use Rattle.ras_sat.specs.Instances.{IsInstance}
use Rattle.ras_sat.proofs.instances.are_instances.Given as goal

abbrev pub invariant-loop-instance : goal.invariant-loop-instance
invariant-loop-instance l = All (IsInstance l.premise.rows l.formulas) (take l.instance-index l.instances)
