use Rattle.std.proofs.Common.{◌≡◌, length}
use Rattle.ras_sat.specs.Tasks.{AreFirstOpposites}
use Rattle.ras_sat.proofs.opposites.all_opposites.Given as goal

abbrev pub invariant-loop-instance : goal.invariant-loop-instance
invariant-loop-instance l = record {
  long : length l.all.items ≡ l.instance-index;
  opposites : AreFirstOpposites l.shape l.premise l.formulas l.instances l.all.items;
}
