use Rattle.std.proofs.Common.{◌≡◌, length}
use Rattle.std.specs.Prelude.{sum}
use Rattle.ras_closure.specs.Classes.{Coarsens}
use Rattle.ras_closure.specs.Partitions.{ArePartial}
use Rattle.ras_closure.specs.Verdicts.{IsVerdict}
use Rattle.ras_closure.proofs.saturation.saturate.Given as goal

abbrev pub invariant-loop-pair : goal.invariant-loop-pair
invariant-loop-pair l = record {
  partial : ArePartial l.table l.marks l.classes;
  coarser : Coarsens l.fn.classes l.classes;
  verdict : IsVerdict l.table l.marks l.classes l.clash;
  width : l.signatures.width ≡ length l.table.terms;
  functions : l.signatures.functions ≡ length l.table.shape.schema.functions;
}

abbrev pub decreases-loop-pair : goal.decreases-loop-pair
decreases-loop-pair l = sum l.classes
