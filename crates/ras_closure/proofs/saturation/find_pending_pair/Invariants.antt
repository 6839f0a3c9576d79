use Rattle.std.proofs.Common.{◌≡◌, length}
use Rattle.ras_closure.specs.Signatures.{HaveCongruentImages}
use Rattle.ras_closure.proofs.saturation.find_pending_pair.Given as goal

abbrev pub invariant-loop-i : goal.invariant-loop-i
invariant-loop-i l = record {
  congruent : HaveCongruentImages l.table l.classes l.signatures l.i;
  width : l.signatures.width ≡ length l.table.terms;
  functions : l.signatures.functions ≡ length l.table.shape.schema.functions;
}
