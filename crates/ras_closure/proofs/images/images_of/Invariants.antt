use Rattle.std.proofs.Common.{◌≡◌, length}
use Rattle.ras_closure.specs.Images.{AreImages}
use Rattle.ras_closure.proofs.images.images_of.Given as goal

abbrev pub invariant-loop-k : goal.invariant-loop-k
invariant-loop-k l = record {
  long : length l.images.items ≡ l.count;
  images : AreImages l.table l.numbers l.function l.k l.images.items;
}
