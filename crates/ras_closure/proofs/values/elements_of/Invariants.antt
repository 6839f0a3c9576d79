use Rattle.std.proofs.Common.{◌≡◌, length}
use Rattle.ras_closure.specs.Values.{AreElementsTo, base_of}
use Rattle.ras_closure.proofs.values.elements_of.Given as goal

abbrev pub invariant-loop-i : goal.invariant-loop-i
invariant-loop-i l = record {
  long : length l.elements.items ≡ l.count;
  elements : AreElementsTo l.table.terms l.numbers (base_of l.bases) l.count l.i l.elements.items;
}
