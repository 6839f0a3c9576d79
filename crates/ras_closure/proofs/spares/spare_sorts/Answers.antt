use Rattle.std.proofs.Common.{◌≡◌, ◌<◌, ◌∙◌, List, Bool, true, false, length, get_or, subst}
use Rattle.std.proofs.Math.ListN.{length-set}
use Rattle.ras_closure.specs.Spares.{IsNeeded, AreSpared}
use Rattle.ras_closure.proofs.Gaps.{needed-more, unset-set}
use Rattle.ras_closure.proofs.spares.spare_sorts.Goals as goal

pub loop-sort-preserved : goal.loop-sort-preserved
loop-sort-preserved c =
    let open_yet = subst (λ (xs : List Bool). (c.in-Some.sort < length xs) × (get_or xs c.in-Some.sort false ≡ false)) c.deref.ensures.value c.in-Some.ensures.open in
    let needed = subst (λ (xs : List Bool). IsNeeded c.args.table.now.shape.schema.functions c.args.lacking.now xs c.in-Some.sort) c.deref.ensures.value c.in-Some.ensures.needed in
    record {
      long = length-set c.loop-sort.spares.items c.in-Some.sort true ∙ c.loop-sort.invariant.long;
      needed = needed-more c.args.table.now.shape.schema.functions c.args.lacking.now c.loop-sort.spares.items c.in-Some.sort open_yet.0 c.loop-sort.invariant.needed needed;
    }

pub loop-sort-smaller : goal.loop-sort-smaller
loop-sort-smaller c =
    let open_yet = subst (λ (xs : List Bool). (c.in-Some.sort < length xs) × (get_or xs c.in-Some.sort false ≡ false)) c.deref.ensures.value c.in-Some.ensures.open in
    unset-set c.loop-sort.spares.items c.in-Some.sort open_yet.0 open_yet.1

pub returns : goal.returns
returns c = record {
  long = c.loop-sort.invariant.long;
  spared = subst (λ (xs : List Bool). AreSpared c.args.table.now.shape.schema.functions c.args.lacking.now xs (length c.args.table.now.shape.schema.functions)) c.deref.ensures.value
      c.in_default.ensures.needed;
  needed = c.loop-sort.invariant.needed;
}
