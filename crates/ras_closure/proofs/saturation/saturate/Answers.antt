use Rattle.std.proofs.Common.{◌∙◌, sym}
use Rattle.ras_closure.proofs.Merges.{forced-together, coarsens-through, are-below}
use Rattle.ras_closure.proofs.Verdicts.{verdict-or}
use Rattle.ras_closure.proofs.saturation.saturate.Goals as goal

pub find_pending_pair-requires-clause-below : goal.find_pending_pair-requires-clause-below
find_pending_pair-requires-clause-below c = are-below c.args.table.now c.known.ensures c.args.marks.now c.loop-pair.classes c.loop-pair.invariant.partial

pub merge-found-requires-clause-classes : goal.merge-found-requires-clause-classes
merge-found-requires-clause-classes c = record { width = c.requires.classes.width; partial = c.loop-pair.invariant.partial }

pub merge-found-requires-clause-pair : goal.merge-found-requires-clause-pair
merge-found-requires-clause-pair c = record {
  left = c.in-Some.ensures.found.left;
  right = c.in-Some.ensures.found.right;
  together = forced-together c.args.table.now c.known.ensures c.args.marks.now c.loop-pair.classes c.loop-pair.invariant.partial c.in-Some.pair.left c.in-Some.pair.right c.in-Some.ensures.found.forced;
}

pub loop-pair-smaller : goal.loop-pair-smaller
loop-pair-smaller c = c.merge-found.ensures.fewer

pub loop-pair-preserved : goal.loop-pair-preserved
loop-pair-preserved c = record {
  partial = c.merge-found.ensures.partial;
  coarser = coarsens-through c.args.classes.now c.loop-pair.classes c.merge-found.new.classes (c.loop-pair.invariant.partial.as_many ∙ sym c.requires.classes.partial.as_many) c.loop-pair.invariant.coarser c.merge-found.ensures.coarser;
  verdict = verdict-or c.args.table.now c.args.marks.now c.loop-pair.classes c.merge-found.new.classes c.loop-pair.clash c.merge-found.result c.loop-pair.invariant.verdict c.merge-found.ensures.clash
      c.or-clash.result c.or-clash.ensures;
  width = c.in-Some.ensures.width ∙ c.loop-pair.invariant.width;
  functions = c.in-Some.ensures.functions ∙ c.loop-pair.invariant.functions;
}

pub returns : goal.returns
returns c = record {
  rest = record { partial = c.loop-pair.invariant.partial; saturated = c.in_default.ensures.found; coarser = c.loop-pair.invariant.coarser };
  verdict = c.loop-pair.invariant.verdict;
  signatures = record {
    width = c.in_default.ensures.width ∙ c.loop-pair.invariant.width;
    functions = c.in_default.ensures.functions ∙ c.loop-pair.invariant.functions;
  };
}
