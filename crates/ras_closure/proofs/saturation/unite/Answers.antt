use Rattle.std.proofs.Common.{◌∙◌, sym}
use Rattle.ras_closure.proofs.Merges.{coarsens-through}
use Rattle.ras_closure.proofs.saturation.unite.Goals as goal

pub saturate-requires-clause-classes : goal.saturate-requires-clause-classes
saturate-requires-clause-classes c = record { width = c.requires.classes.width; partial = c.join-clash.ensures.partial }

pub returns : goal.returns
returns c = record {
  rest = record {
    partial = c.saturate.ensures.rest.partial;
    saturated = c.saturate.ensures.rest.saturated;
    coarser = coarsens-through c.args.classes.now c.join-clash.new.classes c.saturate.new.classes (c.join-clash.ensures.partial.as_many ∙ sym c.requires.classes.partial.as_many)
        c.join-clash.ensures.coarser c.saturate.ensures.rest.coarser;
  };
  merged = c.saturate.ensures.rest.coarser c.args.left c.args.right (rw c.join-clash.ensures.partial.as_many c.requires.pair.left) (rw c.join-clash.ensures.partial.as_many c.requires.pair.right)
      c.join-clash.ensures.merged;
  verdict = c.saturate.ensures.verdict;
  signatures = c.saturate.ensures.signatures;
}
