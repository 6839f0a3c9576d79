use Rattle.std.proofs.Common.{arith, ◌∙◌}
use Rattle.ras_closure.proofs.CongruentImages.{congruent-more, congruent-saturated}
use Rattle.ras_closure.proofs.saturation.find_pending_pair.Goals as goal

pub loop-i-preserved : goal.loop-i-preserved
loop-i-preserved c = record {
  congruent = congruent-more c.args.table.now c.args.classes.now c.loop-i.signatures c.find_pending_at.new.signatures c.loop-i.i c.known.ensures c.requires.below.below c.loop-i.invariant.width
      c.loop-i.invariant.congruent c.in_default.ensures.found;
  width = c.in_default.ensures.width ∙ c.loop-i.invariant.width;
  functions = c.in_default.ensures.functions ∙ c.loop-i.invariant.functions;
}

pub returns-clause-found : goal.returns-clause-found
returns-clause-found c =
    congruent-saturated c.args.table.now c.args.classes.now c.loop-i.signatures c.loop-i.i (omega (arith, c.known.ensures.links.as_many, c.len-i-end.ensures)) c.loop-i.invariant.congruent
