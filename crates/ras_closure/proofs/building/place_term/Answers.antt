use Rattle.std.proofs.Common.{◌+◌}
use Rattle.ras_closure.proofs.Pushing.{prefix-known, prefixes-more}
use Rattle.ras_closure.proofs.building.place_term.Goals as goal

pub place-requires-clause-known : goal.place-requires-clause-known
place-requires-clause-known c = rw c.in_ok-base.ensures (prefix-known c.args.schema.now c.args.problem.now.literals c.args.term.now 0 c.requires.known)

pub place-requires-in-loop-k-clause-known : goal.place-requires-in-loop-k-clause-known
place-requires-in-loop-k-clause-known c = rw c.in_ok-longer.ensures (prefix-known c.args.schema.now c.args.problem.now.literals c.args.term.now (c.loop-k.k + 1) c.requires.known)

pub loop-k-preserved : goal.loop-k-preserved
loop-k-preserved c =
    let place = rw c.in_ok-longer.ensures at c.in_ok-at-2.ensures.place in
    record {
      part = c.in_ok-at-2.ensures.part;
      grows = λ i t at. c.in_ok-at-2.ensures.grows i t (c.loop-k.invariant.grows i t at);
      place = place;
      prefixes = prefixes-more c.loop-k.terms c.place-in-loop-k.new.terms c.args.term.now c.loop-k.k c.in_ok-at-2.at c.in_ok-at-2.ensures.grows c.loop-k.invariant.prefixes place;
    }
