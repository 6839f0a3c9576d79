use Rattle.ras_store.proofs.Justified.{hit_allowed}
use Rattle.ras_store.proofs.store.Store.hit.Goals as goal

pub strike-requires-clause-allowed : goal.strike-requires-clause-allowed
strike-requires-clause-allowed c =
    rw c.origin.ensures
    (hit_allowed c.args.self.now c.known.ensures c.args.site.now c.args.cube c.args.witness c.if-has_hit.ensures.no_hit c.in_default.ensures.none c.requires.comes c.requires.witness)
