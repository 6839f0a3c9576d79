use Rattle.std.proofs.Common.{sym, subst}
use Rattle.ras_logic.specs.declared.problem.Problem.{Problem}
use Rattle.ras_core.specs.declared.event.Event.TheVariants as event
use Rattle.ras_core.specs.Events.{Allowed}
use Rattle.ras_store.specs.Sites.{origin_of}
use Rattle.ras_store.specs.Holding.{numbers_of}
use Rattle.ras_store.proofs.Justified.{skip_allowed}
use Rattle.ras_store.proofs.store.Store.skip.Goals as goal

pub submit-requires : goal.submit-requires
submit-requires c =
    rw (c.origin.ensures, c.in_ok-numbers.ensures)
    (subst (λ (x : Problem). Allowed c.args.self.now.system c.args.self.now.budget c.args.self.now.state (event.Skip (origin_of c.args.site.now) x (numbers_of c.args.reasons.now)))
    (sym c.cube.view_is)
    (skip_allowed c.args.self.now c.known.ensures c.args.site.now c.args.cube c.args.reasons.now c.in_default.ensures.none c.in_default-first_lost.ensures.none c.requires.comes c.requires.reasoned))
