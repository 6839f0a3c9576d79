use Rattle.std.proofs.Common.{refl}
use Rattle.ras_store.proofs.Justified.{done_allowed}
use Rattle.ras_store.proofs.store.Store.finish.Goals as goal

pub end-requires : goal.end-requires
end-requires c = done_allowed c.args.self.now c.args.ticket.now c.args.all.now (c.if-not-honours.ensures.0 refl) c.in-None.ensures.none c.requires.worked_out
