use Rattle.std.proofs.Common.{sym, ◌∙◌, ap}
use Rattle.ras_store.specs.Stores.{StoreParts}
use Rattle.ras_store.proofs.Fields.{reported_fields}
use Rattle.ras_store.proofs.store.Store.report.Goals as goal

pub invariant_of-self : goal.invariant_of-self
invariant_of-self c =
    let s = c.self.inside in
    reported_fields s.system s.core s.journal.events s.witnesses.items s.serials.items s.hit s.spill s.ready.items s.journal.room s.widest c.self.invariant c.args.self.now c.self.view_is
    c.report_idle.new.self c.add.new.self.events c.add.new.self.room
    (record { bookkeeping = (c.requires, ap (λ (x : StoreParts). x.state.reported) (sym c.self.view_is) ∙ (sym c.is_reported.ensures ∙ c.if-not-is_reported.true)); states = tt })
    c.report_idle.ensures c.add.ensures.events c.add.ensures.room
