use Rattle.ras_store.proofs.Fields.{room_for, finished_fields}
use Rattle.ras_store.proofs.store.Store.end.Goals as goal

pub add-requires : goal.add-requires
add-requires c =
    let s = c.self.inside in
    let at = c.requires.bookkeeping in
    room_for s.system s.core s.journal.events s.witnesses.items s.serials.items s.hit s.spill s.ready.items s.journal.room s.widest c.self.invariant c.args.self.now c.self.view_is
    c.args.entry at.0 (at.1.0, at.1.1)

pub invariant_of-self : goal.invariant_of-self
invariant_of-self c =
    let s = c.self.inside in
    finished_fields s.system s.core s.journal.events s.witnesses.items s.serials.items s.hit s.spill s.ready.items s.journal.room s.widest c.self.invariant c.args.self.now c.self.view_is
    c.finish.new.self c.add.new.self.events c.add.new.self.room c.args.entry c.requires c.finish.ensures c.add.ensures.events c.add.ensures.room
