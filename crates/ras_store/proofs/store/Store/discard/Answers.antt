use Rattle.ras_store.proofs.Fields.{room_for, dropped_fields}
use Rattle.ras_store.proofs.store.Store.discard.Goals as goal

pub add-requires : goal.add-requires
add-requires c =
    let s = c.self.inside in
    room_for s.system s.core s.journal.events s.witnesses.items s.serials.items s.hit s.spill s.ready.items s.journal.room s.widest c.self.invariant c.args.self.now c.self.view_is
    c.args.entry c.requires.bookkeeping.1.0 c.requires.bookkeeping.1.1

pub invariant_of-self : goal.invariant_of-self
invariant_of-self c =
    let s = c.self.inside in
    dropped_fields s.system s.core s.journal.events s.witnesses.items s.serials.items s.hit s.spill s.ready.items s.journal.room s.widest c.self.invariant c.args.self.now c.self.view_is
    c.drop_entry.new.self c.add.new.self.events c.add.new.self.room c.args.entry c.args.by c.requires c.drop_entry.ensures c.add.ensures.events c.add.ensures.room
