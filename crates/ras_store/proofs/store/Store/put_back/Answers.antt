use Rattle.std.proofs.Common.{length, ap, arith}
use Rattle.ras_store.proofs.Fields.{returned_fields}
use Rattle.ras_store.proofs.store.Store.put_back.Goals as goal

pub invariant_of-self-2 : goal.invariant_of-self-2
invariant_of-self-2 c =
    let s = c.self.inside in
    returned_fields s.system s.core s.journal.events s.witnesses.items s.serials.items s.hit s.spill s.ready.items s.journal.room s.widest c.self.invariant c.args.self.now c.self.view_is
    c.give_back.new.self c.add.new.self.events c.add.new.self.room c.make_room.new.self.events c.make_room.ensures.events c.make_room.new.self.room
    (let ok = c.in_ok-make_room.ensures.ok in let n = ap length c.entries.ensures.entries in omega (arith, ok, n)) c.add.ensures.room
    c.args.entry c.args.cube c.put_ready.new.ready.items c.renew_serial.new.serials.items c.requires c.put_ready.ensures c.renew_serial.ensures c.give_back.ensures c.add.ensures.events
