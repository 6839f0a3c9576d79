use Rattle.std.proofs.Common.{◌≡◌, length, refl, subst, arith}
use Rattle.std.specs.Prelude.{slice_get, Some}
use Rattle.std.proofs.lemmas.Option.{slice_get_read}
use Rattle.ras_store.specs.Stores.{StoreParts}
use Rattle.ras_store.proofs.Fields.{room_for, serial_there, claimed_fields}
use Rattle.ras_store.proofs.store.Store.take.Goals as goal

pub add-requires : goal.add-requires
add-requires c =
    let s = c.self.inside in
    let at = c.requires in
    room_for s.system s.core s.journal.events s.witnesses.items s.serials.items s.hit s.spill s.ready.items s.journal.room s.widest c.self.invariant c.args.self.now c.self.view_is
    c.args.entry at.0 (at.1.0, at.1.1)

pub index-serial-requires : goal.index-serial-requires
index-serial-requires c =
    let s = c.self.inside in
    let lt = serial_there s.system s.core s.journal.events s.witnesses.items s.serials.items s.hit s.spill s.ready.items s.journal.room s.widest c.self.invariant c.args.self.now c.self.view_is
    c.args.entry c.requires.0 c.requires.1.0 in
    let n = s.serials.ok in omega (arith, lt, n)

pub invariant_of-self : goal.invariant_of-self
invariant_of-self c =
    let s = c.self.inside in
    claimed_fields s.system s.core s.journal.events s.witnesses.items s.serials.items s.hit s.spill s.ready.items s.journal.room s.widest c.self.invariant c.args.self.now c.self.view_is
    c.claim.new.self c.add.new.self.events c.add.new.self.room c.args.entry c.take_ready-cube.new.ready.items c.requires c.take_ready-cube.ensures.taken c.claim.ensures c.add.ensures.events
    c.add.ensures.room

pub returns-clause-serial : goal.returns-clause-serial
returns-clause-serial c =
    let s = c.self.inside in
    let lt = serial_there s.system s.core s.journal.events s.witnesses.items s.serials.items s.hit s.spill s.ready.items s.journal.room s.widest c.self.invariant c.args.self.now c.self.view_is
    c.args.entry c.requires.0 c.requires.1.0 in
    subst (λ (x : StoreParts). slice_get x.serials c.args.entry ≡ Some c.index-serial.result.now) c.self.view_is
    (slice_get_read s.serials.items (length s.serials.items) c.args.entry c.index-serial.result.now refl lt c.index-serial.ensures)
