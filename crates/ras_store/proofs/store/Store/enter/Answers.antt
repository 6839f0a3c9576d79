use Rattle.std.proofs.Common.{ℕ, List, [], ◌∷◌, ◌++◌, length, refl, ap, ◌∙◌, arith}
use Rattle.std.specs.Prelude.{Option, Some}
use Rattle.ras_logic.specs.declared.problem.Problem.{Problem}
use Rattle.ras_steps.specs.declared.witness.Witness.{Witness}
use Rattle.ras_core.specs.declared.event.Event.TheVariants as event
use Rattle.ras_core.specs.Bookkeeping.{with_event}
use Rattle.ras_store.proofs.Fields.{roomier_fields, entry_fields}
use Rattle.ras_store.proofs.store.Store.enter.Goals as goal

pub invariant_of-self-in_err-make_room_beside : goal.invariant_of-self-in_err-make_room_beside
invariant_of-self-in_err-make_room_beside c =
    let s = c.self.inside in
    roomier_fields s.system s.core s.journal.events s.witnesses.items s.serials.items s.hit s.spill s.ready.items s.journal.room s.widest c.self.invariant c.args.self.now c.self.view_is
    s.core c.make_room.new.self.events c.make_room_beside.new.witnesses.items c.make_room_beside.new.serials.items c.make_room_beside.new.ready.items c.make_room.new.self.room refl
    c.make_room.ensures.events c.make_room_beside.ensures.witnesses c.make_room_beside.ensures.serials c.make_room_beside.ensures.ready c.make_room.ensures.more

pub invariant_of-self-in_err-admit : goal.invariant_of-self-in_err-admit
invariant_of-self-in_err-admit c =
    let s = c.self.inside in
    roomier_fields s.system s.core s.journal.events s.witnesses.items s.serials.items s.hit s.spill s.ready.items s.journal.room s.widest c.self.invariant c.args.self.now c.self.view_is
    c.admit.new.self c.make_room.new.self.events c.make_room_beside.new.witnesses.items c.make_room_beside.new.serials.items c.make_room_beside.new.ready.items c.make_room.new.self.room c.in_err-admit.ensures.err
    c.make_room.ensures.events c.make_room_beside.ensures.witnesses c.make_room_beside.ensures.serials c.make_room_beside.ensures.ready c.make_room.ensures.more

pub invariant_of-self-2 : goal.invariant_of-self-2
invariant_of-self-2 c =
    let s = c.self.inside in
    entry_fields s.system s.core s.journal.events s.witnesses.items s.serials.items s.hit s.spill s.ready.items s.journal.room s.widest c.self.invariant c.args.self.now c.self.view_is
    c.admit.new.self c.add.new.self.events c.add.new.self.room c.make_room.new.self.events c.make_room.ensures.events c.make_room.new.self.room
    (let ok = c.in_ok-make_room.ensures.ok in let n = ap length c.entries.ensures.entries in omega (arith, ok, n)) c.add.ensures.room
    c.args.origin c.args.cube c.args.witness c.push_reserved.new.self.items c.push_reserved-2.new.self.items c.push_reserved-3.new.self.items c.max-self-inside.result
    c.requires.allowed c.requires.new
    (c.in_ok-admit.ensures.ok ∙ ap (λ (x : Problem). with_event s.core (event.Admit c.args.origin x)) c.in_ok-kept.ensures.first) c.add.ensures.events
    (c.push_reserved.ensures.items ∙ ap (λ (xs : List Witness). xs ++ c.args.witness ∷ []) c.make_room_beside.ensures.witnesses)
    (c.push_reserved-2.ensures.items ∙ ap (λ (xs : List ℕ). xs ++ 0 ∷ []) c.make_room_beside.ensures.serials)
    (c.push_reserved-3.ensures.items
    ∙ (ap (λ (x : Problem). c.make_room_beside.new.ready.items ++ Some x ∷ []) c.in_ok-kept.ensures.third ∙ ap (λ (xs : List (Option Problem)). xs ++ Some c.args.cube ∷ []) c.make_room_beside.ensures.ready))
    (let m = c.max-self-inside.ensures in omega (arith, m))
    (let m = c.max-self-inside.ensures in let r = c.rows.ensures ∙ ap (λ (x : Problem). x.rows) c.get-2.ensures in let n = ap length r in omega (arith, m, n))
