use Rattle.std.proofs.Common.{length, ap, ◌∙◌, arith}
use Rattle.ras_logic.specs.declared.problem.Problem.{Problem}
use Rattle.ras_core.specs.declared.event.Event.TheVariants as event
use Rattle.ras_core.specs.Bookkeeping.{with_event}
use Rattle.ras_store.proofs.Fields.{spill_fields}
use Rattle.ras_store.proofs.store.Store.overflow.Goals as goal

pub invariant_of-self-2 : goal.invariant_of-self-2
invariant_of-self-2 c =
    let s = c.self.inside in
    rw (c.put_found.ensures, c.in_ok-kept.ensures.second)
    (spill_fields s.system s.core s.journal.events s.witnesses.items s.serials.items s.hit s.spill s.ready.items s.journal.room s.widest c.self.invariant c.args.self.now c.self.view_is
    c.keep_spill.new.self c.add.new.self.events c.add.new.self.room c.make_room.new.self.events c.make_room.ensures.events c.make_room.new.self.room
    (let ok = c.in_ok-make_room.ensures.ok in let n = ap length c.entries.ensures.entries in omega (arith, ok, n)) c.add.ensures.room
    c.args.origin c.args.cube c.args.witness c.requires.allowed c.requires.new
    (c.keep_spill.ensures ∙ ap (λ (x : Problem). with_event s.core (event.Spill c.args.origin x)) c.in_ok-kept.ensures.first) c.add.ensures.events)
