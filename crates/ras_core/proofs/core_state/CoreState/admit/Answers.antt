use Rattle.std.proofs.Common.{◌<◌, length, sym, subst}
use Rattle.ras_core.specs.CoreStates.{CoreParts}
use Rattle.ras_core.specs.Bookkeeping.{SearchParts, IsWithin}
use Rattle.ras_core.proofs.Booked.{booked_admit, admitted_state, admitted_items, open_within}
use Rattle.ras_core.proofs.core_state.CoreState.admit.Goals as goal

pub invariant_of-self-2 : goal.invariant_of-self-2
invariant_of-self-2 c =
    booked_admit c.self.inside.budget c.self.inside.goals c.self.inside.marks c.self.inside.entries.items c.self.inside.free_from c.self.inside.unfinished_from c.args.origin c.args.kept
    c.self.invariant c.submit_in.new.marks c.push_reserved.new.self.items
    (subst (λ (p : SearchParts). length p.state.entries < p.budget) (sym c.self.view_is) c.requires.room) c.in_ok-submit_in.ensures.marks_ok
    (admitted_items c.self.inside.entries.items c.reserve.new.self.items c.submit_in.new.entries.items c.push_reserved.new.self.items c.args.origin c.args.kept c.args.submitted
    c.new-entry.result c.requires.same c.in_ok-reserve.ensures.items c.in_ok-submit_in.ensures.entries_ok c.new-entry.ensures c.push_reserved.ensures.items)

pub returns-clause-ok : goal.returns-clause-ok
returns-clause-ok c =
    admitted_state c.args.self.now c.args.origin c.args.kept c.self.inside.goals c.self.inside.budget c.self.inside.marks c.submit_in.new.marks c.self.inside.entries.items
    c.push_reserved.new.self.items _ _ c.self.inside.reported c.self.view_is
    (subst (λ (p : SearchParts). let s : CoreParts = p.state in IsWithin (length s.submitted) (length s.entries) c.args.origin) (sym c.self.view_is)
    (open_within c.args.self.now.state c.args.origin c.requires.within)) c.in_ok-submit_in.ensures.marks_ok
    (admitted_items c.self.inside.entries.items c.reserve.new.self.items c.submit_in.new.entries.items c.push_reserved.new.self.items c.args.origin c.args.kept c.args.submitted
    c.new-entry.result c.requires.same c.in_ok-reserve.ensures.items c.in_ok-submit_in.ensures.entries_ok c.new-entry.ensures c.push_reserved.ensures.items)
