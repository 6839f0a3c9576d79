use Rattle.ras_core.proofs.Booked.{booked_submit, submitted_state}
use Rattle.ras_core.proofs.core_state.CoreState.submit.Goals as goal

pub invariant_of-self-2 : goal.invariant_of-self-2
invariant_of-self-2 c =
    booked_submit c.self.inside.budget c.self.inside.goals c.self.inside.marks c.self.inside.entries.items c.self.inside.free_from c.self.inside.unfinished_from c.args.origin c.args.cube
    c.self.invariant c.submit_in.new.marks c.submit_in.new.entries.items c.in_ok-submit_in.ensures.marks_ok c.in_ok-submit_in.ensures.entries_ok

pub returns-clause-ok : goal.returns-clause-ok
returns-clause-ok c =
    submitted_state c.args.self.now c.args.origin c.args.cube c.self.inside.goals c.self.inside.budget c.self.inside.marks c.submit_in.new.marks c.self.inside.entries.items
    c.submit_in.new.entries.items _ _ c.self.inside.reported c.self.view_is c.in_ok-submit_in.ensures.marks_ok c.in_ok-submit_in.ensures.entries_ok
