use Rattle.std.proofs.Common.{ap}
use Rattle.ras_core.specs.Bookkeeping.{SearchParts}
use Rattle.ras_core.proofs.Booked.{booked_drop}
use Rattle.ras_core.proofs.core_state.CoreState.drop_entry.Goals as goal

pub invariant_of-self : goal.invariant_of-self
invariant_of-self c =
    booked_drop c.args.self.now c.args.entry c.self.inside.budget c.self.inside.goals c.self.inside.marks c.self.inside.entries.items c.drop_at.new.entries.items c.self.inside.free_from c.self.inside.unfinished_from
    (ap (λ (p : SearchParts). p.state.entries) c.self.view_is) c.self.invariant c.drop_at.ensures
