use Rattle.std.proofs.Common.{ap, ◌∙◌}
use Rattle.ras_core.specs.Bookkeeping.{SearchParts}
use Rattle.ras_core.proofs.Booking.{done_exactly}
use Rattle.ras_core.proofs.core_state.CoreState.all_done.Goals as goal

pub returns : goal.returns
returns c =
    done_exactly c.args.self.now.state c.as_slice-entries.result.now c.first_from.result
    (c.as_slice-entries.ensures.value ∙ ap (λ (p : SearchParts). p.state.entries) c.self.view_is) c.first_from.ensures
