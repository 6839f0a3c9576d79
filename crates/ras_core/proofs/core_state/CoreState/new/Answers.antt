use Rattle.ras_core.proofs.Booking.{fresh_state}
use Rattle.ras_core.proofs.core_state.CoreState.new.Goals as goal

pub returns : goal.returns
returns c = fresh_state c.args.goals c.args.budget c.new.result.items c.requires c.new.ensures.items
