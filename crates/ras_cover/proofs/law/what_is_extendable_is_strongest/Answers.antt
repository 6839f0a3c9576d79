use Rattle.ras_cover.proofs.Extending.{extendable-strongest}
use Rattle.ras_cover.proofs.law.what_is_extendable_is_strongest.Goals as goal

pub returns : goal.returns
returns c = extendable-strongest
