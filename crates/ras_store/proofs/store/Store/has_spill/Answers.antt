use Rattle.std.proofs.Common.{subst}
use Rattle.std.specs.Bool.{OnTrue}
use Rattle.ras_store.specs.Stores.{StoreParts}
use Rattle.ras_store.specs.Holding.{HasSpill}
use Rattle.ras_store.proofs.Answered.{spill_there}
use Rattle.ras_store.proofs.store.Store.has_spill.Goals as goal

pub returns-clause-spill : goal.returns-clause-spill
returns-clause-spill c =
    subst (λ (s : StoreParts). OnTrue c.is_some.result (HasSpill s.state)) c.self.view_is (spill_there _ c.self.invariant.lawful c.is_some.result c.is_some.ensures)
