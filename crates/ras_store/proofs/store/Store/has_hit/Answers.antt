use Rattle.std.proofs.Common.{subst}
use Rattle.std.specs.Bool.{OnTrue}
use Rattle.ras_store.specs.Stores.{StoreParts}
use Rattle.ras_store.specs.Holding.{HasHit}
use Rattle.ras_store.proofs.Answered.{hit_there}
use Rattle.ras_store.proofs.store.Store.has_hit.Goals as goal

pub returns-clause-hit : goal.returns-clause-hit
returns-clause-hit c =
    subst (λ (s : StoreParts). OnTrue c.is_some.result (HasHit s.state)) c.self.view_is (hit_there _ c.self.invariant.lawful c.is_some.result c.is_some.ensures)
