use Rattle.std.proofs.Common.{take}
use Rattle.ras_store.specs.Holding.{AreKept}
use Rattle.ras_store.proofs.store.Store.first_lost.Given as goal

abbrev pub invariant-loop-named : goal.invariant-loop-named
invariant-loop-named l = AreKept l.self.state (take l.named-index l.names)
