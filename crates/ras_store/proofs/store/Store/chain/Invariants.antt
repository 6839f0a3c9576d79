use Rattle.std.proofs.Common.{◌<◌, length}
use Rattle.ras_store.specs.Following.{FollowOrigins}
use Rattle.ras_store.proofs.store.Store.chain.Given as goal

abbrev pub invariant-loop-next : goal.invariant-loop-next
invariant-loop-next l = FollowOrigins l.self.state l.number l.links.items l.at × (l.at < length l.entries)

abbrev pub decreases-loop-next : goal.decreases-loop-next
decreases-loop-next l = l.at
