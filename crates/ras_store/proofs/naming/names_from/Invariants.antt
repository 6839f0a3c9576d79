use Rattle.std.proofs.Common.{◌≡◌, ◌-◌, take, drop}
use Rattle.ras_store.specs.Holding.{named_from}
use Rattle.ras_store.proofs.naming.names_from.Given as goal

abbrev pub invariant-loop-number : goal.invariant-loop-number
invariant-loop-number l = l.names.items ≡ named_from l.from (take (l.number - l.from) (drop l.from l.entries))
