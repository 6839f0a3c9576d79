use Rattle.std.proofs.Common.{◌≡◌, take}
use Rattle.ras_store.specs.Holding.{kept_from}
use Rattle.ras_store.proofs.naming.kept_names.Given as goal

abbrev pub invariant-loop-number : goal.invariant-loop-number
invariant-loop-number l = l.names.items ≡ kept_from 0 (take l.number l.entries)
