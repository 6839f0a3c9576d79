use Rattle.std.proofs.Common.{◌≡◌, take}
use Rattle.ras_store.specs.Holding.{numbers_of}
use Rattle.ras_store.proofs.naming.numbers.Given as goal

abbrev pub invariant-loop-named : goal.invariant-loop-named
invariant-loop-named l = l.numbers ≡ numbers_of (take l.named-index l.names)
