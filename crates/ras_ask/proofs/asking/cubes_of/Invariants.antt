use Rattle.std.proofs.Common.{◌≡◌, take}
use Rattle.ras_store.specs.Holding.{named_cubes}
use Rattle.ras_ask.proofs.asking.cubes_of.Given as goal

abbrev pub invariant-loop-named : goal.invariant-loop-named
invariant-loop-named l = l.cubes ≡ named_cubes (take l.named-index l.names)
