use Rattle.std.proofs.Common.{◌≡◌, take}
use Rattle.ras_store.specs.Comparing.{MeetsNone, cubes_in}
use Rattle.ras_store.proofs.comparing.first_met.Given as goal

abbrev pub invariant-loop-number : goal.invariant-loop-number
invariant-loop-number l = (l.found.room ≡ l.widest) × MeetsNone l.witness.db l.witness.state (take l.number (cubes_in l.entries))
