use Rattle.std.proofs.Common.{◌≡◌, take}
use Rattle.ras_system.specs.Steps.{written, term_for_var}
use Rattle.ras_steps.specs.Sights.{seen}
use Rattle.ras_steps.proofs.changes.vars_after.Given as goal

abbrev pub invariant-loop-number : goal.invariant-loop-number
invariant-loop-number l = l.after ≡ written l.db (seen l.sight) (term_for_var l.updates) (take l.number l.vars)
