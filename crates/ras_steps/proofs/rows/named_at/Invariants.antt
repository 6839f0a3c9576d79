use Rattle.std.proofs.Common.{◌≡◌, drop}
use Rattle.ras_system.specs.Steps.{named_from}
use Rattle.ras_steps.proofs.rows.named_at.Given as goal

abbrev pub invariant-loop-k : goal.invariant-loop-k
invariant-loop-k l = named_from 0 l.rows l.chosen l.relation l.row ≡ named_from l.k (drop l.k l.rows) (drop l.k l.chosen) l.relation l.row
