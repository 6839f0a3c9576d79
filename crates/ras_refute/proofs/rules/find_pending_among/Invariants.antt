use Rattle.std.proofs.Common.{ℕ, ◌<◌, ◌≤◌}
use Rattle.ras_refute.specs.Classes.{RespectRulesAt}
use Rattle.ras_refute.proofs.rules.find_pending_among.Given as goal

abbrev pub invariant-loop-at : goal.invariant-loop-at
invariant-loop-at l = (k : ℕ) → k < l.at → l.first ≤ k → RespectRulesAt l.schema l.table.entries l.classes k
