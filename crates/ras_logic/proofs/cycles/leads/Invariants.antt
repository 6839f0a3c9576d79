use Rattle.std.proofs.Common.{◌≡◌, ℕ, ◌<◌, false, get_or, nat_eq}
use Rattle.ras_logic.specs.Leading.{leads}
use Rattle.ras_logic.proofs.cycles.leads.Given as goal

abbrev pub invariant-loop-round : goal.invariant-loop-round
invariant-loop-round g l = (s : ℕ) → s < 64 → get_or l.marked s false ≡ leads nat_eq g.A.Arrow.source g.A.Arrow.target l.functions l.round s l.to
