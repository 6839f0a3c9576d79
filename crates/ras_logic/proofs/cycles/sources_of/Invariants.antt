use Rattle.std.proofs.Common.{length, ◌≡◌, ℕ, ◌<◌, false, get_or, take}
use Rattle.std.specs.List.{list_any}
use Rattle.ras_logic.proofs.Leading.{leads_on}
use Rattle.ras_logic.proofs.cycles.sources_of.Given as goal

abbrev pub invariant-loop-f : goal.invariant-loop-f
invariant-loop-f g l = record {
  as_long : length l.sources ≡ 64;
  marks : (s : ℕ) → s < 64 → get_or l.sources s false ≡ list_any (leads_on g.A.Arrow.source g.A.Arrow.target l.functions l.marked s) (take l.f-index l.functions);
}
