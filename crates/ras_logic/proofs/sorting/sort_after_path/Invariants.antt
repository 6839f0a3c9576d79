use Rattle.std.proofs.Common.{◌≡◌, drop}
use Rattle.ras_logic.specs.Terms.{sort_along}
use Rattle.ras_logic.proofs.sorting.sort_after_path.Given as goal

abbrev pub invariant-loop-f : goal.invariant-loop-f
invariant-loop-f l = sort_along l.schema l.path l.fn.start ≡ sort_along l.schema (drop l.f-index l.path) l.sort
