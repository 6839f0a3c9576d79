use Rattle.std.proofs.Common.{◌≡◌, ℕ, List, map, take}
use Rattle.std.specs.List.{enumerate_from}
use Rattle.ras_system.specs.Steps.{row_after as the_row_after}
use Rattle.ras_steps.specs.Sights.{seen}
use Rattle.ras_steps.proofs.rows.rows_after.Given as goal

abbrev pub invariant-loop-row : goal.invariant-loop-row
invariant-loop-row l = l.after ≡ map (λ (p : ℕ × List ℕ). the_row_after l.db (seen l.sight) l.transition l.sight.chosen.now l.relation p.0 p.1) (enumerate_from 0 (take l.row l.rows))
