use Rattle.std.proofs.Common.{◌≡◌, ℕ, List, map, take}
use Rattle.std.specs.List.{enumerate_from}
use Rattle.ras_system.specs.Steps.{row_after as the_row_after}
use Rattle.ras_steps.specs.Sights.{seen}
use Rattle.ras_steps.proofs.rows.relations_after.Given as goal

abbrev pub invariant-loop-relation : goal.invariant-loop-relation
invariant-loop-relation l =
    l.after ≡ map (λ (q : ℕ × List (List ℕ)). map (λ (p : ℕ × List ℕ). the_row_after l.db (seen l.sight) l.transition l.sight.chosen.now q.0 p.0 p.1) (enumerate_from 0 q.1)) (enumerate_from 0 (take l.relation l.relations))
