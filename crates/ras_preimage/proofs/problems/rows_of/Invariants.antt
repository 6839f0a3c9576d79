use Rattle.std.proofs.Common.{◌≡◌, ◌++◌, map, take}
use Rattle.ras_preimage.specs.declared.unmatched_rows.UnmatchedRow.{UnmatchedRow}
use Rattle.ras_preimage.proofs.problems.rows_of.Given as goal

abbrev pub invariant-loop-row : goal.invariant-loop-row
invariant-loop-row l = l.rows ≡ l.initial.rows ++ map (λ (u : UnmatchedRow). u.relation) (take l.row-index l.unmatched)
