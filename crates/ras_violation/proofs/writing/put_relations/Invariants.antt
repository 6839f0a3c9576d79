use Rattle.std.proofs.Common.{◌≡◌, ◌++◌, take, flat_map}
use Rattle.ras_violation.specs.ReplayTexts.{rows_text}
use Rattle.ras_violation.proofs.writing.put_relations.Given as goal

abbrev pub invariant-loop-rows : goal.invariant-loop-rows
invariant-loop-rows l = l.out.items ≡ l.initial.out.items ++ flat_map rows_text (take l.rows-index l.relations)
