use Rattle.std.proofs.Common.{◌≡◌, All, take}
use Rattle.ras_steps.proofs.fitting.relations_are_undef.Given as goal

abbrev pub invariant-loop-rows : goal.invariant-loop-rows
invariant-loop-rows l = All (All (All (λ x. x ≡ 0))) (take l.rows-index l.relations)
