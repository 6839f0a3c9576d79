use Rattle.std.proofs.Common.{◌≡◌, ℕ, ◌++◌, List, take, map, flat_map, codes}
use Rattle.ras_print.specs.Items.{conjunction_item}
use Rattle.ras_print.specs.Scopes.{scope_of}
use Rattle.ras_names.specs.Canonical.{conjunction_text}
use Rattle.ras_print.proofs.formulas.put_disjuncts.Given as goal

abbrev pub invariant-loop-disjunct : goal.invariant-loop-disjunct
invariant-loop-disjunct l = l.out.items ≡ l.initial.out.items ++ flat_map (λ (u : List ℕ). codes " or " ++ u) (map conjunction_text (map (conjunction_item (scope_of l.scope)) (take l.disjunct-index l.others)))
