use Rattle.std.proofs.Common.{◌≡◌, ℕ, ◌++◌, List, take, map, flat_map, codes}
use Rattle.ras_print.specs.Items.{literal_item}
use Rattle.ras_print.specs.Scopes.{scope_of}
use Rattle.ras_names.specs.Canonical.{literal_text}
use Rattle.ras_print.proofs.formulas.put_conjunction.Given as goal

abbrev pub invariant-loop-literal : goal.invariant-loop-literal
invariant-loop-literal l = l.out.items ≡ l.initial.out.items ++ flat_map (λ (u : List ℕ). codes " and " ++ u) (map literal_text (map (literal_item (scope_of l.scope)) (take l.literal-index l.others)))
