use Rattle.std.proofs.Common.{◌≡◌, ◌++◌, take, flat_map}
use Rattle.ras_print.specs.Printed.{sort_text}
use Rattle.ras_print.proofs.declarations.put_sorts.Given as goal

abbrev pub invariant-loop-name : goal.invariant-loop-name
invariant-loop-name l = l.out.items ≡ l.initial.out.items ++ flat_map (sort_text) (take l.name-index l.names)
