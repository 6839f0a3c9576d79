use Rattle.std.proofs.Common.{◌≡◌, map, drop}
use Rattle.std.specs.List.{flat_map}
use Rattle.ras_system.specs.Preimages.{case_choices}
use Rattle.ras_preimage.specs.Parts.{in_problem, row_of}
use Rattle.ras_preimage.proofs.Combos.{completed}
use Rattle.ras_preimage.proofs.combining.combinations.Given as goal

abbrev pub invariant-loop-row : goal.invariant-loop-row
invariant-loop-row l = flat_map (completed l.updated l.bulk (map row_of (drop l.row-index l.unmatched))) l.all ≡ map (map (in_problem l.updated)) (case_choices l.bulk (map row_of l.unmatched))
