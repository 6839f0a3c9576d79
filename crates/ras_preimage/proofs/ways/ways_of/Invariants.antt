use Rattle.std.proofs.Common.{◌≡◌, ◌++◌, [], map, take, drop}
use Rattle.ras_logic.specs.Formulas.{replace}
use Rattle.ras_system.specs.Preimages.{renumbered_row, refusals, case_choices_from}
use Rattle.ras_backwards.proofs.Combinations.{cases_of}
use Rattle.ras_preimage.specs.Parts.{way_of, in_problem}
use Rattle.ras_preimage.proofs.ways.ways_of.Given as goal

abbrev pub invariant-loop-i : goal.invariant-loop-i
invariant-loop-i l = record {
  before : l.before ≡ map (map (replace (renumbered_row l.updated l.number))) (refusals (cases_of (take l.i l.bulk) l.relation));
  ways : map (way_of l.bulk) l.ways ++ map (in_problem l.updated) (case_choices_from l.number (cases_of (take l.i l.bulk) l.relation) (cases_of (drop l.i l.bulk) l.relation))
      ≡ map (in_problem l.updated) (case_choices_from l.number [] (cases_of l.bulk l.relation));
}
