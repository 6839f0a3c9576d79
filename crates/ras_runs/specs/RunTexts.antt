-- The text of a run, in numbers that need not fit a system.
use Rattle.std.specs.Prelude.{◌≡◌, ℕ, ◌<◌, ◌^◌, List, ◌∷◌, ◌++◌, length, map, flat_map, codes}
use Rattle.std.specs.Fmt.{decimal}
use Rattle.ras_system.specs.declared.choice.Choice.{Choice}
use Rattle.ras_steps.specs.declared.run.Run.{Run}
use Rattle.ras_lines.specs.Lines.{line, counted, count_line, numbers_line, section, AreWritten}
use Rattle.ras_runs.specs.DatabaseTexts.{AreWrittenNumbers}

-- `row W e1 .. eW`: the cells of a row
abbrev pub row_line : List ℕ → List ℕ
row_line cells = numbers_line (codes "row") cells

-- `rows N` and the rows of a relation
abbrev pub rows_lines : List (List ℕ) → List (List ℕ)
rows_lines rows = section (codes "rows") row_line rows

-- `step T K r1 .. rK M e1 .. eM`: the transition, the chosen rows, the values of the data parameters
abbrev pub step_line : Choice → List ℕ
step_line c = line (codes "step") (decimal c.transition ∷ (counted (map decimal c.rows) ++ counted (map decimal c.values)))

-- `vars K e1 .. eK`, `relations K` and the rows of each, `steps N` and the steps
abbrev pub run_lines : Run → List (List ℕ)
run_lines r =
    numbers_line (codes "vars") r.start.vars
    ∷ ((count_line (codes "relations") (length r.start.relations) ∷ flat_map rows_lines r.start.relations)
    ++ section (codes "steps") step_line r.choices)

-- What can be written: transitions below 65,536, and other numbers and counts below 4,294,967,296.

pub record IsWrittenChoice (c : Choice) : Type 0 where
  pub transition : c.transition < 2 ^ 16
  pub rows : AreWrittenNumbers c.rows
  pub values : AreWrittenNumbers c.values

pub record IsWrittenRun (r : Run) : Type 0 where
  pub vars : AreWrittenNumbers r.start.vars
  pub relations : AreWritten (AreWritten AreWrittenNumbers) r.start.relations
  pub choices : AreWritten IsWrittenChoice r.choices

-- the lines begin with those of the run, and these stand behind them
abbrev pub IsRunFront : List (List ℕ) → Run → List (List ℕ) → Type 0
IsRunFront lines r behind = (lines ≡ run_lines r ++ behind) × IsWrittenRun r

abbrev pub BeginsWithRun : List (List ℕ) → Type 0
BeginsWithRun lines = (r : Run) × (behind : List (List ℕ)) × IsRunFront lines r behind
