-- How databases and runs are read.
use Rattle.std.specs.Prelude.{ℕ, List, codes}
use Rattle.ras_logic.specs.declared.raw_db.RawDb.{RawDb}
use Rattle.ras_system.specs.declared.choice.Choice.{Choice}
use Rattle.ras_steps.specs.declared.run.Run.{Run}
use Rattle.ras_runs.specs.declared.step_line.StepLine.{StepLine}
use Rattle.ras_lines.specs.Fronts.{Front, chain, made}
use Rattle.ras_lines.specs.Numbers.{fixed, number, small_number, announced}
use Rattle.ras_lines.specs.Sections.{at_line, numbers, section}

-- What stands behind the sizes of a database, the variables of a run and the transition of a step.

abbrev pub Tables : Type 0
Tables = List (List ℕ) × List ℕ

abbrev pub Relations : Type 0
Relations = List (List (List ℕ)) × List Choice

abbrev pub Chosen : Type 0
Chosen = List ℕ × List ℕ

abbrev pub database_of : List ℕ → Tables → RawDb
database_of sizes p = record { sizes = sizes; tables = p.0; constants = p.1 }

abbrev pub run_of : List ℕ → Relations → Run
run_of vars p = record { start = record { vars = vars; relations = p.0 }; choices = p.1 }

abbrev pub step_of : ℕ → Chosen → StepLine
step_of transition p = record { choice = record { transition = transition; rows = p.0; values = p.1 } }

abbrev pub choice_of : StepLine → Choice
choice_of l = l.choice

abbrev pub from_tables : List (List ℕ) → Front (List ℕ) Tables
from_tables lines = chain (λ ts cs. (ts, cs)) (section (codes "tables") (at_line (numbers (codes "table")))) (at_line (numbers (codes "constants"))) lines

abbrev pub database : List (List ℕ) → Front (List ℕ) RawDb
database lines = chain database_of (at_line (numbers (codes "sizes"))) from_tables lines

abbrev pub chosen : List ℕ → Front ℕ Chosen
chosen bytes = chain (λ rows values. (rows, values)) (announced number) (announced number) bytes

abbrev pub step_line : List ℕ → Front ℕ StepLine
step_line bytes = chain (λ _ s. s) (fixed (codes "step ")) (chain step_of small_number chosen) bytes

abbrev pub step : List (List ℕ) → Front (List ℕ) Choice
step lines = made choice_of (at_line step_line lines)

abbrev pub rows : List (List ℕ) → Front (List ℕ) (List (List ℕ))
rows lines = section (codes "rows") (at_line (numbers (codes "row"))) lines

abbrev pub from_relations : List (List ℕ) → Front (List ℕ) Relations
from_relations lines = chain (λ rs cs. (rs, cs)) (section (codes "relations") rows) (section (codes "steps") step) lines

abbrev pub run : List (List ℕ) → Front (List ℕ) Run
run lines = chain run_of (at_line (numbers (codes "vars"))) from_relations lines
