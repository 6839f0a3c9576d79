-- The text of a database, in numbers that need not fit a schema.
use Rattle.std.specs.Prelude.{ℕ, List, [], ◌∷◌, ◌++◌, ◌≡◌, codes}
use Rattle.ras_logic.specs.declared.raw_db.RawDb.{RawDb}
use Rattle.ras_lines.specs.Lines.{numbers_line, section, AreWritten}
use Rattle.ras_lines.specs.Trees.{IsWrittenNumber}

-- `table M e1 .. eM`: the images of 1 to M
abbrev pub table_line : List ℕ → List ℕ
table_line images = numbers_line (codes "table") images

-- `sizes K n1 .. nK`, `tables F` and the tables, `constants K e1 .. eK`
abbrev pub database_lines : RawDb → List (List ℕ)
database_lines d = numbers_line (codes "sizes") d.sizes ∷ (section (codes "tables") table_line d.tables ++ numbers_line (codes "constants") d.constants ∷ [])

-- What can be written: numbers and counts below 4,294,967,296.

abbrev pub AreWrittenNumbers : List ℕ → Type 0
AreWrittenNumbers numbers = AreWritten IsWrittenNumber numbers

pub record IsWrittenDatabase (d : RawDb) : Type 0 where
  pub sizes : AreWrittenNumbers d.sizes
  pub tables : AreWritten AreWrittenNumbers d.tables
  pub constants : AreWrittenNumbers d.constants

-- the lines begin with those of the database, and these stand behind them
abbrev pub IsDatabaseFront : List (List ℕ) → RawDb → List (List ℕ) → Type 0
IsDatabaseFront lines d behind = (lines ≡ database_lines d ++ behind) × IsWrittenDatabase d

abbrev pub BeginsWithDatabase : List (List ℕ) → Type 0
BeginsWithDatabase lines = (d : RawDb) × (behind : List (List ℕ)) × IsDatabaseFront lines d behind
