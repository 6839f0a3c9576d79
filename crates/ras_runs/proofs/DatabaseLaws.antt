-- A database is read exactly, up to the first line that does not fit.
use Rattle.std.proofs.Common.{◌≡◌, ap, ◌∙◌, ℕ, List, [], ◌∷◌, ◌++◌, refl, arith}
use Rattle.std.specs.Prelude.{Ok, Err, ◌↔◌, codes}
use Rattle.ras_logic.specs.declared.raw_db.RawDb.{RawDb}
use Rattle.ras_lines.specs.Lines.{numbers_line, section, AreWritten}
use Rattle.ras_lines.specs.Faults.{IsMisfit}
use Rattle.ras_lines.specs.Sections as lines
use Rattle.ras_lines.proofs.SectionLaws.{IsExactText, chain_exact, numbers_line_exact, numbers_section_exact, text_otherwise, IsFront, front_fault, misfit_otherwise}
use Rattle.ras_runs.specs.DatabaseTexts.{table_line, database_lines, AreWrittenNumbers, IsWrittenDatabase, IsDatabaseFront, BeginsWithDatabase}
use Rattle.ras_runs.specs.Reading as first

pub none_written : {X : Type 0} (Valid : X → Type 0) → AreWritten Valid []
none_written Valid = record { count = omega arith; each = tt }

abbrev tables_text : first.Tables → List (List ℕ)
tables_text p = section (codes "tables") table_line p.0 ++ numbers_line (codes "constants") p.1 ∷ []

abbrev TablesValid : first.Tables → Type 0
TablesValid p = AreWritten AreWrittenNumbers p.0 × AreWrittenNumbers p.1

tables_exact : IsExactText tables_text TablesValid first.from_tables
tables_exact =
    chain_exact (λ (ts : List (List ℕ)) (cs : List ℕ). (ts, cs)) (λ p. p.0) (λ p. p.1) (λ a b. refl) (λ a b. refl) (λ p. refl) (section (codes "tables") table_line) (AreWritten AreWrittenNumbers)
    (lines.section (codes "tables") (lines.at_line (lines.numbers (codes "table")))) (numbers_section_exact (codes "tables") (codes "table")) (λ cs. numbers_line (codes "constants") cs ∷ []) AreWrittenNumbers
    (lines.at_line (lines.numbers (codes "constants"))) (numbers_line_exact (codes "constants")) [] (none_written _)

abbrev behind_sizes : RawDb → first.Tables
behind_sizes d = (d.tables, d.constants)

abbrev database_text : RawDb → List (List ℕ)
database_text d = (numbers_line (codes "sizes") d.sizes ∷ []) ++ tables_text (behind_sizes d)

abbrev DatabaseValid : RawDb → Type 0
DatabaseValid d = AreWrittenNumbers d.sizes × TablesValid (behind_sizes d)

pub database_exact : IsExactText database_lines IsWrittenDatabase first.database
database_exact =
    text_otherwise database_text database_lines DatabaseValid IsWrittenDatabase first.database (λ d. refl) (λ d v. record { sizes = v.0; tables = v.1.0; constants = v.1.1 })
    (λ d w. (w.sizes, (w.tables, w.constants)))
    (chain_exact first.database_of (λ d. d.sizes) behind_sizes (λ s p. refl) (λ s p. refl) (λ d. refl) (λ ns. numbers_line (codes "sizes") ns ∷ []) AreWrittenNumbers
    (lines.at_line (lines.numbers (codes "sizes"))) (numbers_line_exact (codes "sizes")) tables_text TablesValid first.from_tables tables_exact ([], []) (none_written _, none_written _))

-- What is read.

pub database_found : (lines behind : List (List ℕ)) (d : RawDb) → (first.database lines ≡ Ok (d, behind)) ↔ IsDatabaseFront lines d behind
database_found lines behind d = (database_exact.reads.sound lines d behind, λ f. ap first.database f.0 ∙ database_exact.reads.again d behind f.1 tt)

to_front : (ls : List (List ℕ)) → IsFront database_lines IsWrittenDatabase first.database database_exact ls → BeginsWithDatabase ls
to_front ls t = (t.0, t.1.0, (t.1.1, t.1.2))

from_front : (ls : List (List ℕ)) → BeginsWithDatabase ls → IsFront database_lines IsWrittenDatabase first.database database_exact ls
from_front ls t = (t.0, (t.1, t.2.0, t.2.1))

pub database_misfit : (lines left : List (List ℕ)) → first.database lines ≡ Err left → IsMisfit BeginsWithDatabase lines left
database_misfit lines left e =
    misfit_otherwise (IsFront database_lines IsWrittenDatabase first.database database_exact) BeginsWithDatabase to_front from_front lines left (front_fault database_lines IsWrittenDatabase first.database database_exact lines left e)
