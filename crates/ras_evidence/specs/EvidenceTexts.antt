-- The text of an evidence of each kind, version 1, with a journal behind it or without one.
use Rattle.std.specs.Prelude.{ℕ, ◌<◌, ◌≡◌, List, [], ◌∷◌, ◌++◌, length, flat_map, Option, Some, None, IfSome, codes}
use Rattle.std.specs.Option.{option_map}
use Rattle.ras_lines.specs.Lines.{line, count_line, section, AreWritten}
use Rattle.ras_lines.specs.Words.{cube_line, IsSmallCube}
use Rattle.ras_lines.specs.Trees.{tree_line, IsWrittenTree}
use Rattle.ras_lines.specs.Faults.{AreLines}
use Rattle.ras_runs.specs.DatabaseTexts.{database_lines, IsWrittenDatabase}
use Rattle.ras_runs.specs.RunTexts.{run_lines, IsWrittenRun}
use Rattle.ras_core.specs.declared.event.Event.{Event}
use Rattle.ras_core.specs.Journals.{JournalParts}
use Rattle.ras_journals.specs.JournalTexts.{journal_lines, IsWrittenJournal}
use Rattle.ras_evidence.specs.declared.header.Verdict.{Verdict}
use Rattle.ras_evidence.specs.declared.header.Verdict.TheVariants as says
use Rattle.ras_evidence.specs.declared.read.Read.{Read}
use Rattle.ras_evidence.specs.declared.value.Entry.{Entry}
use Rattle.ras_evidence.specs.declared.value.Evidence.{Evidence}
use Rattle.ras_evidence.specs.declared.value.Evidence.TheVariants.{Safe, Unsafe, Unknown}
use Rattle.ras_evidence.specs.Headers.{verdict_word}

abbrev pub verdict_of : Evidence → Verdict
verdict_of (Safe formulas trees) = says.Safe
verdict_of (Unsafe db run) = says.Unsafe
verdict_of (Unknown entries spill) = says.Unknown

-- a cube, a database, a run
abbrev pub entry_lines : Entry → List (List ℕ)
entry_lines e = cube_line e.cube ∷ (database_lines e.db ++ run_lines e.run)

-- The formulas and the trees; the database and the run; or `budget B`, the entries, and the spill.
abbrev pub parts_lines : Evidence → List (List ℕ)
parts_lines (Safe formulas trees) = section (codes "formulas") cube_line formulas ++ section (codes "trees") tree_line trees
parts_lines (Unsafe db run) = database_lines db ++ run_lines run
parts_lines (Unknown entries spill) = (count_line (codes "budget") (length entries) ∷ flat_map entry_lines entries) ++ entry_lines spill

-- `evidence 1 safe`, `evidence 1 unsafe` or `evidence 1 unknown`, the parts, `end`
abbrev pub evidence_lines : Evidence → List (List ℕ)
evidence_lines e = line (codes "evidence") (codes "1" ∷ verdict_word (verdict_of e) ∷ []) ∷ (parts_lines e ++ codes "end" ∷ [])

-- What can be written: an evidence of a spent budget has at least one entry before the spill.

pub record IsWrittenEntry (e : Entry) : Type 0 where
  pub cube : IsSmallCube e.cube
  pub db : IsWrittenDatabase e.db
  pub run : IsWrittenRun e.run

abbrev pub IsWritable : Evidence → Type 0
IsWritable (Safe formulas trees) = AreWritten IsSmallCube formulas × AreWritten IsWrittenTree trees
IsWritable (Unsafe db run) = IsWrittenDatabase db × IsWrittenRun run
IsWritable (Unknown entries spill) = ((0 < length entries) × AreWritten IsWrittenEntry entries) × IsWrittenEntry spill

-- An evidence, and the events of the journal that stands behind it, where one does.

abbrev pub Told : Type 0
Told = Evidence × Option (List Event)

abbrev pub told : Read → Told
told r = (r.evidence, option_map (λ (j : JournalParts). j.events) r.journal)

-- the lines of a value, or none
abbrev pub optional_lines : {X : Type 0} → (X → List (List ℕ)) → Option X → List (List ℕ)
optional_lines text None = []
optional_lines text (Some x) = text x

abbrev pub IsWritableText : Told → Type 0
IsWritableText t = IsWritable t.0 × IfSome t.1 IsWrittenJournal

abbrev pub text_lines : Told → List (List ℕ)
text_lines t = evidence_lines t.0 ++ optional_lines journal_lines t.1

-- the lines are those of the evidence and its journal
pub record AreTextLines (lines : List (List ℕ)) (t : Told) : Type 0 where
  pub text : lines ≡ text_lines t
  pub writable : IsWritableText t

abbrev pub AreSomeText : List (List ℕ) → Type 0
AreSomeText lines = (t : Told) × AreTextLines lines t

-- the bytes are the lines of the evidence and its journal, each with its end
pub record IsTextOf (bytes : List ℕ) (t : Told) : Type 0 where
  pub lines : AreLines bytes (text_lines t) []
  pub writable : IsWritableText t

-- the bytes are a text of the evidence, with a journal or without one
abbrev pub IsEvidenceText : List ℕ → Evidence → Type 0
IsEvidenceText bytes e = (journal : Option (List Event)) × IsTextOf bytes (e, journal)
