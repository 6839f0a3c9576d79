-- How an evidence of each kind is read.
use Rattle.std.specs.Prelude.{ℕ, List, [], ◌∷◌, Option, Some, None, Result, Ok, Err, codes, ◌==◌, if◌then◌else◌}
use Rattle.ras_logic.specs.declared.problem.Problem.{Problem}
use Rattle.ras_logic.specs.declared.raw_db.RawDb.{RawDb}
use Rattle.ras_steps.specs.declared.run.Run.{Run}
use Rattle.ras_lines.specs.Fronts.{Front, follow, chain, made, times}
use Rattle.ras_lines.specs.Numbers.{fixed}
use Rattle.ras_lines.specs.Formulas.{cube}
use Rattle.ras_lines.specs.declared.stop.Stop.{Stop}
use Rattle.ras_lines.specs.Sections.{at_line, count, nothing}
use Rattle.ras_runs.specs.Reading.{database, run}
use Rattle.ras_evidence.specs.declared.header.Verdict.{Verdict}
use Rattle.ras_evidence.specs.declared.header.Verdict.TheVariants as says
use Rattle.ras_evidence.specs.declared.entries.Budget.{Budget}
use Rattle.ras_evidence.specs.declared.parts.FirstLine.{FirstLine}
use Rattle.ras_evidence.specs.declared.safe.SafeEvidence.{SafeEvidence}
use Rattle.ras_evidence.specs.declared.value.Entry.{Entry}
use Rattle.ras_evidence.specs.declared.value.Evidence.{Evidence}
use Rattle.ras_evidence.specs.declared.value.Evidence.TheVariants.{Safe, Unsafe, Unknown}
use Rattle.ras_journals.specs.JournalReading.{journal}
use Rattle.ras_evidence.specs.declared.read.Read.{Read}
use Rattle.ras_evidence.specs.EvidenceTexts.{Told, told}
use Rattle.ras_evidence.specs.Headers.{verdict}
use Rattle.ras_evidence.specs.SafeReading.{to_end, safe_parts}

-- Entries.

abbrev pub if_positive : ℕ → List ℕ → Front ℕ Budget
if_positive n rest = if n == 0 then Err rest else Ok (record { count = n }, rest)

abbrev pub budget : List ℕ → Front ℕ Budget
budget bytes = follow (count (codes "budget") bytes) if_positive

abbrev pub Reached : Type 0
Reached = RawDb × Run

abbrev pub reached : List (List ℕ) → Front (List ℕ) Reached
reached lines = chain (λ d r. (d, r)) database run lines

abbrev pub entry_of : Problem → Reached → Entry
entry_of c p = record { cube = c; db = p.0; run = p.1 }

abbrev pub entry : List (List ℕ) → Front (List ℕ) Entry
entry lines = chain entry_of (at_line cube) reached lines

abbrev pub behind_budget : Budget → List (List ℕ) → Front (List ℕ) (List Entry)
behind_budget b lines = times entry b.count lines

abbrev pub entries : List (List ℕ) → Front (List ℕ) (List Entry)
entries lines = follow (at_line budget lines) behind_budget

abbrev pub Spent : Type 0
Spent = List Entry × Entry

abbrev pub spent : List (List ℕ) → Front (List ℕ) Spent
spent lines = chain (λ es s. (es, s)) entries entry lines

-- What stands behind the first line.

abbrev pub safe_of : SafeEvidence → Evidence
safe_of s = Safe s.formulas s.trees

abbrev pub unsafe_of : Reached → Evidence
unsafe_of p = Unsafe p.0 p.1

abbrev pub unknown_of : Spent → Evidence
unknown_of p = Unknown p.0 p.1

abbrev pub safe_evidence : List (List ℕ) → Front (List ℕ) Evidence
safe_evidence lines = made safe_of (safe_parts lines)

abbrev pub unsafe_evidence : List (List ℕ) → Front (List ℕ) Evidence
unsafe_evidence lines = made unsafe_of (to_end reached lines)

abbrev pub unknown_evidence : List (List ℕ) → Front (List ℕ) Evidence
unknown_evidence lines = made unknown_of (to_end spent lines)

abbrev pub parts_of : Verdict → List (List ℕ) → Front (List ℕ) Evidence
parts_of says.Safe lines = safe_evidence lines
parts_of says.Unsafe lines = unsafe_evidence lines
parts_of says.Unknown lines = unknown_evidence lines

-- The whole.

abbrev pub first_line_of : Unit {0} → Verdict → FirstLine
first_line_of u v = record { verdict = v }

abbrev pub first_line : List ℕ → Front ℕ FirstLine
first_line bytes = chain first_line_of (fixed (codes "evidence 1 ")) verdict bytes

abbrev pub behind_first : FirstLine → List (List ℕ) → Front (List ℕ) Evidence
behind_first l lines = parts_of l.verdict lines

abbrev pub evidence : List (List ℕ) → Front (List ℕ) Evidence
evidence lines = follow (at_line first_line lines) behind_first

-- A thing, and another behind it or no line.

abbrev pub tail_of : {X Y : Type 0} → (List (List ℕ) → Front (List ℕ) Y) → X → List (List ℕ) → Front (List ℕ) (X × Option Y)
tail_of g x [] = Ok ((x, None), [])
tail_of g x (l ∷ lines) = follow (g (l ∷ lines)) (λ y rest. nothing (x, Some y) rest)

abbrev pub with_tail : {X Y : Type 0} → (List (List ℕ) → Front (List ℕ) X) → (List (List ℕ) → Front (List ℕ) Y) → List (List ℕ) → Front (List ℕ) (X × Option Y)
with_tail f g lines = follow (f lines) (tail_of g)

-- an evidence, and a journal or nothing
abbrev pub whole : List (List ℕ) → Front (List ℕ) Told
whole lines = with_tail evidence journal lines

abbrev pub read_as : Result Read Stop → Result Told Stop
read_as (Ok r) = Ok (told r)
read_as (Err stop) = Err stop
