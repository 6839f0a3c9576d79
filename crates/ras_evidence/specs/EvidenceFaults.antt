-- The first line of an evidence text that does not fit.
use Rattle.std.specs.Prelude.{◌≡◌, ◌≢◌, ℕ, ◌+◌, ◌<◌, List, [], ◌∷◌, length, Bool, true, false, Result, Ok, Err}
use Rattle.ras_lines.specs.Faults.{AreLines, Begins, IsMisfit}
use Rattle.ras_evidence.specs.declared.header.Header.{Header}
use Rattle.ras_evidence.specs.declared.fault.EvidenceKind.{EvidenceKind}
use Rattle.ras_evidence.specs.declared.fault.EvidenceKind.TheVariants.{Version, Text, Ended}
use Rattle.ras_evidence.specs.declared.fault.EvidenceFault.{EvidenceFault}
use Rattle.ras_evidence.specs.declared.reading.ReadError.{ReadError}
use Rattle.ras_evidence.specs.declared.reading.ReadError.TheVariants.{Fault, Memory}
use Rattle.ras_evidence.specs.Headers.{header_line, IsWrittenHeader}
use Rattle.ras_evidence.specs.EvidenceTexts.{AreSomeText}

-- the first line is the header
abbrev pub IsHeaderOf : List (List ℕ) → Header → Type 0
IsHeaderOf lines h = (behind : List (List ℕ)) × (lines ≡ header_line h ∷ behind) × IsWrittenHeader h

-- the first line is `evidence V K` with a number V other than 1
abbrev pub HasOtherVersion : List (List ℕ) → Type 0
HasOtherVersion lines = (h : Header) × IsHeaderOf lines h × (h.version ≢ 1)

-- the number of the first of the lines that are left, or of the missing one
abbrev pub IsLineOf : List (List ℕ) → List (List ℕ) → ℕ → Type 0
IsLineOf lines left n = n + length left ≡ length lines + 1

-- What is wrong in lines, of which the left ones begin with the one at fault, and behind which stands the rest of one that is not ended.
abbrev pub IsTextFault : List (List ℕ) → List (List ℕ) → List ℕ → EvidenceKind → Type 0
IsTextFault lines left rest Version = HasOtherVersion lines × (left ≡ lines)
IsTextFault lines left rest Text = (HasOtherVersion lines → ⊥) × (0 < length left) × IsMisfit AreSomeText lines left
IsTextFault lines left rest Ended = (left ≡ []) × Begins AreSomeText lines × (AreSomeText lines → rest ≢ [])

-- the bytes are these lines and a rest, and this is their first fault
pub record IsFirstFault (bytes : List ℕ) (f : EvidenceFault) : Type 0 where
  pub lines : List (List ℕ)
  pub rest : List ℕ
  pub are : AreLines bytes lines rest
  pub left : List (List ℕ)
  pub fault : IsTextFault lines left rest f.kind
  pub line : IsLineOf lines left f.line

abbrev pub IsReadFault : List ℕ → ReadError → Type 0
IsReadFault bytes (Fault f) = IsFirstFault bytes f
IsReadFault bytes (Memory e) = Unit {0}

-- What the parts of the reader answer.

-- the last line has its end
abbrev pub IsEnded : List ℕ → Type 0
IsEnded bytes = (lines : List (List ℕ)) (rest : List ℕ) → AreLines bytes lines rest → rest ≡ []

-- what is wrong in the last lines of the bytes; the line is counted from the first of the bytes
abbrev pub IsFaultBehind : List ℕ → List (List ℕ) → ReadError → Type 0
IsFaultBehind bytes behind (Fault f) =
    (lines : List (List ℕ)) (rest : List ℕ) → AreLines bytes lines rest → (left : List (List ℕ)) × IsTextFault behind left rest f.kind × IsLineOf lines left f.line
IsFaultBehind bytes behind (Memory e) = Unit {0}

abbrev pub AnswersVersion : {E : Type 0} → List (List ℕ) → Result Bool E → Type 0
AnswersVersion lines (Ok true) = HasOtherVersion lines
AnswersVersion lines (Ok false) = HasOtherVersion lines → ⊥
AnswersVersion lines (Err e) = Unit {0}

abbrev pub IsKindOf : List (List ℕ) → EvidenceKind → Type 0
IsKindOf left Text = 0 < length left
IsKindOf left Ended = left ≡ []
IsKindOf left kind = ⊥
