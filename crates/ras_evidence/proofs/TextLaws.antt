-- Bytes are the text of one evidence, or have one first fault.
use Rattle.std.proofs.Common.{◌≡◌, ◌≢◌, ℕ, ◌+◌, ◌-◌, ◌≤◌, List, [], ◌∷◌, ◌++◌, length, Bool, true, false, eqb, refl, sym, ap, subst, ◌∙◌, arith, append-nil, inl, inr}
use Rattle.std.specs.Prelude.{Result, Ok, Err, IfOk, IfErr, codes, ◌⊎◌}
use Rattle.std.proofs.lemmas.Bool.{eqb-true, eqb-false}
use Rattle.std.proofs.lemmas.Fmt.{decimal_digit}
use Rattle.ras_lines.specs.Lines.{line, lines_of}
use Rattle.ras_lines.specs.Faults.{AreLines, Begins, IsMisfit}
use Rattle.ras_lines.specs.Fronts.{Front}
use Rattle.ras_lines.specs.Sections.{at_line}
use Rattle.ras_lines.proofs.LineEnds.{cut, one_cut}
use Rattle.ras_lines.proofs.Misfits.{not_all_fit, one_misfit}
use Rattle.ras_lines.proofs.SectionLaws.{misfit_otherwise}
use Rattle.ras_evidence.specs.declared.header.Header.{Header}
use Rattle.ras_evidence.specs.declared.fault.EvidenceKind.{EvidenceKind}
use Rattle.ras_evidence.specs.declared.fault.EvidenceKind.TheVariants.{Version, Text, Ended}
use Rattle.ras_evidence.specs.declared.fault.EvidenceFault.{EvidenceFault}
use Rattle.ras_evidence.specs.declared.value.Evidence.{Evidence}
use Rattle.ras_evidence.specs.declared.reading.ReadError.{ReadError}
use Rattle.ras_evidence.specs.declared.reading.ReadError.TheVariants.{Fault, Memory}
use Rattle.ras_evidence.specs.Headers.{header, verdict_word}
use Rattle.ras_evidence.specs.Endings.{last_of}
use Rattle.ras_core.specs.declared.event.Event.{Event}
use Rattle.ras_journals.specs.JournalTexts.{journal_lines, IsWrittenJournal}
use Rattle.ras_journals.specs.JournalReading.{journal}
use Rattle.ras_journals.proofs.JournalLaws.{journal_exact}
use Rattle.ras_evidence.specs.declared.read.Read.{Read}
use Rattle.ras_evidence.specs.EvidenceTexts.{verdict_of, parts_lines, evidence_lines, optional_lines, text_lines, Told, told, IsWritable, IsWritableText, AreTextLines, AreSomeText, IsTextOf, IsEvidenceText}
use Rattle.ras_evidence.specs.EvidenceReading.{evidence, whole}
use Rattle.ras_evidence.specs.EvidenceFaults.{IsHeaderOf, HasOtherVersion, IsLineOf, IsTextFault, IsFirstFault, IsKindOf, IsEnded, IsFaultBehind, IsReadFault}
use Rattle.ras_evidence.proofs.LastLaws.{not_more, ended, lines_are}
use Rattle.ras_evidence.proofs.HeaderLaws.{header_found, read_again, never_both, same_read, one_header}
use Rattle.ras_evidence.proofs.KindLaws.{evidence_exact}
use Rattle.ras_evidence.proofs.TailLaws.{IsWhole, whole_sound, whole_again, whole_misfit}

-- What is read.

journal_is_some : (events : List Event) → journal_lines events ≡ [] → ⊥
journal_is_some events e = absurd cc

abbrev AreWhole : List (List ℕ) → Type 0
AreWhole ls = IsWhole evidence_lines IsWritable evidence evidence_exact journal_lines IsWrittenJournal journal journal_exact journal_is_some ls

to_some : (ls : List (List ℕ)) → AreWhole ls → AreSomeText ls
to_some ls t = (t.0, record { text = t.1.0; writable = t.1.1 })

from_some : (ls : List (List ℕ)) → AreSomeText ls → AreWhole ls
from_some ls t = (t.0, (t.1.text, t.1.writable))

pub evidence_fault : (lines left : List (List ℕ)) → whole lines ≡ Err left → IsMisfit AreSomeText lines left
evidence_fault lines left e =
    misfit_otherwise AreWhole AreSomeText to_some from_some lines left
    (whole_misfit evidence_lines IsWritable evidence evidence_exact journal_lines IsWrittenJournal journal journal_exact journal_is_some lines left e)

sound : (lines rest : List (List ℕ)) (e : Told) → whole lines ≡ Ok (e, rest) → (rest ≡ []) × ((lines ≡ text_lines e) × IsWritableText e)
sound lines rest e is = whole_sound evidence_lines IsWritable evidence evidence_exact journal_lines IsWrittenJournal journal journal_exact journal_is_some lines e rest is

pub evidence_read : (lines rest : List (List ℕ)) (e : Told) → whole lines ≡ Ok (e, rest) → AreTextLines lines e
evidence_read lines rest e is = let s = sound lines rest e is in record { text = s.1.0; writable = s.1.1 }

pub evidence_nothing : (lines rest : List (List ℕ)) (e : Told) → whole lines ≡ Ok (e, rest) → rest ≡ []
evidence_nothing lines rest e is = (sound lines rest e is).0

whole_begins : (lines : List (List ℕ)) → AreSomeText lines → Begins AreSomeText lines
whole_begins lines t = ([], subst AreSomeText (sym (append-nil lines)) t)

all_begin : (lines left : List (List ℕ)) → IsMisfit AreSomeText lines left → left ≡ [] → Begins AreSomeText lines
all_begin lines left m none = subst (Begins AreSomeText) (sym (m.parts ∙ ap (λ (l : List (List ℕ)). m.front ++ l) none ∙ append-nil m.front)) m.begins

-- One text has one evidence.

again : (lines : List (List ℕ)) (e : Told) → AreTextLines lines e → whole lines ≡ Ok (e, [])
again lines e t = whole_again evidence_lines IsWritable evidence evidence_exact journal_lines IsWrittenJournal journal journal_exact journal_is_some lines e (t.text, t.writable)

pub one_on_lines : (lines : List (List ℕ)) (e d : Told) → AreTextLines lines e → AreTextLines lines d → e ≡ d
one_on_lines lines e d s t = (same_read e d [] [] (sym (again lines e s) ∙ again lines d t)).0

on_lines : (bytes rest : List ℕ) (lines : List (List ℕ)) (e : Told) → AreLines bytes lines rest → IsTextOf bytes e → AreTextLines lines e × (rest ≡ [])
on_lines bytes rest lines e are t =
    let same = one_cut bytes rest [] lines (text_lines e) are t.lines in
    (record { text = same.0; writable = t.writable }, same.1)

pub from_lines : (bytes rest : List ℕ) (lines : List (List ℕ)) (e : Told) → AreLines bytes lines rest → AreTextLines lines e → rest ≡ [] → IsTextOf bytes e
from_lines bytes rest lines e are t none = record {
  lines = subst (λ (r : List ℕ). AreLines bytes (text_lines e) r) none (subst (λ (ls : List (List ℕ)). AreLines bytes ls rest) t.text are);
  writable = t.writable;
}

pub one_text : (bytes : List ℕ) (e d : Told) → IsTextOf bytes e → IsTextOf bytes d → e ≡ d
one_text bytes e d s t =
    let on = on_lines bytes [] (text_lines e) d s.lines t in
    one_on_lines (text_lines e) e d (record { text = refl; writable = s.writable }) on.0

pub one_evidence : (bytes : List ℕ) (e d : Evidence) → IsEvidenceText bytes e → IsEvidenceText bytes d → e ≡ d
one_evidence bytes e d s t = ap (λ (p : Told). p.0) (one_text bytes (e, s.0) (d, t.0) s.1 t.1)

-- The first line.

own_header : (e : Told) → IsHeaderOf (text_lines e) (record { version = 1; verdict = verdict_of e.0 })
own_header e = (
  (parts_lines e.0 ++ codes "end" ∷ []) ++ optional_lines journal_lines e.1,
  ap (λ (one : List ℕ). line (codes "evidence") (one ∷ verdict_word (verdict_of e.0) ∷ []) ∷ ((parts_lines e.0 ++ codes "end" ∷ []) ++ optional_lines journal_lines e.1)) (sym (decimal_digit 1 (omega arith))),
  omega arith,
)

-- lines with which some text begins are not of another version
pub no_other : (lines : List (List ℕ)) → Begins AreSomeText lines → HasOtherVersion lines → ⊥
no_other lines b (h, (behind, first, small), ne) =
    let e = b.1.0 in
    let there : text_lines e ≡ lines ++ b.0 = sym b.1.1.text in
    let is : IsHeaderOf (text_lines e) h = (behind ++ b.0, there ∙ ap (λ (ls : List (List ℕ)). ls ++ b.0) first, small) in
    ne (ap (λ (k : Header). k.version) (one_header (text_lines e) h (record { version = 1; verdict = verdict_of e.0 }) is (own_header e)))

pub none_other : (lines left : List (List ℕ)) → at_line header lines ≡ Err left → HasOtherVersion lines → ⊥
none_other lines left e other = never_both (at_line header lines) left other.0 other.1.0 e (read_again lines other.0 other.1)

pub this_version : (lines rest : List (List ℕ)) (h : Header) → at_line header lines ≡ Ok (h, rest) → h.version ≡ 1 → HasOtherVersion lines → ⊥
this_version lines rest h e is other =
    let same : h ≡ other.0 = (same_read h other.0 rest other.1.0 (sym e ∙ read_again lines other.0 other.1)).0 in
    other.2 (sym (ap (λ (k : Header). k.version) same) ∙ is)

pub that_version : (lines rest : List (List ℕ)) (h : Header) → at_line header lines ≡ Ok (h, rest) → h.version ≢ 1 → HasOtherVersion lines
that_version lines rest h e ne = (h, header_found lines rest h e, ne)

-- One fault.

never_version : (lines left : List (List ℕ)) (rest : List ℕ) → HasOtherVersion lines → IsTextFault lines left rest Ended → ⊥
never_version lines left rest other f = no_other lines f.1 other

pub one_kind : (lines left other : List (List ℕ)) (rest : List ℕ) (k j : EvidenceKind) → IsTextFault lines left rest k → IsTextFault lines other rest j → (k ≡ j) × (left ≡ other)
one_kind lines left other rest Version Version a b = (refl, a.1 ∙ sym b.1)
one_kind lines left other rest Version Text a b = absurd (b.0 a.0)
one_kind lines left other rest Version Ended a b = absurd (never_version lines other rest a.0 b)
one_kind lines left other rest Text Version a b = absurd (a.0 b.0)
one_kind lines left other rest Text Text a b = (refl, one_misfit AreSomeText lines left other a.2 b.2)
one_kind lines left other rest Text Ended a b = absurd (not_all_fit AreSomeText lines left a.2 a.1 b.1)
one_kind lines left other rest Ended Version a b = absurd (never_version lines left rest b.0 a)
one_kind lines left other rest Ended Text a b = absurd (not_all_fit AreSomeText lines other b.2 b.1 a.1)
one_kind lines left other rest Ended Ended a b = (refl, a.0 ∙ sym b.0)

pub same_line : (lines left : List (List ℕ)) (n m : ℕ) → IsLineOf lines left n → IsLineOf lines left m → n ≡ m
same_line lines left n m a b = omega (arith, a, b)

abbrev fault_of : ℕ → EvidenceKind → EvidenceFault
fault_of n k = record { line = n; kind = k }

pub one_fault : (bytes : List ℕ) (f g : EvidenceFault) → IsFirstFault bytes f → IsFirstFault bytes g → f ≡ g
one_fault bytes f g a b =
    let cuts = one_cut bytes a.rest b.rest a.lines b.lines a.are b.are in
    let fault : IsTextFault b.lines a.left b.rest f.kind = subst (λ (r : List ℕ). IsTextFault b.lines a.left r f.kind) cuts.1 (subst (λ (ls : List (List ℕ)). IsTextFault ls a.left a.rest f.kind) cuts.0 a.fault) in
    let same = one_kind b.lines a.left b.left b.rest f.kind g.kind fault b.fault in
    let number : IsLineOf b.lines b.left f.line = subst (λ (ls : List (List ℕ)). IsLineOf b.lines ls f.line) same.1 (subst (λ (ls : List (List ℕ)). IsLineOf ls a.left f.line) cuts.0 a.line) in
    ap (λ (n : ℕ). fault_of n f.kind) (same_line b.lines b.left f.line g.line number b.line) ∙ ap (λ (k : EvidenceKind). fault_of g.line k) same.0

-- Never both.

pub not_both : (lines left : List (List ℕ)) (rest : List ℕ) (k : EvidenceKind) → AreSomeText lines → rest ≡ [] → IsTextFault lines left rest k → ⊥
not_both lines left rest Version t none f = no_other lines (whole_begins lines t) f.0
not_both lines left rest Text t none f = f.2.no_text t
not_both lines left rest Ended t none f = f.2 t none

pub never_fault : (bytes : List ℕ) (e : Evidence) (f : EvidenceFault) → IsEvidenceText bytes e → IsFirstFault bytes f → ⊥
never_fault bytes e f t fault =
    let on = on_lines bytes fault.rest fault.lines (e, t.0) fault.are t.1 in
    not_both fault.lines fault.left fault.rest f.kind ((e, t.0), on.0) on.1 fault.fault

-- One or the other.

-- the fault where lines are left
pub left_fault : (lines left : List (List ℕ)) (rest : List ℕ) (k : EvidenceKind) → (HasOtherVersion lines → ⊥) → IsMisfit AreSomeText lines left → IsKindOf left k → IsTextFault lines left rest k
left_fault lines left rest Text none m is = (none, is, m)
left_fault lines left rest Ended none m is = (is, all_begin lines left m is, λ t. absurd (m.no_text t))
left_fault lines left rest Version none m is = absurd is

-- the fault where a text stands, and behind it a line that is not ended
pub unended_fault : (lines left : List (List ℕ)) (rest : List ℕ) (k : EvidenceKind) → AreSomeText lines → left ≡ [] → rest ≢ [] → IsKindOf left k → IsTextFault lines left rest k
unended_fault lines left rest Text t none some is = absurd (omega (arith, is, ap length none))
unended_fault lines left rest Ended t none some is = (none, whole_begins lines t, λ u. some)
unended_fault lines left rest Version t none some is = absurd is

-- the line where these are left
line_where : (lines left : List (List ℕ)) → length left ≤ length lines → IsLineOf lines left (length lines + 1 - length left)
line_where lines left le = omega (arith, le)

-- lines are an evidence, behind which nothing stands, or have a fault
abbrev pub AreOrFault : List (List ℕ) → List ℕ → Type 0
AreOrFault lines rest =
    ((e : Told) × AreTextLines lines e × (rest ≡ [])) ⊎ ((left : List (List ℕ)) × (k : EvidenceKind) × (length left ≤ length lines) × IsTextFault lines left rest k)

module _ (lines : List (List ℕ)) (rest : List ℕ) where
  misfit : (left : List (List ℕ)) → (HasOtherVersion lines → ⊥) → IsMisfit AreSomeText lines left → AreOrFault lines rest
  misfit [] none m = inr ([], Ended, omega arith, left_fault lines [] rest Ended none m refl)
  misfit (l ∷ ls) none m = inr (l ∷ ls, Text, not_more lines m.front (l ∷ ls) m.parts, left_fault lines (l ∷ ls) rest Text none m (omega arith))

  fitting : (r : List ℕ) → rest ≡ r → (e : Told) → AreTextLines lines e → AreOrFault lines rest
  fitting [] is e t = inl (e, t, is)
  fitting (b ∷ r) is e t = inr ([], Ended, omega arith, unended_fault lines [] rest Ended (e, t) refl (λ none. let k : b ∷ r ≡ [] = sym is ∙ none in cc) refl)

  by_reading : (o : Front (List ℕ) Told) → whole lines ≡ o → (HasOtherVersion lines → ⊥) → AreOrFault lines rest
  by_reading (Ok p) is none = fitting rest refl p.0 (evidence_read lines p.1 p.0 is)
  by_reading (Err left) is none = misfit left none (evidence_fault lines left is)

  by_version : (v : Bool) (h : Header) (behind : List (List ℕ)) → at_line header lines ≡ Ok (h, behind) → eqb h.version 1 ≡ v → AreOrFault lines rest
  by_version true h behind is e = by_reading (whole lines) refl (this_version lines behind h is (eqb-true h.version 1 e))
  by_version false h behind is e = inr (lines, Version, omega arith, (that_version lines behind h is (eqb-false h.version 1 e), refl))

  by_header : (o : Front (List ℕ) Header) → at_line header lines ≡ o → AreOrFault lines rest
  by_header (Ok p) is = by_version (eqb p.0.version 1) p.0 p.1 is refl
  by_header (Err left) is = by_reading (whole lines) refl (none_other lines left is)

pub lines_or_fault : (lines : List (List ℕ)) (rest : List ℕ) → AreOrFault lines rest
lines_or_fault lines rest = by_header lines rest (at_line header lines) refl

abbrev Either : List ℕ → Type 0
Either bytes = ((e : Evidence) × IsEvidenceText bytes e) ⊎ ((f : EvidenceFault) × IsFirstFault bytes f)

text_from : (bytes rest : List ℕ) (lines : List (List ℕ)) → AreLines bytes lines rest → AreOrFault lines rest → Either bytes
text_from bytes rest lines are (inl t) = inl (t.0.0, (t.0.1, from_lines bytes rest lines t.0 are t.1 t.2))
text_from bytes rest lines are (inr f) =
    inr (fault_of (length lines + 1 - length f.0) f.1, record { lines = lines; rest = rest; are = are; left = f.0; fault = f.3; line = line_where lines f.0 f.2 })

pub text_or_fault : (bytes : List ℕ) → Either bytes
text_or_fault bytes = let k = cut bytes in text_from bytes k.rest (lines_of bytes) k.are (lines_or_fault (lines_of bytes) k.rest)

-- What is answered.

pub read_left : (lines left : List (List ℕ)) → whole lines ≡ Err left → length left ≤ length lines
read_left lines left e = let m = evidence_fault lines left e in not_more lines m.front left m.parts

pub read_all : (lines rest : List (List ℕ)) (e : Told) → whole lines ≡ Ok (e, rest) → length rest ≤ length lines
read_all lines rest e is = omega (arith, ap length (evidence_nothing lines rest e is))

-- the lines of bytes, seen as other lines with which they agree
pub on_own_lines : (bytes : List ℕ) (behind left : List (List ℕ)) (f : EvidenceFault) → IsLineOf (lines_of bytes) left f.line
    → ((rest : List ℕ) → AreLines bytes (lines_of bytes) rest → IsTextFault behind left rest f.kind)
    → (lines : List (List ℕ)) (rest : List ℕ) → AreLines bytes lines rest → (l : List (List ℕ)) × IsTextFault behind l rest f.kind × IsLineOf lines l f.line
on_own_lines bytes behind left f line fault lines rest are =
    let same = lines_are bytes rest lines are in
    (left, fault rest (subst (λ (ls : List (List ℕ)). AreLines bytes ls rest) (sym same) are), subst (λ (ls : List (List ℕ)). IsLineOf ls left f.line) same line)

pub version_at : (bytes : List ℕ) (behind : List (List ℕ)) (n : ℕ) → HasOtherVersion behind → IsLineOf (lines_of bytes) behind n → IsFaultBehind bytes behind (Fault (fault_of n Version))
version_at bytes behind n other line = on_own_lines bytes behind behind (fault_of n Version) line (λ rest are. (other, refl))

-- what is answered where no lines were read before

pub whole_text : (bytes : List ℕ) (r : Result Read ReadError) → IfOk r (λ e. AreTextLines (lines_of bytes) (told e)) → IfOk r (λ e. IsEnded bytes) → IfOk r (λ e. IsTextOf bytes (told e))
whole_text bytes (Ok e) t h = let k = cut bytes in from_lines bytes k.rest (lines_of bytes) (told e) k.are t (h (lines_of bytes) k.rest k.are)
whole_text bytes (Err e) t h = tt

first_fault : (bytes : List ℕ) (e : ReadError) → IsFaultBehind bytes (lines_of bytes) e → IsReadFault bytes e
first_fault bytes (Fault f) fault =
    let k = cut bytes in
    let g = fault (lines_of bytes) k.rest k.are in
    record { lines = lines_of bytes; rest = k.rest; are = k.are; left = g.0; fault = g.1; line = g.2 }
first_fault bytes (Memory e) fault = tt

pub whole_fault : (bytes : List ℕ) (r : Result Read ReadError) → IfErr r (IsFaultBehind bytes (lines_of bytes)) → IfErr r (IsReadFault bytes)
whole_fault bytes (Ok e) h = tt
whole_fault bytes (Err e) h = first_fault bytes e h

-- Worked texts, which are read by computing.

pub text_read : (bytes : List ℕ) (e : Told) → whole (lines_of bytes) ≡ Ok (e, []) → eqb (last_of 10 bytes) 10 ≡ true → IsEvidenceText bytes e.0
text_read bytes e is last = (e.1, let k = cut bytes in from_lines bytes k.rest (lines_of bytes) e k.are (evidence_read (lines_of bytes) [] e is) (ended bytes k.rest (lines_of bytes) k.are last))

pub ended_read : (bytes : List ℕ) → whole (lines_of bytes) ≡ Err [] → IsFirstFault bytes (fault_of (length (lines_of bytes) + 1) Ended)
ended_read bytes is =
    let k = cut bytes in
    let m = evidence_fault (lines_of bytes) [] is in
    record {
      lines = lines_of bytes;
      rest = k.rest;
      are = k.are;
      left = [];
      fault = (refl, all_begin (lines_of bytes) [] m refl, λ t. absurd (m.no_text t));
      line = omega arith;
    }

pub misfit_read : (bytes l : List ℕ) (ls : List (List ℕ)) (h : Header) (behind : List (List ℕ)) → at_line header (lines_of bytes) ≡ Ok (h, behind) → h.version ≡ 1 → whole (lines_of bytes) ≡ Err (l ∷ ls)
    → IsFirstFault bytes (fault_of (length (lines_of bytes) - length ls) Text)
misfit_read bytes l ls h behind first version is =
    let k = cut bytes in
    let m = evidence_fault (lines_of bytes) (l ∷ ls) is in
    record {
      lines = lines_of bytes;
      rest = k.rest;
      are = k.are;
      left = l ∷ ls;
      fault = (this_version (lines_of bytes) behind h first version, omega arith, m);
      line = omega (arith, not_more (lines_of bytes) m.front (l ∷ ls) m.parts);
    }
