-- Bytes are one bundle, or have one first fault.
use Rattle.std.proofs.Common.{◌≡◌, ℕ, ◌+◌, ◌-◌, ◌≤◌, true, eqb, List, [], ◌++◌, length, sym, ap, ◌∙◌, subst, refl, arith, length-append, inl, inr}
use Rattle.std.specs.Prelude.{Option, Some, None, Result, Ok, Err, IfErr, IsErrAnd, ◌⊎◌}
use Rattle.std.proofs.lemmas.Option.{same_Some}
use Rattle.ras_system.specs.Systems.{SystemParts}
use Rattle.ras_lines.specs.Lines.{lines_of}
use Rattle.ras_lines.specs.Fronts.{Front}
use Rattle.ras_lines.specs.Faults.{AreLines, IsMisfit}
use Rattle.ras_lines.proofs.LineEnds.{cut, one_cut}
use Rattle.ras_lines.proofs.Misfits.{one_misfit}
use Rattle.ras_lines.proofs.SectionLaws.{IsFront, front_fault, misfit_otherwise}
use Rattle.ras_evidence.specs.declared.fault.EvidenceKind.{EvidenceKind}
use Rattle.ras_evidence.specs.declared.fault.EvidenceFault.{EvidenceFault}
use Rattle.ras_evidence.specs.declared.value.Evidence.{Evidence}
use Rattle.ras_evidence.specs.declared.reading.ReadError.{ReadError}
use Rattle.ras_evidence.specs.declared.reading.ReadError.TheVariants as read
use Rattle.ras_evidence.specs.EvidenceTexts.{Told, text_lines, AreTextLines}
use Rattle.ras_evidence.specs.EvidenceFaults.{IsLineOf, IsTextFault, IsEnded, IsFaultBehind}
use Rattle.ras_evidence.specs.Endings.{last_of}
use Rattle.ras_evidence.specs.EvidenceReading.{whole}
use Rattle.ras_evidence.proofs.HeaderLaws.{same_read}
use Rattle.ras_evidence.proofs.LastLaws.{not_more, lines_are, ended}
use Rattle.ras_evidence.proofs.TextLaws.{evidence_read, AreOrFault, lines_or_fault, one_on_lines, one_kind, not_both, same_line}
use Rattle.ras_bundles.specs.declared.system_lines.SystemLines.{SystemLines}
use Rattle.ras_bundles.specs.declared.fault.BundleKind.{BundleKind}
use Rattle.ras_bundles.specs.declared.fault.BundleKind.TheVariants.{Text}
use Rattle.ras_bundles.specs.declared.fault.BundleError.{BundleError}
use Rattle.ras_bundles.specs.declared.fault.BundleError.TheVariants.{System, Evidence as Behind, Memory}
use Rattle.ras_bundles.specs.SystemReading as first
use Rattle.ras_bundles.specs.SystemTexts.{system_lines, IsWrittenSystem}
use Rattle.ras_bundles.specs.Numbers.{numbers_of, system_named}
use Rattle.ras_bundles.specs.Bundles.{IsPlainSystem, BeginsWithSystem, IsBundle}
use Rattle.ras_bundles.specs.Checks.{first_fault}
use Rattle.ras_bundles.specs.BundleFaults.{IsNumbersFront, BeginsWithNumbers, IsTextLine, IsNumbersFault, IsFaultOf, IsBundleFault, IsFault}
use Rattle.ras_bundles.specs.Judging.{AnswersFirstFault, behind_error}
use Rattle.ras_bundles.proofs.SystemLaws.{system_exact}
use Rattle.ras_bundles.proofs.NamedLaws.{one_system}
use Rattle.ras_bundles.proofs.CompleteLaws.{complete}
use Rattle.ras_bundles.proofs.SoundLaws.{sound}

-- The system part.

front_to : (ls : List (List ℕ)) → IsFront system_lines IsWrittenSystem first.system system_exact ls → BeginsWithNumbers ls
front_to ls t = (t.0, t.1.0, (t.1.1, t.1.2))

front_from : (ls : List (List ℕ)) → BeginsWithNumbers ls → IsFront system_lines IsWrittenSystem first.system system_exact ls
front_from ls t = (t.0, (t.1, t.2.0, t.2.1))

pub numbers_fault : (lines left : List (List ℕ)) → first.system lines ≡ Err left → IsMisfit BeginsWithNumbers lines left
numbers_fault lines left e =
    misfit_otherwise (IsFront system_lines IsWrittenSystem first.system system_exact) BeginsWithNumbers front_to front_from lines left
    (front_fault system_lines IsWrittenSystem first.system system_exact lines left e)

pub numbers_read : (lines behind : List (List ℕ)) (s : SystemLines) → first.system lines ≡ Ok (s, behind) → IsNumbersFront lines s behind
numbers_read lines behind s e = system_exact.reads.sound lines s behind e

pub one_numbers : (lines b c : List (List ℕ)) (n m : SystemLines) → IsNumbersFront lines n b → IsNumbersFront lines m c → (n ≡ m) × (b ≡ c)
one_numbers lines b c n m x y =
    let again : (n : SystemLines) (b : List (List ℕ)) → IsNumbersFront lines n b → first.system lines ≡ Ok (n, b) = λ n b f. ap first.system f.0 ∙ system_exact.reads.again n b f.1 tt in
    same_read n m b c (sym (again n b x) ∙ again m c y)

-- where the bytes begin with a system, seen on their lines
begins_on : (bytes rest r : List ℕ) (lines behind : List (List ℕ)) (s : SystemParts) → AreLines bytes lines rest → BeginsWithSystem bytes s behind r → IsNumbersFront lines (numbers_of s) behind × (rest ≡ r)
begins_on bytes rest r lines behind s are b =
    let same = one_cut bytes rest r lines (system_lines (numbers_of s) ++ behind) are b.lines in
    ((same.0, b.numbers), same.1)

-- bytes begin with one system, and one text stands behind it
pub one_front : (bytes r q : List ℕ) (b c : List (List ℕ)) (s t : SystemParts) → BeginsWithSystem bytes s b r → BeginsWithSystem bytes t c q → (s ≡ t) × (b ≡ c) × (r ≡ q)
one_front bytes r q b c s t x y =
    let on = begins_on bytes r q (system_lines (numbers_of s) ++ b) c t x.lines y in
    let same = one_numbers (system_lines (numbers_of s) ++ b) b c (numbers_of s) (numbers_of t) (refl, x.numbers) on.0 in
    (one_system s t x.plain y.plain same.0, same.1, on.1)

pub one_bundle : (bytes : List ℕ) (s t : SystemParts) (e d : Evidence) (n m : ℕ) → IsBundle bytes s e n → IsBundle bytes t d m → (s ≡ t) × (e ≡ d) × (n ≡ m)
one_bundle bytes s t e d n m x y =
    let one : Told = (e, x.journal) in
    let other : Told = (d, y.journal) in
    let same = one_front bytes [] [] (text_lines one) (text_lines other) s t x.front y.front in (
      same.0,
      ap (λ (p : Told). p.0) (one_on_lines (text_lines one) one other (record { text = refl; writable = x.writable }) (record { text = same.1; writable = y.writable })),
      x.number ∙ ap (λ (p : SystemParts). length (system_lines (numbers_of p)) + 1) same.0 ∙ sym y.number,
    )

-- One fault.

some_or_none : {X : Type 0} (o : Option X) (x : X) → o ≡ Some x → o ≡ None → ⊥
some_or_none o x a b = cc

-- the numbers of a plain system have no fault
no_numbers_fault : (lines behind : List (List ℕ)) (s : SystemParts) (n : ℕ) (k : BundleKind) → IsPlainSystem s → IsNumbersFront lines (numbers_of s) behind → IsNumbersFault lines n k → ⊥
no_numbers_fault lines behind s n k plain front fault =
    let same = (one_numbers lines fault.1 behind fault.0 (numbers_of s) fault.2 front).0 in
    some_or_none (first_fault fault.0) (n, k) fault.3 (ap first_fault same ∙ sound s plain)

module _ (lines : List (List ℕ)) (rest : List ℕ) where
  abbrev IsSystemFault : ℕ → BundleKind → Type 0
  IsSystemFault n k = ((k ≡ Text) × IsTextLine lines n) ⊎ IsNumbersFault lines n k

  text_twice : (n m : ℕ) → IsTextLine lines n → IsTextLine lines m → n ≡ m
  text_twice n m a b = same_line lines b.0 n m (subst (λ (ls : List (List ℕ)). IsLineOf lines ls n) (one_misfit BeginsWithNumbers lines a.0 b.0 a.1 b.1) a.2) b.2

  never_text : (n : ℕ) → IsTextLine lines n → BeginsWithNumbers lines → ⊥
  never_text n a b = a.1.no_text b

  same_system : (n m : ℕ) (k j : BundleKind) → IsSystemFault n k → IsSystemFault m j → (n ≡ m) × (k ≡ j)
  same_system n m k j (inl a) (inl b) = (text_twice n m a.1 b.1, a.0 ∙ sym b.0)
  same_system n m k j (inl a) (inr b) = absurd (never_text n a.1 (b.0, b.1, b.2))
  same_system n m k j (inr a) (inl b) = absurd (never_text m b.1 (a.0, a.1, a.2))
  same_system n m k j (inr a) (inr b) =
      let numbers = (one_numbers lines a.1 b.1 a.0 b.0 a.2 b.2).0 in
      let same : ◌≡◌ {A = ℕ × BundleKind} (n, k) (m, j) = same_Some (n, k) (m, j) (sym a.3 ∙ ap first_fault numbers ∙ b.3) in
      (ap (λ (p : ℕ × BundleKind). p.0) same, ap (λ (p : ℕ × BundleKind). p.1) same)

  not_behind : (n : ℕ) (k : BundleKind) (f : EvidenceFault) → IsSystemFault n k → IsFaultOf lines rest (Behind f) → ⊥
  not_behind n k f (inl a) b = never_text n a.1 (numbers_of b.0, b.1, b.4)
  not_behind n k f (inr a) b = no_numbers_fault lines b.1 b.0 n k b.3 b.4 a

  abbrev fault_of : ℕ → EvidenceKind → EvidenceFault
  fault_of n k = record { line = n; kind = k }

  same_behind : (f g : EvidenceFault) → IsFaultOf lines rest (Behind f) → IsFaultOf lines rest (Behind g) → f ≡ g
  same_behind f g a b =
      let front = one_numbers lines a.1 b.1 (numbers_of a.0) (numbers_of b.0) a.4 b.4 in
      let same = one_kind b.1 a.2 b.2 rest f.kind g.kind (subst (λ (ls : List (List ℕ)). IsTextFault ls a.2 rest f.kind) front.1 a.5) b.5 in
      let line = same_line lines b.2 f.line g.line (subst (λ (ls : List (List ℕ)). IsLineOf lines ls f.line) same.1 a.6) b.6 in
      ap (λ (n : ℕ). fault_of n f.kind) line ∙ ap (λ (k : EvidenceKind). fault_of g.line k) same.0

  one_fault_of : (e f : BundleError) → IsFault e → IsFault f → IsFaultOf lines rest e → IsFaultOf lines rest f → e ≡ f
  one_fault_of (System n k) (System m j) u v a b = let same = same_system n m k j a b in ap (λ (i : ℕ). System i k) same.0 ∙ ap (System m) same.1
  one_fault_of (System n k) (Behind g) u v a b = absurd (not_behind n k g a b)
  one_fault_of (System n k) (Memory e) u v a b = absurd v
  one_fault_of (Behind f) (System m j) u v a b = absurd (not_behind m j f b a)
  one_fault_of (Behind f) (Behind g) u v a b = ap Behind (same_behind f g a b)
  one_fault_of (Behind f) (Memory e) u v a b = absurd v
  one_fault_of (Memory e) f u v a b = absurd u

pub one_fault : (bytes : List ℕ) (e f : BundleError) → IsFault e → IsFault f → IsBundleFault bytes e → IsBundleFault bytes f → e ≡ f
one_fault bytes e f u v a b = let c = cut bytes in one_fault_of (lines_of bytes) c.rest e f u v (a (lines_of bytes) c.rest c.are) (b (lines_of bytes) c.rest c.are)

-- Never both.

abbrev lines_in : SystemParts → Told → List (List ℕ)
lines_in s t = system_lines (numbers_of s) ++ text_lines t

abbrev told_by : (bytes : List ℕ) (s : SystemParts) (e : Evidence) (n : ℕ) → IsBundle bytes s e n → Told
told_by bytes s e n b = (e, b.journal)

bundle_without_fault : (bytes : List ℕ) (s : SystemParts) (e : Evidence) (n : ℕ) (f : BundleError) (b : IsBundle bytes s e n) → IsFault f → IsFaultOf (lines_in s (told_by bytes s e n b)) [] f → ⊥
bundle_without_fault bytes s e n (System m k) b u (inl a) = never_text (lines_in s (e, b.journal)) [] m a.1 (numbers_of s, text_lines (e, b.journal), (refl, b.front.numbers))
bundle_without_fault bytes s e n (System m k) b u (inr a) =
    no_numbers_fault (lines_in s (e, b.journal)) (text_lines (e, b.journal)) s m k b.front.plain (refl, b.front.numbers) a
bundle_without_fault bytes s e n (Behind g) b u a =
    let told : Told = (e, b.journal) in
    let same = (one_numbers (lines_in s told) a.1 (text_lines told) (numbers_of a.0) (numbers_of s) a.4 (refl, b.front.numbers)).1 in
    not_both (text_lines told) a.2 [] g.kind (told, record { text = refl; writable = b.writable }) refl (subst (λ (ls : List (List ℕ)). IsTextFault ls a.2 [] g.kind) same a.5)
bundle_without_fault bytes s e n (Memory g) b u a = u

pub never_fault : (bytes : List ℕ) (s : SystemParts) (e : Evidence) (n : ℕ) (f : BundleError) → IsBundle bytes s e n → IsFault f → IsBundleFault bytes f → ⊥
never_fault bytes s e n f b u fault = bundle_without_fault bytes s e n f b u (fault (lines_in s (e, b.journal)) [] b.front.lines)

-- One or the other.

abbrev pub Either : List ℕ → Type 0
Either bytes = ((s : SystemParts) × (e : Evidence) × (n : ℕ) × IsBundle bytes s e n) ⊎ ((f : BundleError) × IsFault f × IsBundleFault bytes f)

-- a fault that is seen on the lines of the bytes
pub on_own_lines : (bytes : List ℕ) (f : BundleError) → ((rest : List ℕ) → AreLines bytes (lines_of bytes) rest → IsFaultOf (lines_of bytes) rest f) → IsBundleFault bytes f
on_own_lines bytes f h lines rest are =
    let same = lines_are bytes rest lines are in
    subst (λ (ls : List (List ℕ)). IsFaultOf ls rest f) same (h rest (subst (λ (ls : List (List ℕ)). AreLines bytes ls rest) (sym same) are))

pub bundle_from : (bytes rest : List ℕ) (behind : List (List ℕ)) (s : SystemParts) (e : Told) (n : ℕ) → AreLines bytes (lines_of bytes) rest → IsPlainSystem s → IsNumbersFront (lines_of bytes) (numbers_of s) behind
    → AreTextLines behind e → rest ≡ [] → n ≡ length (system_lines (numbers_of s)) + 1 → IsBundle bytes s e.0 n
bundle_from bytes rest behind s e n are plain front text none number = record {
  journal = e.1;
  front = record {
    plain = plain;
    numbers = front.1;
    lines =
        subst (λ (r : List ℕ). AreLines bytes (lines_in s e) r) none
        (subst (λ (ls : List (List ℕ)). AreLines bytes ls rest) (front.0 ∙ ap (λ (ls : List (List ℕ)). system_lines (numbers_of s) ++ ls) text.text) are);
  };
  writable = text.writable;
  number = number;
}

module _ (bytes rest : List ℕ) (are : AreLines bytes (lines_of bytes) rest) where
  abbrev lines : List (List ℕ)
  lines = lines_of bytes

  one_rest : (r : List ℕ) → AreLines bytes lines r → rest ≡ r
  one_rest r more = (one_cut bytes rest r lines lines are more).1

  faulty : (f : BundleError) → IsFault f → IsFaultOf lines rest f → Either bytes
  faulty f u fault = inr (f, u, on_own_lines bytes f (λ r more. subst (λ (q : List ℕ). IsFaultOf lines q f) (one_rest r more) fault))

  by_evidence : (behind : List (List ℕ)) (s : SystemParts) → IsPlainSystem s → IsNumbersFront lines (numbers_of s) behind → AreOrFault behind rest → Either bytes
  by_evidence behind s plain front (inl t) = inl (s, t.0.0, length (system_lines (numbers_of s)) + 1, bundle_from bytes rest behind s t.0 (length (system_lines (numbers_of s)) + 1) are plain front t.1 t.2 refl)
  by_evidence behind s plain front (inr f) =
      let less : length behind ≤ length lines = omega (arith, ap length front.0, length-append (system_lines (numbers_of s)) behind) in
      let line : IsLineOf lines f.0 (length lines + 1 - length f.0) = omega (arith, less, f.2) in
      faulty (Behind (record { line = length lines + 1 - length f.0; kind = f.1 })) tt (s, behind, f.0, plain, front, f.3, line)

  by_checks : (behind : List (List ℕ)) (l : SystemLines) → IsNumbersFront lines l behind → (o : Option (ℕ × BundleKind)) → first_fault l ≡ o → Either bytes
  by_checks behind l front (Some p) h = faulty (System p.0 p.1) tt (inr (l, behind, front, h))
  by_checks behind l front None h =
      let d = complete l front.1 h in
      by_evidence behind (system_named l) d.plain (subst (λ (x : SystemLines). IsNumbersFront lines x behind) (sym d.numbers) front) (lines_or_fault behind rest)

  by_reading : (o : Front (List ℕ) SystemLines) → first.system lines ≡ o → Either bytes
  by_reading (Ok p) h = by_checks p.1 p.0 (numbers_read lines p.1 p.0 h) (first_fault p.0) refl
  by_reading (Err left) h =
      let m = numbers_fault lines left h in
      let line : IsLineOf lines left (length lines + 1 - length left) = (let less = not_more lines m.front left m.parts in omega (arith, less)) in
      faulty (System (length lines + 1 - length left) Text) tt (inl (refl, (left, m, line)))

pub bundle_or_fault : (bytes : List ℕ) → Either bytes
bundle_or_fault bytes = let k = cut bytes in by_reading bytes k.rest k.are (first.system (lines_of bytes)) refl

-- What is answered.

pub system_left : (lines left : List (List ℕ)) → first.system lines ≡ Err left → length left ≤ length lines
system_left lines left e = let m = numbers_fault lines left e in not_more lines m.front left m.parts

pub behind_less : (lines behind : List (List ℕ)) (l : SystemLines) → first.system lines ≡ Ok (l, behind) → length behind ≤ length lines
behind_less lines behind l e = let n = numbers_read lines behind l e in omega (arith, ap length n.0, length-append (system_lines l) behind)

-- no system part begins the lines
pub text_fault : (bytes : List ℕ) (left : List (List ℕ)) (n : ℕ) → first.system (lines_of bytes) ≡ Err left → IsLineOf (lines_of bytes) left n → IsBundleFault bytes (System n Text)
text_fault bytes left n e line = on_own_lines bytes (System n Text) (λ rest are. inl (refl, (left, numbers_fault (lines_of bytes) left e, line)))

-- the numbers of the system are those that were read
named_front : (bytes : List ℕ) (behind : List (List ℕ)) (l : SystemLines) (s : SystemParts) → first.system (lines_of bytes) ≡ Ok (l, behind) → numbers_of s ≡ l → IsNumbersFront (lines_of bytes) (numbers_of s) behind
named_front bytes behind l s e same = subst (λ (x : SystemLines). IsNumbersFront (lines_of bytes) x behind) (sym same) (numbers_read (lines_of bytes) behind l e)

pub bundle_answered : (bytes : List ℕ) (behind : List (List ℕ)) (l : SystemLines) (s : SystemParts) (e : Told) (n : ℕ) → first.system (lines_of bytes) ≡ Ok (l, behind) → numbers_of s ≡ l → IsPlainSystem s
    → IsLineOf (lines_of bytes) behind n → AreTextLines behind e → IsEnded bytes → IsBundle bytes s e.0 n
bundle_answered bytes behind l s e n read same plain line text whole =
    let k = cut bytes in
    let front = named_front bytes behind l s read same in
    let number : n ≡ length (system_lines (numbers_of s)) + 1 = omega (arith, ap length front.0, length-append (system_lines (numbers_of s)) behind, line) in
    bundle_from bytes k.rest behind s e n k.are plain front text (whole (lines_of bytes) k.rest k.are) number

first_of_bytes : (bytes : List ℕ) (behind : List (List ℕ)) (l : SystemLines) (e : BundleError) → IsNumbersFront (lines_of bytes) l behind → AnswersFirstFault l e → IsBundleFault bytes e
first_of_bytes bytes behind l (System n k) front h = on_own_lines bytes (System n k) (λ rest are. inr (l, behind, front, h))
first_of_bytes bytes behind l (Behind f) front h = absurd h
first_of_bytes bytes behind l (Memory e) front h = λ lines rest are. tt

pub handed_on : {X : Type 0} (bytes : List ℕ) (behind : List (List ℕ)) (l : SystemLines) (e : BundleError) (r : Result X BundleError) → IsNumbersFront (lines_of bytes) l behind → AnswersFirstFault l e
    → IsErrAnd r (λ k. k ≡ e) → IfErr r (IsBundleFault bytes)
handed_on bytes behind l e (Ok x) front h is = absurd is
handed_on bytes behind l e (Err k) front h is = subst (IsBundleFault bytes) (sym is) (first_of_bytes bytes behind l e front h)

-- the error of an evidence behind a system
behind_fault : (bytes : List ℕ) (behind : List (List ℕ)) (l : SystemLines) (s : SystemParts) (e : ReadError) → first.system (lines_of bytes) ≡ Ok (l, behind) → numbers_of s ≡ l → IsPlainSystem s
    → IsFaultBehind bytes behind e → IsBundleFault bytes (behind_error e)
behind_fault bytes behind l s (read.Fault f) is same plain fault =
    on_own_lines bytes (Behind f) (λ rest are. let g = fault (lines_of bytes) rest are in (s, behind, g.0, plain, named_front bytes behind l s is same, g.1, g.2))
behind_fault bytes behind l s (read.Memory e) is same plain fault = λ lines rest are. tt

pub evidence_fault : {X : Type 0} (bytes : List ℕ) (behind : List (List ℕ)) (l : SystemLines) (s : SystemParts) (e : ReadError) (r : Result X BundleError) → first.system (lines_of bytes) ≡ Ok (l, behind)
    → numbers_of s ≡ l → IsPlainSystem s → IsFaultBehind bytes behind e → IsErrAnd r (λ k. k ≡ behind_error e) → IfErr r (IsBundleFault bytes)
evidence_fault bytes behind l s e (Ok x) is same plain fault handed = absurd handed
evidence_fault bytes behind l s e (Err k) is same plain fault handed = subst (IsBundleFault bytes) (sym handed) (behind_fault bytes behind l s e is same plain fault)

-- Worked texts, which are read by computing.

abbrev pub fault_in : Front (List ℕ) SystemLines → Option (ℕ × BundleKind)
fault_in (Ok p) = first_fault p.0
fault_in (Err left) = None

read_with : (bytes : List ℕ) (n : ℕ) (k : BundleKind) (o : Front (List ℕ) SystemLines) → first.system (lines_of bytes) ≡ o → fault_in o ≡ Some (n, k) → IsBundleFault bytes (System n k)
read_with bytes n k (Ok p) is h = on_own_lines bytes (System n k) (λ rest are. inr (p.0, p.1, numbers_read (lines_of bytes) p.1 p.0 is, h))
read_with bytes n k (Err left) is h = absurd cc

pub fault_read : (bytes : List ℕ) (n : ℕ) (k : BundleKind) → fault_in (first.system (lines_of bytes)) ≡ Some (n, k) → IsBundleFault bytes (System n k)
fault_read bytes n k h = read_with bytes n k (first.system (lines_of bytes)) refl h

pub bundle_read : (bytes : List ℕ) (behind : List (List ℕ)) (l : SystemLines) (e : Told) (n : ℕ) → first.system (lines_of bytes) ≡ Ok (l, behind) → first_fault l ≡ None → whole behind ≡ Ok (e, [])
    → eqb (last_of 10 bytes) 10 ≡ true → n ≡ length (system_lines (numbers_of (system_named l))) + 1 → IsBundle bytes (system_named l) e.0 n
bundle_read bytes behind l e n read none text last number =
    let k = cut bytes in
    let front = numbers_read (lines_of bytes) behind l read in
    let d = complete l front.1 none in
    bundle_from bytes k.rest behind (system_named l) e n k.are d.plain (named_front bytes behind l (system_named l) read d.numbers) (evidence_read behind [] e text) (ended bytes k.rest (lines_of bytes) k.are last) number
