-- An evidence of each kind is read exactly, up to the first line that does not fit.
use Rattle.std.proofs.Common.{◌≡◌, ℕ, zero, suc, ◌^◌, ◌<◌, List, [], ◌∷◌, ◌++◌, length, Bool, true, false, eqb, cond, refl, sym, ap, ◌∙◌, arith, append-nil}
use Rattle.std.specs.Prelude.{Ok, Err, codes}
use Rattle.std.specs.List.{flat_map, AllByRecursion}
use Rattle.std.proofs.lemmas.Bool.{eqb-false, ne_eqb}
use Rattle.ras_logic.specs.declared.raw_db.RawDb.{RawDb}
use Rattle.ras_steps.specs.declared.run.Run.{Run}
use Rattle.ras_lines.specs.Lines.{line, count_line, AreWritten}
use Rattle.ras_lines.specs.Words.{cube_line, IsSmallCube}
use Rattle.ras_lines.specs.Fronts.{Front, follow, times, IsExact}
use Rattle.ras_lines.specs.Numbers.{fixed}
use Rattle.ras_lines.specs.Formulas.{cube}
use Rattle.ras_lines.specs.Sections as lines
use Rattle.ras_lines.proofs.Exact.{followed, moved, EndsWord, chain_reads, said_otherwise, fixed_any, times_sound, times_again}
use Rattle.ras_lines.proofs.FormulaLaws.{cube_exact}
use Rattle.ras_lines.proofs.SectionLaws.{IsExactText, Any, line_exact, chain_exact, count_exact, times_stops, text_otherwise}
use Rattle.ras_lines.proofs.Leading.{led_exact, made_exact}
use Rattle.ras_runs.specs.DatabaseTexts.{database_lines, IsWrittenDatabase}
use Rattle.ras_runs.specs.RunTexts.{run_lines, IsWrittenRun}
use Rattle.ras_runs.specs.Reading.{database, run}
use Rattle.ras_runs.proofs.DatabaseLaws.{database_exact, none_written}
use Rattle.ras_runs.proofs.RunLaws.{run_exact}
use Rattle.ras_evidence.specs.declared.header.Verdict.{Verdict}
use Rattle.ras_evidence.specs.declared.header.Verdict.TheVariants as says
use Rattle.ras_evidence.specs.declared.entries.Budget.{Budget}
use Rattle.ras_evidence.specs.declared.parts.FirstLine.{FirstLine}
use Rattle.ras_evidence.specs.declared.safe.SafeEvidence.{SafeEvidence}
use Rattle.ras_evidence.specs.declared.value.Entry.{Entry}
use Rattle.ras_evidence.specs.declared.value.Evidence.{Evidence}
use Rattle.ras_evidence.specs.declared.value.Evidence.TheVariants.{Safe, Unsafe, Unknown}
use Rattle.ras_evidence.specs.Headers.{verdict, verdict_word}
use Rattle.ras_evidence.specs.SafeReading.{to_end, safe_parts}
use Rattle.ras_evidence.specs.EvidenceTexts.{verdict_of, entry_lines, parts_lines, evidence_lines, IsWrittenEntry, IsWritable}
use Rattle.ras_evidence.specs.EvidenceReading as first
use Rattle.ras_evidence.proofs.EvidenceLaws.{empty_cube, verdict_exact, parts_text, IsWrittenSafe, ended_exact, safe_parts_exact}

-- A database and a run.

abbrev ReachedValid : first.Reached → Type 0
ReachedValid p = IsWrittenDatabase p.0 × IsWrittenRun p.1

abbrev reached_text : first.Reached → List (List ℕ)
reached_text p = database_lines p.0 ++ run_lines p.1

abbrev no_db : RawDb
no_db = record { sizes = []; tables = []; constants = [] }

abbrev no_run : Run
no_run = record { start = record { vars = []; relations = [] }; choices = [] }

none_in_db : IsWrittenDatabase no_db
none_in_db = record { sizes = none_written _; tables = none_written _; constants = none_written _ }

none_in_run : IsWrittenRun no_run
none_in_run = record { vars = none_written _; relations = none_written _; choices = none_written _ }

reached_exact : IsExactText reached_text ReachedValid first.reached
reached_exact =
    chain_exact (λ (d : RawDb) (r : Run). (d, r)) (λ p. p.0) (λ p. p.1) (λ d r. refl) (λ d r. refl) (λ p. refl) database_lines IsWrittenDatabase database database_exact run_lines IsWrittenRun run run_exact no_run none_in_run

-- Entries.

abbrev reached_of : Entry → first.Reached
reached_of e = (e.db, e.run)

abbrev entry_text : Entry → List (List ℕ)
entry_text e = (cube_line e.cube ∷ []) ++ reached_text (reached_of e)

abbrev EntryValid : Entry → Type 0
EntryValid e = IsSmallCube e.cube × ReachedValid (reached_of e)

cube_line_exact : IsExactText (λ c. cube_line c ∷ []) IsSmallCube (lines.at_line cube)
cube_line_exact = line_exact cube_line IsSmallCube cube cube_exact (record { rows = []; params = []; literals = [] }) empty_cube

entry_exact : IsExactText entry_lines IsWrittenEntry first.entry
entry_exact =
    text_otherwise entry_text entry_lines EntryValid IsWrittenEntry first.entry (λ e. refl) (λ e v. record { cube = v.0; db = v.1.0; run = v.1.1 }) (λ e w. (w.cube, (w.db, w.run)))
    (chain_exact first.entry_of (λ e. e.cube) reached_of (λ c p. refl) (λ c p. refl) (λ e. refl) (λ c. cube_line c ∷ []) IsSmallCube (lines.at_line cube) cube_line_exact
    reached_text ReachedValid first.reached reached_exact (no_db, no_run) (none_in_db, none_in_run))

abbrev some_entry : Entry
some_entry = record { cube = record { rows = []; params = []; literals = [] }; db = no_db; run = no_run }

some_written : IsWrittenEntry some_entry
some_written = record { cube = empty_cube; db = none_in_db; run = none_in_run }

-- The budget.

abbrev IsBudget : Budget → Type 0
IsBudget b = (0 < b.count) × (b.count < 2 ^ 32)

abbrev budget_line : Budget → List ℕ
budget_line b = count_line (codes "budget") b.count

positive_case : (n : ℕ) (mid : List ℕ) (b : Budget) (rest : List ℕ) (v : Bool) → eqb n 0 ≡ v → (let o : Front ℕ Budget = cond v (Err mid) (Ok (record { count = n }, mid)) in o) ≡ Ok (b, rest)
    → (0 < n) × (◌≡◌ {A = Front ℕ Budget} (Ok (record { count = n }, mid)) (Ok (b, rest)))
positive_case n mid b rest true is e = absurd cc
positive_case n mid b rest false is e = let ne = eqb-false n 0 is in (omega (arith, ne), e)

budget_sound : (bytes : List ℕ) (b : Budget) (rest : List ℕ) → first.budget bytes ≡ Ok (b, rest) → (bytes ≡ budget_line b ++ rest) × IsBudget b
budget_sound bytes b rest e =
    let s = followed (lines.count (codes "budget") bytes) first.if_positive b rest e in
    let c = (count_exact (codes "budget")).sound bytes s.0 s.1 s.2 in
    let p = positive_case s.0 s.1 b rest (eqb s.0 0) refl s.3 in
    moved budget_line IsBudget bytes (record { count = s.0 }) b s.1 rest p.1 c.0 (p.0, c.1)

positive_again : (n : ℕ) (rest : List ℕ) → 0 < n → first.if_positive n rest ≡ Ok (record { count = n }, rest)
positive_again n rest lt = let e : eqb n 0 ≡ false = ne_eqb n 0 (λ h. omega (arith, lt, h)) in rw e refl

budget_again : (b : Budget) (rest : List ℕ) → IsBudget b → EndsWord rest → first.budget (budget_line b ++ rest) ≡ Ok (b, rest)
budget_again b rest valid ends =
    ap (λ (o : Front ℕ ℕ). follow o first.if_positive) ((count_exact (codes "budget")).again b.count rest valid.1 ends) ∙ positive_again b.count rest valid.0

budget_exact : IsExactText (λ b. budget_line b ∷ []) IsBudget (lines.at_line first.budget)
budget_exact = line_exact budget_line IsBudget first.budget (record { sound = budget_sound; again = budget_again }) (record { count = 1 }) (omega arith, omega arith)

abbrev budget_of : List Entry → Budget
budget_of es = record { count = length es }

abbrev AreEntries : List Entry → Type 0
AreEntries es = AllByRecursion IsWrittenEntry es

abbrev AreEntriesOf : Budget → List Entry → Type 0
AreEntriesOf b es = (budget_of es ≡ b) × AreEntries es

of_count : (b : Budget) (es : List Entry) → length es ≡ b.count → budget_of es ≡ b
of_count b es e = ap (λ (n : ℕ). let c : Budget = record { count = n } in c) e

count_of : (b : Budget) (es : List Entry) → budget_of es ≡ b → length es ≡ b.count
count_of b es e = ap (λ (c : Budget). c.count) e

entries_behind : (b : Budget) → IsExactText (flat_map entry_lines) (AreEntriesOf b) (first.behind_budget b)
entries_behind b = record {
  reads = record {
    sound = λ ls es rest e. let r = times_sound Any entry_lines IsWrittenEntry first.entry entry_exact.reads b.count ls es rest e in (r.parts, (of_count b es r.count, r.valid));
    again = λ es rest valid any.
        ap (λ (n : ℕ). times first.entry n (flat_map entry_lines es ++ rest)) (sym (count_of b es valid.0)) ∙ times_again Any entry_lines IsWrittenEntry first.entry entry_exact.reads (λ x more. tt) es rest valid.1 tt;
  };
  stops = λ ls left e.
      let s = times_stops entry_lines IsWrittenEntry first.entry entry_exact some_entry some_written b.count ls left e in
      record { front = s.front; parts = s.parts; value = s.value; more = s.more; valid = (of_count b s.value s.valid.count, s.valid.each); begins = s.begins; dead = s.dead };
}

copies : (n : ℕ) → (es : List Entry) × ((length es ≡ n) × AreEntries es)
copies zero = ([], (refl, tt))
copies (suc n) = let r = copies n in (some_entry ∷ r.0, (ap suc r.1.0, (some_written, r.1.1)))

some_entries : (b : Budget) → IsBudget b → (es : List Entry) × AreEntriesOf b es
some_entries b valid = let r = copies b.count in (r.0, (of_count b r.0 r.1.0, r.1.1))

abbrev entries_text : List Entry → List (List ℕ)
entries_text es = count_line (codes "budget") (length es) ∷ flat_map entry_lines es

abbrev EntriesValid : List Entry → Type 0
EntriesValid es = (0 < length es) × AreWritten IsWrittenEntry es

entries_exact : IsExactText entries_text EntriesValid first.entries
entries_exact =
    text_otherwise entries_text entries_text (λ es. IsBudget (budget_of es) × AreEntries es) EntriesValid first.entries (λ es. refl) (λ es v. (v.0.0, record { count = v.0.1; each = v.1 }))
    (λ es w. ((w.0, w.1.count), w.1.each))
    (led_exact budget_of budget_line IsBudget (lines.at_line first.budget) budget_exact (flat_map entry_lines) AreEntries first.behind_budget (λ b v. entries_behind b) some_entries)

abbrev spent_text : first.Spent → List (List ℕ)
spent_text p = entries_text p.0 ++ entry_lines p.1

abbrev SpentValid : first.Spent → Type 0
SpentValid p = EntriesValid p.0 × IsWrittenEntry p.1

spent_exact : IsExactText spent_text SpentValid first.spent
spent_exact =
    chain_exact (λ (es : List Entry) (s : Entry). (es, s)) (λ p. p.0) (λ p. p.1) (λ a b. refl) (λ a b. refl) (λ p. refl) entries_text EntriesValid first.entries entries_exact
    entry_lines IsWrittenEntry first.entry entry_exact some_entry some_written

-- Each kind.

abbrev behind_lines : Evidence → List (List ℕ)
behind_lines e = parts_lines e ++ codes "end" ∷ []

abbrev IsOf : Verdict → Evidence → Type 0
IsOf v e = (verdict_of e ≡ v) × IsWritable e

from_safe : (e : Evidence) → IsOf says.Safe e → (s : SafeEvidence) × ((e ≡ first.safe_of s) × IsWrittenSafe s)
from_safe (Safe formulas trees) h = (record { formulas = formulas; trees = trees }, (refl, h.1))
from_safe (Unsafe db r) h = absurd (let k : says.Unsafe ≡ says.Safe = h.0 in cc)
from_safe (Unknown entries spill) h = absurd (let k : says.Unknown ≡ says.Safe = h.0 in cc)

from_unsafe : (e : Evidence) → IsOf says.Unsafe e → (p : first.Reached) × ((e ≡ first.unsafe_of p) × ReachedValid p)
from_unsafe (Safe formulas trees) h = absurd (let k : says.Safe ≡ says.Unsafe = h.0 in cc)
from_unsafe (Unsafe db r) h = ((db, r), (refl, h.1))
from_unsafe (Unknown entries spill) h = absurd (let k : says.Unknown ≡ says.Unsafe = h.0 in cc)

from_unknown : (e : Evidence) → IsOf says.Unknown e → (p : first.Spent) × ((e ≡ first.unknown_of p) × SpentValid p)
from_unknown (Safe formulas trees) h = absurd (let k : says.Safe ≡ says.Unknown = h.0 in cc)
from_unknown (Unsafe db r) h = absurd (let k : says.Unsafe ≡ says.Unknown = h.0 in cc)
from_unknown (Unknown entries spill) h = ((entries, spill), (refl, h.1))

parts_exact : (v : Verdict) → IsExactText behind_lines (IsOf v) (first.parts_of v)
parts_exact says.Safe =
    made_exact first.safe_of (λ s. parts_text s ++ codes "end" ∷ []) IsWrittenSafe safe_parts safe_parts_exact behind_lines (IsOf says.Safe) (λ s. refl) (λ s v. (refl, v)) from_safe
parts_exact says.Unsafe =
    made_exact first.unsafe_of (λ p. reached_text p ++ codes "end" ∷ []) ReachedValid (to_end first.reached) (ended_exact reached_text ReachedValid first.reached reached_exact) behind_lines (IsOf says.Unsafe)
    (λ p. refl) (λ p v. (refl, v)) from_unsafe
parts_exact says.Unknown =
    made_exact first.unknown_of (λ p. spent_text p ++ codes "end" ∷ []) SpentValid (to_end first.spent) (ended_exact spent_text SpentValid first.spent spent_exact) behind_lines (IsOf says.Unknown)
    (λ p. refl) (λ p v. (refl, v)) from_unknown

-- The first line.

abbrev first_line_text : FirstLine → List ℕ
first_line_text l = line (codes "evidence") (codes "1" ∷ verdict_word l.verdict ∷ [])

abbrev IsAny : FirstLine → Type 0
IsAny l = Unit {0}

first_line_exact : IsExact EndsWord first_line_text IsAny first.first_line
first_line_exact =
    said_otherwise EndsWord (λ l. codes "evidence 1 " ++ verdict_word l.verdict) first_line_text (λ l. Unit {0} × Unit {0}) IsAny first.first_line
    (λ l. ap (λ (w : List ℕ). codes "evidence 1 " ++ w) (sym (append-nil (verdict_word l.verdict)))) (λ l v. tt) (λ l v. (tt, tt))
    (chain_reads first.first_line_of (λ l. tt) (λ l. l.verdict) (λ u v. refl) (λ u v. refl) (λ l. refl) (λ ls. Unit {0}) EndsWord (λ _. codes "evidence 1 ") (λ _. Unit {0}) (fixed (codes "evidence 1 "))
    (fixed_any (codes "evidence 1 ")) verdict_word (λ _. Unit {0}) verdict verdict_exact (λ y rest ends. tt))

head_exact : IsExactText (λ l. first_line_text l ∷ []) IsAny (lines.at_line first.first_line)
head_exact = line_exact first_line_text IsAny first.first_line first_line_exact (record { verdict = says.Safe }) tt

abbrev first_of : Evidence → FirstLine
first_of e = record { verdict = verdict_of e }

of_line : (l : FirstLine) (e : Evidence) → verdict_of e ≡ l.verdict → first_of e ≡ l
of_line l e is = ap (λ (v : Verdict). let k : FirstLine = record { verdict = v } in k) is

behind_exact : (l : FirstLine) → IsAny l → IsExactText behind_lines (λ e. (first_of e ≡ l) × IsWritable e) (first.behind_first l)
behind_exact l any =
    text_otherwise behind_lines behind_lines (IsOf l.verdict) (λ e. (first_of e ≡ l) × IsWritable e) (first.behind_first l) (λ e. refl) (λ e v. (of_line l e v.0, v.1))
    (λ e w. (ap (λ (k : FirstLine). k.verdict) w.0, w.1)) (parts_exact l.verdict)

some_of : (v : Verdict) → (e : Evidence) × IsOf v e
some_of says.Safe = (Safe [] [], (refl, (none_written _, none_written _)))
some_of says.Unsafe = (Unsafe no_db no_run, (refl, (none_in_db, none_in_run)))
some_of says.Unknown = (Unknown (some_entry ∷ []) some_entry, (refl, ((omega arith, record { count = omega arith; each = (some_written, tt) }), some_written)))

some_evidence : (l : FirstLine) → IsAny l → (e : Evidence) × ((first_of e ≡ l) × IsWritable e)
some_evidence l any = let s = some_of l.verdict in (s.0, (of_line l s.0 s.1.0, s.1.1))

pub evidence_exact : IsExactText evidence_lines IsWritable first.evidence
evidence_exact =
    text_otherwise evidence_lines evidence_lines (λ e. Unit {0} × IsWritable e) IsWritable first.evidence (λ e. refl) (λ e v. v.1) (λ e w. (tt, w))
    (led_exact first_of first_line_text IsAny (lines.at_line first.first_line) head_exact behind_lines IsWritable first.behind_first behind_exact some_evidence)
