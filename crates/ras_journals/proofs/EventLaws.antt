-- The line of an event is read exactly.
use Rattle.std.proofs.Common.{◌≡◌, ℕ, ◌^◌, ◌<◌, List, [], ◌∷◌, ◌++◌, map, refl, sym, ap, ◌∙◌, append-nil, append_assoc}
use Rattle.std.specs.Prelude.{Ok, Err, Some, codes}
use Rattle.std.specs.Fmt.{decimal}
use Rattle.ras_logic.specs.declared.problem.Problem.{Problem}
use Rattle.ras_lines.specs.Lines.{line, spaced, counted, AreWritten}
use Rattle.ras_lines.specs.Trees.{IsWrittenNumber}
use Rattle.ras_lines.specs.Words.{cube_line, IsSmallCube}
use Rattle.ras_lines.specs.Fronts.{Front, made, IsExact}
use Rattle.ras_lines.specs.Numbers.{behind, number, small_number, behind_blank, announced}
use Rattle.ras_lines.specs.Formulas.{cube}
use Rattle.ras_lines.proofs.Behind.{behind_sound}
use Rattle.ras_lines.proofs.Exact.{moved, either_case, joined, EndsWord, no_digit, number_exact, small_sound, small_again, blank_word, blank_exact, announced_text, announced_exact, chain_reads, said_otherwise, fixed_first}
use Rattle.ras_lines.proofs.FormulaLaws.{cube_exact, spaced-counted}
use Rattle.ras_core.specs.declared.origin.Origin.{Origin}
use Rattle.ras_core.specs.declared.origin.Origin.TheVariants.{Goal, Step}
use Rattle.ras_core.specs.declared.event.Event.{Event}
use Rattle.ras_core.specs.declared.event.Event.TheVariants.{Claim, Admit, Skip, Drop, Done, GiveBack, Hit, Spill, Idle}
use Rattle.ras_journals.specs.declared.event_line.EventLine.{EventLine}
use Rattle.ras_journals.specs.declared.event_line.Sought.{Sought}
use Rattle.ras_journals.specs.JournalTexts.{origin_words, event_line, IsWrittenOrigin, IsWrittenEvent}
use Rattle.ras_journals.specs.JournalReading as first

-- a value made of one that was read
made_from : {X E : Type 0} (make : X → E) (o : Front ℕ X) (e : E) (rest : List ℕ) → made make o ≡ Ok (e, rest) → (x : X) × (mid : List ℕ) × (o ≡ Ok (x, mid)) × (◌≡◌ {A = Front ℕ E} (Ok (make x, mid)) (Ok (e, rest)))
made_from make (Ok p) e rest is = (p.0, p.1, refl, is)
made_from make (Err left) e rest is = absurd cc

-- Alternatives that a word tells: behind it stands what the value is made of.
module _ {E : Type 0} (text : E → List ℕ) (Valid : E → Type 0) where
  abbrev IsSpelled : List ℕ → E → List ℕ → Type 0
  IsSpelled bytes e rest = (bytes ≡ text e ++ rest) × Valid e

  abbrev AreSpelled : List ℕ → Front ℕ E → Type 0
  AreSpelled bytes o = (e : E) (rest : List ℕ) → o ≡ Ok (e, rest) → IsSpelled bytes e rest

  told_by : {X : Type 0} (word : List ℕ) (make : X → E) (own : X → List ℕ) (V : X → Type 0) (f : List ℕ → Front ℕ X) → IsExact EndsWord own V f → ((x : X) → text (make x) ≡ word ++ own x)
      → ((x : X) → V x → Valid (make x)) → (bytes after : List ℕ) → behind word bytes ≡ Some after → AreSpelled bytes (made make (f after))
  told_by {X} word make own V f exact same valid bytes after is e rest read =
      let m = made_from make (f after) e rest read in
      let inner = exact.sound after m.0 m.1 m.2 in
      moved text Valid bytes (make m.0) e m.1 rest m.3
      (joined word (own m.0) bytes after m.1 (behind_sound word bytes after is) inner.0 ∙ ap (λ (w : List ℕ). w ++ m.1) (sym (same m.0))) (valid m.0 inner.1)

-- Origins.

abbrev small : ℕ → Type 0
small n = n < 2 ^ 16

small_exact : IsExact EndsWord decimal small small_number
small_exact = record { sound = λ bytes n rest e. small_sound bytes rest n e; again = λ n rest lt ends. small_again n rest lt (no_digit rest ends) }

stepped_exact : IsExact EndsWord (λ p. decimal p.0 ++ blank_word decimal p.1) (λ p. (p.0 < 2 ^ 32) × small p.1) first.stepped
stepped_exact =
    chain_reads (λ (e t : ℕ). (e, t)) (λ p. p.0) (λ p. p.1) (λ a b. refl) (λ a b. refl) (λ p. refl) EndsWord EndsWord decimal (λ n. n < 2 ^ 32) number number_exact
    (blank_word decimal) small (behind_blank small_number) (blank_exact decimal small small_number small_exact) (λ y rest ends. refl)

abbrev origin_text : Origin → List ℕ
origin_text (Goal disjunct) = codes "goal " ++ decimal disjunct
origin_text (Step entry transition) = codes "step " ++ (decimal entry ++ blank_word decimal transition)

origin_sound : (bytes : List ℕ) → AreSpelled origin_text IsWrittenOrigin bytes (first.origin bytes)
origin_sound bytes =
    let P : Front ℕ Origin → Type 0 = AreSpelled origin_text IsWrittenOrigin bytes in
    either_case (behind (codes "goal ") bytes) _ _ P
    (λ r is. told_by origin_text IsWrittenOrigin (codes "goal ") first.goal_of decimal small small_number small_exact (λ x. refl) (λ x v. v) bytes r is)
    (either_case (behind (codes "step ") bytes) _ _ P
    (λ r is. told_by origin_text IsWrittenOrigin (codes "step ") first.step_of _ _ first.stepped stepped_exact (λ x. refl) (λ x v. v) bytes r is)
    (λ e rest read. absurd cc))

origin_again : (o : Origin) (rest : List ℕ) → IsWrittenOrigin o → EndsWord rest → first.origin (origin_text o ++ rest) ≡ Ok (o, rest)
origin_again (Goal disjunct) rest valid ends = ap (made first.goal_of) (small_exact.again disjunct rest valid ends)
origin_again (Step entry transition) rest valid ends = ap (made first.step_of) (stepped_exact.again (entry, transition) rest valid ends)

origin_exact : IsExact EndsWord origin_text IsWrittenOrigin first.origin
origin_exact = record { sound = λ bytes o rest e. origin_sound bytes o rest e; again = origin_again }

-- What stands behind the word of an event.

abbrev sought_text : Sought → List ℕ
sought_text s = origin_text s.origin ++ blank_word cube_line s.cube

abbrev SoughtValid : Sought → Type 0
SoughtValid s = IsWrittenOrigin s.origin × IsSmallCube s.cube

sought_exact : IsExact EndsWord sought_text SoughtValid first.sought
sought_exact =
    chain_reads first.sought_of (λ s. s.origin) (λ s. s.cube) (λ a b. refl) (λ a b. refl) (λ s. refl) EndsWord EndsWord origin_text IsWrittenOrigin first.origin origin_exact
    (blank_word cube_line) IsSmallCube (behind_blank cube) (blank_exact cube_line IsSmallCube cube cube_exact) (λ y rest ends. refl)

abbrev reasons_text : List ℕ → List ℕ
reasons_text reasons = codes " reasons" ++ announced_text decimal reasons

reasons_exact : IsExact EndsWord reasons_text (AreWritten IsWrittenNumber) first.reasons
reasons_exact = fixed_first (codes " reasons") EndsWord (announced_text decimal) (AreWritten IsWrittenNumber) (announced number) (announced_exact decimal IsWrittenNumber number number_exact)

abbrev skipped_text : first.Skipped → List ℕ
skipped_text s = sought_text s.0 ++ reasons_text s.1

abbrev SkippedValid : first.Skipped → Type 0
SkippedValid s = SoughtValid s.0 × AreWritten IsWrittenNumber s.1

skipped_exact : IsExact EndsWord skipped_text SkippedValid first.skipped
skipped_exact =
    chain_reads (λ (s : Sought) (ns : List ℕ). (s, ns)) (λ p. p.0) (λ p. p.1) (λ a b. refl) (λ a b. refl) (λ p. refl) EndsWord EndsWord sought_text SoughtValid first.sought sought_exact
    reasons_text (AreWritten IsWrittenNumber) first.reasons reasons_exact (λ y rest ends. refl)

dropped_exact : IsExact EndsWord (λ p. decimal p.0 ++ blank_word decimal p.1) (λ p. (p.0 < 2 ^ 32) × (p.1 < 2 ^ 32)) first.dropped
dropped_exact =
    chain_reads (λ (e t : ℕ). (e, t)) (λ p. p.0) (λ p. p.1) (λ a b. refl) (λ a b. refl) (λ p. refl) EndsWord EndsWord decimal (λ n. n < 2 ^ 32) number number_exact
    (blank_word decimal) (λ n. n < 2 ^ 32) (behind_blank number) (blank_exact decimal (λ n. n < 2 ^ 32) number number_exact) (λ y rest ends. refl)

-- Events.

abbrev text : Event → List ℕ
text (Claim entry) = codes "claim " ++ decimal entry
text (Admit origin cube) = codes "admit " ++ (origin_text origin ++ blank_word cube_line cube)
text (Skip origin cube reasons) = codes "skip " ++ ((origin_text origin ++ blank_word cube_line cube) ++ reasons_text reasons)
text (Drop entry by) = codes "drop " ++ (decimal entry ++ blank_word decimal by)
text (Done entry) = codes "done " ++ decimal entry
text (GiveBack entry) = codes "back " ++ decimal entry
text (Hit origin cube) = codes "hit " ++ (origin_text origin ++ blank_word cube_line cube)
text (Spill origin cube) = codes "spill " ++ (origin_text origin ++ blank_word cube_line cube)
text Idle = codes "idle"

abbrev AreEvents : List ℕ → Front ℕ Event → Type 0
AreEvents bytes o = AreSpelled text IsWrittenEvent bytes o

abbrev written : ℕ → Type 0
written n = n < 2 ^ 32

worked_sound : (bytes : List ℕ) → AreEvents bytes (first.worked bytes)
worked_sound bytes =
    let P : Front ℕ Event → Type 0 = AreEvents bytes in
    either_case (behind (codes "claim ") bytes) _ _ P (λ r is. told_by text IsWrittenEvent (codes "claim ") first.claim_of decimal written number number_exact (λ x. refl) (λ x v. v) bytes r is)
    (either_case (behind (codes "done ") bytes) _ _ P (λ r is. told_by text IsWrittenEvent (codes "done ") first.done_of decimal written number number_exact (λ x. refl) (λ x v. v) bytes r is)
    (either_case (behind (codes "back ") bytes) _ _ P (λ r is. told_by text IsWrittenEvent (codes "back ") first.back_of decimal written number number_exact (λ x. refl) (λ x v. v) bytes r is)
    (either_case (behind (codes "drop ") bytes) _ _ P (λ r is. told_by text IsWrittenEvent (codes "drop ") first.drop_of _ _ first.dropped dropped_exact (λ x. refl) (λ x v. v) bytes r is)
    (either_case (behind (codes "idle") bytes) _ _ P (λ r is e rest read. moved text IsWrittenEvent bytes Idle e r rest read (behind_sound (codes "idle") bytes r is) tt)
    (λ e rest read. absurd cc)))))

event_sound : (bytes : List ℕ) → AreEvents bytes (first.event bytes)
event_sound bytes =
    let P : Front ℕ Event → Type 0 = AreEvents bytes in
    either_case (behind (codes "admit ") bytes) _ _ P (λ r is. told_by text IsWrittenEvent (codes "admit ") first.admit_of sought_text SoughtValid first.sought sought_exact (λ x. refl) (λ x v. v) bytes r is)
    (either_case (behind (codes "skip ") bytes) _ _ P (λ r is. told_by text IsWrittenEvent (codes "skip ") first.skip_of skipped_text SkippedValid first.skipped skipped_exact (λ x. refl) (λ x v. v) bytes r is)
    (either_case (behind (codes "hit ") bytes) _ _ P (λ r is. told_by text IsWrittenEvent (codes "hit ") first.hit_of sought_text SoughtValid first.sought sought_exact (λ x. refl) (λ x v. v) bytes r is)
    (either_case (behind (codes "spill ") bytes) _ _ P (λ r is. told_by text IsWrittenEvent (codes "spill ") first.spill_of sought_text SoughtValid first.sought sought_exact (λ x. refl) (λ x v. v) bytes r is)
    (worked_sound bytes))))

event_again : (e : Event) (rest : List ℕ) → IsWrittenEvent e → EndsWord rest → first.event (text e ++ rest) ≡ Ok (e, rest)
event_again (Claim entry) rest valid ends = ap (made first.claim_of) (number_exact.again entry rest valid ends)
event_again (Admit origin cube) rest valid ends = ap (made first.admit_of) (sought_exact.again (first.sought_of origin cube) rest valid ends)
event_again (Skip origin cube reasons) rest valid ends = ap (made first.skip_of) (skipped_exact.again (first.sought_of origin cube, reasons) rest valid ends)
event_again (Drop entry by) rest valid ends = ap (made first.drop_of) (dropped_exact.again (entry, by) rest valid ends)
event_again (Done entry) rest valid ends = ap (made first.done_of) (number_exact.again entry rest valid ends)
event_again (GiveBack entry) rest valid ends = ap (made first.back_of) (number_exact.again entry rest valid ends)
event_again (Hit origin cube) rest valid ends = ap (made first.hit_of) (sought_exact.again (first.sought_of origin cube) rest valid ends)
event_again (Spill origin cube) rest valid ends = ap (made first.spill_of) (sought_exact.again (first.sought_of origin cube) rest valid ends)
event_again Idle rest valid ends = refl

-- The text in words.

origin_spaced : (o : Origin) (more : List (List ℕ)) → spaced (origin_words o ++ more) ≡ 32 ∷ (origin_text o ++ spaced more)
origin_spaced (Goal disjunct) more = refl
origin_spaced (Step entry transition) more = ap (λ (w : List ℕ). codes " step " ++ w) (sym (append_assoc (decimal entry) (blank_word decimal transition) (spaced more)))

sought_line : (word : List ℕ) (o : Origin) (c : Problem) → word ++ (32 ∷ (origin_text o ++ blank_word cube_line c)) ≡ line word (origin_words o ++ cube_line c ∷ [])
sought_line word o c =
    ap (λ (w : List ℕ). word ++ w)
    (ap (λ (w : List ℕ). 32 ∷ (origin_text o ++ (32 ∷ w))) (sym (append-nil (cube_line c))) ∙ sym (origin_spaced o (cube_line c ∷ [])))

number_line : (word : List ℕ) (n : ℕ) → word ++ (32 ∷ decimal n) ≡ line word (decimal n ∷ [])
number_line word n = ap (λ (w : List ℕ). word ++ (32 ∷ w)) (sym (append-nil (decimal n)))

skipped_line : (o : Origin) (c : Problem) (reasons : List ℕ) → text (Skip o c reasons) ≡ event_line (Skip o c reasons)
skipped_line o c reasons =
    ap (λ (w : List ℕ). codes "skip " ++ w)
    (append_assoc (origin_text o) (blank_word cube_line c) (reasons_text reasons)
    ∙ ap (λ (w : List ℕ). origin_text o ++ (blank_word cube_line c ++ (codes " reasons" ++ w))) (sym (spaced-counted decimal reasons)))
    ∙ ap (λ (w : List ℕ). codes "skip" ++ w) (sym (origin_spaced o (cube_line c ∷ codes "reasons" ∷ counted (map decimal reasons))))

same_text : (e : Event) → text e ≡ event_line e
same_text (Claim entry) = number_line (codes "claim") entry
same_text (Admit origin cube) = sought_line (codes "admit") origin cube
same_text (Skip origin cube reasons) = skipped_line origin cube reasons
same_text (Drop entry by) = ap (λ (w : List ℕ). codes "drop " ++ (decimal entry ++ (32 ∷ w))) (sym (append-nil (decimal by)))
same_text (Done entry) = number_line (codes "done") entry
same_text (GiveBack entry) = number_line (codes "back") entry
same_text (Hit origin cube) = sought_line (codes "hit") origin cube
same_text (Spill origin cube) = sought_line (codes "spill") origin cube
same_text Idle = refl

event_exact : IsExact EndsWord event_line IsWrittenEvent first.event
event_exact =
    said_otherwise EndsWord text event_line IsWrittenEvent IsWrittenEvent first.event same_text (λ e v. v) (λ e v. v)
    (record { sound = λ bytes e rest read. event_sound bytes e rest read; again = event_again })

-- the line that holds it

line_sound : (bytes : List ℕ) (l : EventLine) (rest : List ℕ) → first.event_line bytes ≡ Ok (l, rest) → (bytes ≡ event_line l.event ++ rest) × IsWrittenEvent l.event
line_sound bytes l rest read =
    let m = made_from first.line_of (first.event bytes) l rest read in
    let inner = event_exact.sound bytes m.0 m.1 m.2 in
    moved (λ (k : EventLine). event_line k.event) (λ (k : EventLine). IsWrittenEvent k.event) bytes (first.line_of m.0) l m.1 rest m.3 inner.0 inner.1

pub line_exact_of_event : IsExact EndsWord (λ l. event_line l.event) (λ l. IsWrittenEvent l.event) first.event_line
line_exact_of_event = record { sound = line_sound; again = λ l rest valid ends. ap (made first.line_of) (event_exact.again l.event rest valid ends) }
