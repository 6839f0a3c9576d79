-- The pieces of an event are its line, with its end.
use Rattle.std.proofs.Common.{◌≡◌, ℕ, List, [], ◌∷◌, ◌++◌, map, refl, sym, ap, ◌∙◌, append_assoc, append-nil, codes}
use Rattle.std.specs.Prelude.{Option, Some, None}
use Rattle.std.specs.Fmt.{decimal}
use Rattle.ras_logic.specs.declared.problem.Problem.{Problem}
use Rattle.ras_lines.specs.Lines.{line, spaced, counted, written}
use Rattle.ras_lines.specs.Words.{cube_line}
use Rattle.ras_lines.proofs.FormulaLaws.{spaced-counted}
use Rattle.ras_core.specs.declared.origin.Origin.{Origin}
use Rattle.ras_core.specs.declared.origin.Origin.TheVariants.{Goal, Step}
use Rattle.ras_core.specs.declared.event.Event.{Event}
use Rattle.ras_core.specs.declared.event.Event.TheVariants.{Claim, Admit, Skip, Drop, Done, GiveBack, Hit, Spill, Idle}
use Rattle.ras_journals.specs.JournalTexts.{origin_words, event_line, journal_lines}
use Rattle.ras_evidence.specs.declared.value.Evidence.{Evidence}
use Rattle.ras_evidence.specs.EvidenceTexts.{Told, evidence_lines, optional_lines, text_lines}
use Rattle.ras_text.specs.Pieces.{word, end_of_line}
use Rattle.ras_writing.specs.Pieces.{cube_words, evidence}
use Rattle.ras_writing.specs.EventPieces as piece
use Rattle.ras_writing.proofs.PieceLaws.{cube_words_same, section_of_lines, both, evidence_same}

origin_spaced : (o : Origin) (more : List (List ℕ)) → spaced (origin_words o ++ more) ≡ piece.origin o ++ spaced more
origin_spaced (Goal disjunct) more = refl
origin_spaced (Step entry transition) more = ap (λ (w : List ℕ). codes " step" ++ w) (sym (append_assoc (word entry) (word transition) (spaced more)))

sought_same : (head : List ℕ) (o : Origin) (c : Problem) → piece.sought head o c ≡ line head (origin_words o ++ cube_line c ∷ [])
sought_same head o c =
    ap (λ (w : List ℕ). head ++ w)
    (ap (λ (w : List ℕ). piece.origin o ++ (32 ∷ w)) (cube_words_same c ∙ sym (append-nil (cube_line c))) ∙ sym (origin_spaced o (cube_line c ∷ [])))

skip_same : (o : Origin) (c : Problem) (reasons : List ℕ) → piece.skip o c reasons ≡ event_line (Skip o c reasons)
skip_same o c reasons =
    let behind : List ℕ = codes " reasons" ++ spaced (counted (map decimal reasons)) in
    ap (λ (w : List ℕ). piece.sought (codes "skip") o c ++ (codes " reasons" ++ w)) (sym (spaced-counted decimal reasons))
    ∙ ap (λ (w : List ℕ). codes "skip" ++ w)
    (append_assoc (piece.origin o) (codes " " ++ cube_words c) behind
    ∙ ap (λ (w : List ℕ). piece.origin o ++ (32 ∷ (w ++ behind))) (cube_words_same c)
    ∙ sym (origin_spaced o (cube_line c ∷ codes "reasons" ∷ counted (map decimal reasons))))

worked_same : (head : List ℕ) (n : ℕ) → piece.worked head n ≡ line head (decimal n ∷ [])
worked_same head n = ap (λ (w : List ℕ). head ++ (32 ∷ w)) (sym (append-nil (decimal n)))

words_same : (e : Event) → piece.words e ≡ event_line e
words_same (Claim entry) = worked_same (codes "claim") entry
words_same (Admit o c) = sought_same (codes "admit") o c
words_same (Skip o c reasons) = skip_same o c reasons
words_same (Drop entry by) = ap (λ (w : List ℕ). codes "drop" ++ (word entry ++ (32 ∷ w))) (sym (append-nil (decimal by)))
words_same (Done entry) = worked_same (codes "done") entry
words_same (GiveBack entry) = worked_same (codes "back") entry
words_same (Hit o c) = sought_same (codes "hit") o c
words_same (Spill o c) = sought_same (codes "spill") o c
words_same Idle = refl

pub event_same : (e : Event) → piece.event e ≡ event_line e ++ end_of_line
event_same e = ap (λ (w : List ℕ). w ++ end_of_line) (words_same e)

-- The text of an evidence and a journal.

journal_same : (o : Option (List Event)) → piece.journal o ≡ written (optional_lines journal_lines o)
journal_same None = refl
journal_same (Some events) = section_of_lines (codes "journal") event_line piece.event event_same events

text_same : (t : Told) → evidence t.0 ++ piece.journal t.1 ≡ written (text_lines t)
text_same t =
    ap (λ (w : List ℕ). w ++ piece.journal t.1) (evidence_same t.0) ∙ ap (λ (w : List ℕ). written (evidence_lines t.0) ++ w) (journal_same t.1)
    ∙ sym (both (evidence_lines t.0) (optional_lines journal_lines t.1))

-- what is written one after the other
pub written_text : (start middle bytes : List ℕ) (e : Evidence) (o : Option (List Event)) → start ≡ [] → middle ≡ start ++ evidence e → bytes ≡ middle ++ piece.journal o → bytes ≡ written (text_lines (e, o))
written_text start middle bytes e o none first second =
    second ∙ ap (λ (w : List ℕ). w ++ piece.journal o) (first ∙ ap (λ (w : List ℕ). w ++ evidence e) none) ∙ text_same (e, o)
