-- A journal is read exactly, up to the first line that does not fit.
use Rattle.std.proofs.Common.{◌≡◌, ℕ, List, [], ◌∷◌, length, refl, ap, ◌∙◌}
use Rattle.std.specs.Prelude.{Ok, Err, ◌↔◌, codes}
use Rattle.std.specs.List.{flat_map}
use Rattle.ras_lines.specs.Lines.{count_line}
use Rattle.ras_lines.specs.Faults.{IsMisfit}
use Rattle.ras_lines.specs.Sections as lines
use Rattle.ras_lines.proofs.SectionLaws.{IsExactText, line_exact, section_exact, each_line, text_otherwise, IsFront, front_fault, misfit_otherwise}
use Rattle.ras_lines.proofs.Leading.{made_exact}
use Rattle.ras_core.specs.declared.event.Event.{Event}
use Rattle.ras_core.specs.declared.event.Event.TheVariants.{Idle}
use Rattle.ras_journals.specs.declared.event_line.EventLine.{EventLine}
use Rattle.ras_journals.specs.JournalTexts.{event_line, journal_lines, IsWrittenEvent, IsWrittenJournal, IsJournalFront, BeginsWithJournal}
use Rattle.ras_journals.specs.JournalReading as first
use Rattle.ras_journals.proofs.EventLaws.{line_exact_of_event}

abbrev text_of : EventLine → List ℕ
text_of l = event_line l.event

abbrev IsWrittenLine : EventLine → Type 0
IsWrittenLine l = IsWrittenEvent l.event

event_exact : IsExactText (λ e. event_line e ∷ []) IsWrittenEvent first.next_event
event_exact =
    made_exact first.event_in (λ l. text_of l ∷ []) IsWrittenLine (lines.at_line first.event_line) (line_exact text_of IsWrittenLine first.event_line line_exact_of_event (record { event = Idle }) tt)
    (λ e. event_line e ∷ []) IsWrittenEvent (λ l. refl) (λ l v. v) (λ e w. (record { event = e }, (refl, w)))

pub journal_exact : IsExactText journal_lines IsWrittenJournal first.journal
journal_exact =
    text_otherwise (λ es. count_line (codes "journal") (length es) ∷ flat_map (λ e. event_line e ∷ []) es) journal_lines IsWrittenJournal IsWrittenJournal first.journal
    (λ es. ap (λ (ls : List (List ℕ)). count_line (codes "journal") (length es) ∷ ls) (each_line event_line es)) (λ es v. v) (λ es v. v)
    (section_exact (codes "journal") (λ e. event_line e ∷ []) IsWrittenEvent first.next_event event_exact Idle tt)

-- What is read.

pub journal_found : (lines behind : List (List ℕ)) (events : List Event) → (first.journal lines ≡ Ok (events, behind)) ↔ IsJournalFront lines events behind
journal_found lines behind events = (journal_exact.reads.sound lines events behind, λ f. ap first.journal f.0 ∙ journal_exact.reads.again events behind f.1 tt)

to_front : (ls : List (List ℕ)) → IsFront journal_lines IsWrittenJournal first.journal journal_exact ls → BeginsWithJournal ls
to_front ls t = (t.0, t.1.0, (t.1.1, t.1.2))

from_front : (ls : List (List ℕ)) → BeginsWithJournal ls → IsFront journal_lines IsWrittenJournal first.journal journal_exact ls
from_front ls t = (t.0, (t.1, t.2.0, t.2.1))

pub journal_misfit : (lines left : List (List ℕ)) → first.journal lines ≡ Err left → IsMisfit BeginsWithJournal lines left
journal_misfit lines left e =
    misfit_otherwise (IsFront journal_lines IsWrittenJournal first.journal journal_exact) BeginsWithJournal to_front from_front lines left (front_fault journal_lines IsWrittenJournal first.journal journal_exact lines left e)
