-- The text of a journal: a line with the number of events, and a line for each.
use Rattle.std.specs.Prelude.{◌≡◌, ℕ, ◌<◌, ◌^◌, List, [], ◌∷◌, ◌++◌, map, codes}
use Rattle.std.specs.Fmt.{decimal}
use Rattle.ras_lines.specs.Lines.{line, counted, section, AreWritten}
use Rattle.ras_lines.specs.Trees.{IsWrittenNumber}
use Rattle.ras_lines.specs.Words.{cube_line, IsSmallCube}
use Rattle.ras_core.specs.declared.origin.Origin.{Origin}
use Rattle.ras_core.specs.declared.origin.Origin.TheVariants.{Goal, Step}
use Rattle.ras_core.specs.declared.event.Event.{Event}
use Rattle.ras_core.specs.declared.event.Event.TheVariants.{Claim, Admit, Skip, Drop, Done, GiveBack, Hit, Spill, Idle}

-- `goal J`, or `step E T`
abbrev pub origin_words : Origin → List (List ℕ)
origin_words (Goal disjunct) = codes "goal" ∷ decimal disjunct ∷ []
origin_words (Step entry transition) = codes "step" ∷ decimal entry ∷ decimal transition ∷ []

-- a word, numbers behind it
abbrev numbered : List ℕ → List ℕ → List ℕ
numbered word numbers = line word (map decimal numbers)

-- The line of an event: `claim E`, `admit ORIGIN CUBE`, `skip ORIGIN CUBE reasons K k1 .. kK`, `drop I J`, `done E`, `back E`,
-- `hit ORIGIN CUBE`, `spill ORIGIN CUBE`, `idle`.
abbrev pub event_line : Event → List ℕ
event_line (Claim entry) = numbered (codes "claim") (entry ∷ [])
event_line (Admit origin cube) = line (codes "admit") (origin_words origin ++ cube_line cube ∷ [])
event_line (Skip origin cube reasons) = line (codes "skip") (origin_words origin ++ cube_line cube ∷ codes "reasons" ∷ counted (map decimal reasons))
event_line (Drop entry by) = numbered (codes "drop") (entry ∷ by ∷ [])
event_line (Done entry) = numbered (codes "done") (entry ∷ [])
event_line (GiveBack entry) = numbered (codes "back") (entry ∷ [])
event_line (Hit origin cube) = line (codes "hit") (origin_words origin ++ cube_line cube ∷ [])
event_line (Spill origin cube) = line (codes "spill") (origin_words origin ++ cube_line cube ∷ [])
event_line Idle = codes "idle"

-- `journal N`, and the events
abbrev pub journal_lines : List Event → List (List ℕ)
journal_lines events = section (codes "journal") event_line events

-- What can be written: goals and transitions below 65,536, entries and counts below 4,294,967,296.

abbrev pub IsWrittenOrigin : Origin → Type 0
IsWrittenOrigin (Goal disjunct) = disjunct < 2 ^ 16
IsWrittenOrigin (Step entry transition) = (entry < 2 ^ 32) × (transition < 2 ^ 16)

abbrev pub IsWrittenEvent : Event → Type 0
IsWrittenEvent (Claim entry) = entry < 2 ^ 32
IsWrittenEvent (Admit origin cube) = IsWrittenOrigin origin × IsSmallCube cube
IsWrittenEvent (Skip origin cube reasons) = (IsWrittenOrigin origin × IsSmallCube cube) × AreWritten IsWrittenNumber reasons
IsWrittenEvent (Drop entry by) = (entry < 2 ^ 32) × (by < 2 ^ 32)
IsWrittenEvent (Done entry) = entry < 2 ^ 32
IsWrittenEvent (GiveBack entry) = entry < 2 ^ 32
IsWrittenEvent (Hit origin cube) = IsWrittenOrigin origin × IsSmallCube cube
IsWrittenEvent (Spill origin cube) = IsWrittenOrigin origin × IsSmallCube cube
IsWrittenEvent Idle = Unit {0}

abbrev pub IsWrittenJournal : List Event → Type 0
IsWrittenJournal events = AreWritten IsWrittenEvent events

-- the lines begin with those of the journal, and these stand behind them
abbrev pub IsJournalFront : List (List ℕ) → List Event → List (List ℕ) → Type 0
IsJournalFront lines events behind = (lines ≡ journal_lines events ++ behind) × IsWrittenJournal events

abbrev pub BeginsWithJournal : List (List ℕ) → Type 0
BeginsWithJournal lines = (events : List Event) × (behind : List (List ℕ)) × IsJournalFront lines events behind
