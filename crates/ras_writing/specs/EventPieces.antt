-- What is written of an event, one piece after the other.
use Rattle.std.specs.Prelude.{ℕ, List, [], ◌++◌, Option, Some, None, codes}
use Rattle.ras_text.specs.Pieces.{word, counted, end_of_line}
use Rattle.ras_logic.specs.declared.problem.Problem.{Problem}
use Rattle.ras_core.specs.declared.origin.Origin.{Origin}
use Rattle.ras_core.specs.declared.origin.Origin.TheVariants.{Goal, Step}
use Rattle.ras_core.specs.declared.event.Event.{Event}
use Rattle.ras_core.specs.declared.event.Event.TheVariants.{Claim, Admit, Skip, Drop, Done, GiveBack, Hit, Spill, Idle}
use Rattle.ras_writing.specs.Pieces.{cube_words, section}

abbrev pub origin : Origin → List ℕ
origin (Goal disjunct) = codes " goal" ++ word disjunct
origin (Step entry transition) = codes " step" ++ (word entry ++ word transition)

abbrev pub sought : List ℕ → Origin → Problem → List ℕ
sought head o c = head ++ (origin o ++ (codes " " ++ cube_words c))

abbrev pub skip : Origin → Problem → List ℕ → List ℕ
skip o c reasons = sought (codes "skip") o c ++ (codes " reasons" ++ counted word reasons)

abbrev pub drop : ℕ → ℕ → List ℕ
drop entry by = codes "drop" ++ (word entry ++ word by)

abbrev pub worked : List ℕ → ℕ → List ℕ
worked head entry = head ++ word entry

-- without the end of the line
abbrev pub words : Event → List ℕ
words (Claim entry) = worked (codes "claim") entry
words (Admit o c) = sought (codes "admit") o c
words (Skip o c reasons) = skip o c reasons
words (Drop entry by) = drop entry by
words (Done entry) = worked (codes "done") entry
words (GiveBack entry) = worked (codes "back") entry
words (Hit o c) = sought (codes "hit") o c
words (Spill o c) = sought (codes "spill") o c
words Idle = codes "idle"

abbrev pub event : Event → List ℕ
event e = words e ++ end_of_line

-- a journal, or nothing
abbrev pub journal : Option (List Event) → List ℕ
journal None = []
journal (Some events) = section (codes "journal") event events
