-- How a journal is read.
use Rattle.std.specs.Prelude.{ℕ, List, Result, Ok, Err, codes}
use Rattle.ras_logic.specs.declared.problem.Problem.{Problem}
use Rattle.ras_lines.specs.declared.stop.Stop.{Stop}
use Rattle.ras_lines.specs.Fronts.{Front, chain, made}
use Rattle.ras_lines.specs.Numbers.{behind, either, fixed, number, small_number, behind_blank, announced}
use Rattle.ras_lines.specs.Formulas.{cube}
use Rattle.ras_lines.specs.Sections.{at_line, section}
use Rattle.ras_core.specs.declared.origin.Origin.{Origin}
use Rattle.ras_core.specs.declared.origin.Origin.TheVariants.{Goal, Step}
use Rattle.ras_core.specs.declared.event.Event.{Event}
use Rattle.ras_core.specs.declared.event.Event.TheVariants.{Claim, Admit, Skip, Drop, Done, GiveBack, Hit, Spill, Idle}
use Rattle.ras_core.specs.Journals.{JournalParts}
use Rattle.ras_journals.specs.declared.event_line.EventLine.{EventLine}
use Rattle.ras_journals.specs.declared.event_line.Sought.{Sought}

-- Origins.

abbrev pub Pair : Type 0
Pair = ℕ × ℕ

abbrev pub goal_of : ℕ → Origin
goal_of n = Goal n

abbrev pub step_of : Pair → Origin
step_of p = Step p.0 p.1

abbrev pub stepped : List ℕ → Front ℕ Pair
stepped bytes = chain (λ entry transition. (entry, transition)) number (behind_blank small_number) bytes

abbrev pub origin : List ℕ → Front ℕ Origin
origin bytes =
    either (behind (codes "goal ") bytes) (λ rest. made goal_of (small_number rest))
    (either (behind (codes "step ") bytes) (λ rest. made step_of (stepped rest)) (Err bytes))

-- What stands behind the word of an event.

abbrev pub sought_of : Origin → Problem → Sought
sought_of o c = record { origin = o; cube = c }

abbrev pub sought : List ℕ → Front ℕ Sought
sought bytes = chain sought_of origin (behind_blank cube) bytes

abbrev pub reasons : List ℕ → Front ℕ (List ℕ)
reasons bytes = chain (λ _ ns. ns) (fixed (codes " reasons")) (announced number) bytes

abbrev pub Skipped : Type 0
Skipped = Sought × List ℕ

abbrev pub skipped : List ℕ → Front ℕ Skipped
skipped bytes = chain (λ s ns. (s, ns)) sought reasons bytes

abbrev pub dropped : List ℕ → Front ℕ Pair
dropped bytes = chain (λ entry by. (entry, by)) number (behind_blank number) bytes

-- Events.

abbrev pub admit_of : Sought → Event
admit_of s = Admit s.origin s.cube

abbrev pub hit_of : Sought → Event
hit_of s = Hit s.origin s.cube

abbrev pub spill_of : Sought → Event
spill_of s = Spill s.origin s.cube

abbrev pub skip_of : Skipped → Event
skip_of s = Skip s.0.origin s.0.cube s.1

abbrev pub drop_of : Pair → Event
drop_of p = Drop p.0 p.1

abbrev pub claim_of : ℕ → Event
claim_of n = Claim n

abbrev pub done_of : ℕ → Event
done_of n = Done n

abbrev pub back_of : ℕ → Event
back_of n = GiveBack n

-- an event of work on an entry
abbrev pub worked : List ℕ → Front ℕ Event
worked bytes =
    either (behind (codes "claim ") bytes) (λ rest. made claim_of (number rest))
    (either (behind (codes "done ") bytes) (λ rest. made done_of (number rest))
    (either (behind (codes "back ") bytes) (λ rest. made back_of (number rest))
    (either (behind (codes "drop ") bytes) (λ rest. made drop_of (dropped rest))
    (either (behind (codes "idle") bytes) (λ rest. Ok (Idle, rest)) (Err bytes)))))

abbrev pub event : List ℕ → Front ℕ Event
event bytes =
    either (behind (codes "admit ") bytes) (λ rest. made admit_of (sought rest))
    (either (behind (codes "skip ") bytes) (λ rest. made skip_of (skipped rest))
    (either (behind (codes "hit ") bytes) (λ rest. made hit_of (sought rest))
    (either (behind (codes "spill ") bytes) (λ rest. made spill_of (sought rest))
    (worked bytes))))

abbrev pub line_of : Event → EventLine
line_of e = record { event = e }

abbrev pub event_line : List ℕ → Front ℕ EventLine
event_line bytes = made line_of (event bytes)

abbrev pub event_in : EventLine → Event
event_in l = l.event

abbrev pub next_event : List (List ℕ) → Front (List ℕ) Event
next_event lines = made event_in (at_line event_line lines)

abbrev pub journal : List (List ℕ) → Front (List ℕ) (List Event)
journal lines = section (codes "journal") next_event lines

-- the events of a journal that was read
abbrev pub events_of : Result JournalParts Stop → Result (List Event) Stop
events_of (Ok j) = Ok j.events
events_of (Err stop) = Err stop
