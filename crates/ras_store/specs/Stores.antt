-- What a contract sees of a store, and what each event leaves of it.
use Rattle.std.specs.Prelude.{ℕ, ◌+◌, ◌%◌, ◌^◌, List, [], ◌∷◌, ◌++◌, set, get_or, Option, Some, None}
use Rattle.ras_logic.specs.declared.problem.Problem.{Problem}
use Rattle.ras_system.specs.Systems.{SystemParts}
use Rattle.ras_steps.specs.declared.witness.Witness.{Witness}
use Rattle.ras_core.specs.declared.origin.Origin.{Origin}
use Rattle.ras_core.specs.declared.event.Event.{Event}
use Rattle.ras_core.specs.declared.event.Event.TheVariants as event
use Rattle.ras_core.specs.CoreStates.{FoundParts, CoreParts}
use Rattle.ras_core.specs.Events.{after}
use Rattle.ras_core.specs.Journals.{first_state}
use Rattle.ras_store.specs.declared.found.Found.{Found}

-- A system and a budget, the journal and the state that it leaves. Beside each entry its witness, and a serial number that the
-- next ticket carries, or that the last one carried; and the hit and the spill with their witnesses.
pub record StoreParts : Type 0 where
  pub system : SystemParts
  pub budget : ℕ
  pub journal : List Event
  pub state : CoreParts
  pub witnesses : List Witness
  pub serials : List ℕ
  pub hit : Option Found
  pub spill : Option Found

-- a store in which nothing has happened
abbrev pub new_store : SystemParts → ℕ → StoreParts
new_store system budget = record {
  system = system;
  budget = budget;
  journal = [];
  state = first_state system [];
  witnesses = [];
  serials = [];
  hit = None;
  spill = None;
}

-- one event more
abbrev pub with_event : StoreParts → Event → StoreParts
with_event s e = record s { journal = s.journal ++ e ∷ []; state = after s.state e }

-- an entry more, with its witness
abbrev pub with_entry : StoreParts → Origin → Problem → Witness → StoreParts
with_entry s origin cube w = record (with_event s (event.Admit origin cube)) { witnesses = s.witnesses ++ w ∷ []; serials = s.serials ++ 0 ∷ [] }

-- a hit, or a spill, with its witness
abbrev pub with_hit : StoreParts → Origin → Problem → Witness → StoreParts
with_hit s origin cube w = record (with_event s (event.Hit origin cube)) { hit = Some (record { cube = cube; origin = origin; witness = w }) }

abbrev pub with_spill : StoreParts → Origin → Problem → Witness → StoreParts
with_spill s origin cube w = record (with_event s (event.Spill origin cube)) { spill = Some (record { cube = cube; origin = origin; witness = w }) }

-- the next serial number, which is counted by a u32
abbrev pub next_serial : ℕ → ℕ
next_serial n = (n + 1) % 2 ^ 32

-- an entry is given back, and its next ticket carries another serial number
abbrev pub with_return : StoreParts → ℕ → StoreParts
with_return s n = record (with_event s (event.GiveBack n)) { serials = set s.serials n (next_serial (get_or s.serials n 0)) }

-- what the core keeps of a hit or a spill
abbrev pub found_of : Option Found → Option FoundParts
found_of (Some f) = Some (record { cube = f.cube; origin = f.origin })
found_of None = None
