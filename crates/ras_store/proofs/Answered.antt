-- What is found by looking at a store.
use Rattle.std.proofs.Common.{◌≡◌, ◌≤◌, Bool, true, false, length, refl, arith}
use Rattle.std.specs.Prelude.{Option, Some, None}
use Rattle.std.specs.Option.{is_some}
use Rattle.std.specs.Bool.{OnTrue}
use Rattle.ras_core.specs.CoreStates.{FoundParts}
use Rattle.ras_core.proofs.Journals.{journal-sound}
use Rattle.ras_store.specs.declared.found.Found.{Found}
use Rattle.ras_store.specs.Stores.{StoreParts, found_of}
use Rattle.ras_store.specs.Lawful.{IsLawfulStore}
use Rattle.ras_store.specs.Holding.{HasHit, HasSpill}

there : (o : Option Found) (f : Option FoundParts) (b : Bool) → f ≡ found_of o → b ≡ is_some o → b ≡ true → (x : FoundParts) × (f ≡ Some x)
there (Some x) f b f_is b_is h = (record { cube = x.cube; origin = x.origin }, f_is)
there None f b f_is b_is h = absurd (cc)

on_true : (b : Bool) (P : Type 0) → (b ≡ true → P) → OnTrue b P
on_true true P p = p refl
on_true false P p = tt

-- a hit or a spill stands where the program has one
pub hit_there : (s : StoreParts) → IsLawfulStore s → (b : Bool) → b ≡ is_some s.hit → OnTrue b (HasHit s.state)
hit_there s lawful b b_is = on_true b (HasHit s.state) (λ h. let f = there s.hit s.state.hit b lawful.hit_is b_is h in record { found = f.0; is = f.1 })

pub spill_there : (s : StoreParts) → IsLawfulStore s → (b : Bool) → b ≡ is_some s.spill → OnTrue b (HasSpill s.state)
spill_there s lawful b b_is = on_true b (HasSpill s.state) (λ h. let f = there s.spill s.state.spill b lawful.spill_is b_is h in record { found = f.0; is = f.1 })

-- where there is no room, the entries number the budget
pub full : (s : StoreParts) → IsLawfulStore s → s.budget ≤ length s.state.entries → length s.state.entries ≡ s.budget
full s lawful no_room =
    let few = (journal-sound s.system s.budget s.state.base s.journal s.state lawful.replays).few in
    omega (arith, few, no_room)
