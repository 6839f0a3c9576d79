-- What holds of a store holds after each event.
use Rattle.std.proofs.Common.{◌≡◌, ℕ, ◌+◌, ◌<◌, ◌≤◌, List, [], ◌∷◌, ◌++◌, map, length, take, refl, sym, ◌∙◌, ap, subst, arith}
use Rattle.std.specs.Prelude.{slice_get, Option, Some}
use Rattle.std.proofs.lemmas.Option.{slice_get_within}
use Rattle.std.proofs.lemmas.List.{length-map, map-append, take-append-le, take_at, length_push}
use Rattle.ras_logic.specs.declared.problem.Problem.{Problem}
use Rattle.ras_system.specs.Systems.{SystemParts, IsSystem}
use Rattle.ras_steps.specs.declared.witness.Witness.{Witness}
use Rattle.ras_core.specs.declared.origin.Origin.{Origin}
use Rattle.ras_core.specs.declared.origin.Origin.TheVariants.{Goal, Step}
use Rattle.ras_core.specs.declared.event.Event.{Event}
use Rattle.ras_core.specs.declared.event.Event.TheVariants as event
use Rattle.ras_core.specs.CoreStates.{EntryParts, CoreParts, cubes_of, admitted, listed, with_submission}
use Rattle.ras_core.specs.Events.{Allowed, after}
use Rattle.ras_core.specs.Journals.{Replays}
use Rattle.ras_logic.proofs.ByPlace.{one_value}
use Rattle.ras_core.proofs.Lists.{each-append, at-end, cubes-change}
use Rattle.ras_core.proofs.Journals.{replays-more, replays-nothing, replays-base, empty-base, journal-sound}
use Rattle.ras_store.specs.declared.found.Found.{Found}
use Rattle.ras_store.specs.Sites.{IsInitialWitness}
use Rattle.ras_store.specs.Stores.{StoreParts, new_store, with_event, with_entry, with_hit, with_spill, found_of}
use Rattle.ras_store.specs.Lawful.{IsNewWitness, IsLawfulStore}
use Rattle.ras_store.proofs.Places.{get_front}

-- a store in which nothing has happened
pub new_lawful : (system : SystemParts) (budget : ℕ) → IsSystem system → budget ≤ 4000 → IsLawfulStore (new_store system budget)
new_lawful system budget good few = record {
  system = good;
  budget = few;
  replays = replays-nothing system budget [] (empty-base system);
  no_base = refl;
  witnesses_are = refl;
  serials_are = refl;
  witnesses = λ i cube w known at. absurd (cc);
  hit_is = refl;
  hit = λ f h. absurd (cc);
  spill_is = refl;
  spill = λ f h. absurd (cc);
}

-- the longer journal is lawful, and the base stays empty
pub replays_on : (s : StoreParts) (e : Event) → IsLawfulStore s → Allowed s.system s.budget s.state e
    → Replays s.system s.budget (after s.state e).base (s.journal ++ e ∷ []) (after s.state e) × ((after s.state e).base ≡ [])
replays_on s e lawful allowed =
    let r = replays-more s.system s.budget s.state.base s.journal s.state e lawful.replays allowed in
    let b : (after s.state e).base ≡ s.state.base = replays-base s.system s.budget s.state.base (s.journal ++ e ∷ []) (after s.state e) r in
    (subst (λ (base : List Problem). Replays s.system s.budget base (s.journal ++ e ∷ []) (after s.state e)) (sym b) r, b ∙ lawful.no_base)

pub count_cubes : (s : CoreParts) → length (cubes_of s) ≡ length s.entries
count_cubes s = length-map s.entries (λ (e : EntryParts). e.cube)

-- an event that adds no entry, no hit and no spill
pub kept_lawful : (s : StoreParts) (e : Event) → IsLawfulStore s → Allowed s.system s.budget s.state e → cubes_of (after s.state e) ≡ cubes_of s.state
    → (after s.state e).hit ≡ s.state.hit → (after s.state e).spill ≡ s.state.spill → IsLawfulStore (with_event s e)
kept_lawful s e lawful allowed cubes hit spill =
    let r = replays_on s e lawful allowed in
    let n : length (after s.state e).entries ≡ length s.state.entries = sym (count_cubes (after s.state e)) ∙ (ap length cubes ∙ count_cubes s.state) in
    record {
      system = lawful.system;
      budget = lawful.budget;
      replays = r.0;
      no_base = r.1;
      witnesses_are = lawful.witnesses_are ∙ sym n;
      serials_are = lawful.serials_are ∙ sym n;
      witnesses = subst (λ (cs : List Problem). (i : ℕ) (cube : Problem) (w : Witness) → slice_get cs i ≡ Some cube → slice_get s.witnesses i ≡ Some w
          → IsNewWitness s.system cube (take i cs) w) (sym cubes) lawful.witnesses;
      hit_is = hit ∙ lawful.hit_is;
      hit = lawful.hit;
      spill_is = spill ∙ lawful.spill_is;
      spill = subst (λ (cs : List Problem). (f : Found) → s.spill ≡ Some f → IsNewWitness s.system f.cube cs f.witness) (sym cubes) lawful.spill;
    }

-- and the serial numbers may change
pub serials_lawful : (s : StoreParts) (serials : List ℕ) → IsLawfulStore s → length serials ≡ length s.serials → IsLawfulStore (record s { serials = serials })
serials_lawful s serials lawful count = record {
  system = lawful.system;
  budget = lawful.budget;
  replays = lawful.replays;
  no_base = lawful.no_base;
  witnesses_are = lawful.witnesses_are;
  serials_are = count ∙ lawful.serials_are;
  witnesses = lawful.witnesses;
  hit_is = lawful.hit_is;
  hit = lawful.hit;
  spill_is = lawful.spill_is;
  spill = lawful.spill;
}

-- a submission adds no entry
pub cubes_listed : (origin : Origin) (cube : Problem) (es : List EntryParts) → map (λ (e : EntryParts). e.cube) (listed origin cube es) ≡ map (λ (e : EntryParts). e.cube) es
cubes_listed (Goal j) cube es = refl
cubes_listed (Step i t) cube es = cubes-change (with_submission cube) (λ e. refl) i es

pub cubes_admitted : (s : CoreParts) (origin : Origin) (cube : Problem) → cubes_of (after s (event.Admit origin cube)) ≡ cubes_of s ++ cube ∷ []
cubes_admitted s origin cube =
    cubes_listed origin cube (s.entries ++ admitted origin cube ∷ []) ∙ map-append (λ (e : EntryParts). e.cube) s.entries (admitted origin cube ∷ [])

pub count_admitted : (s : CoreParts) (origin : Origin) (cube : Problem) → length (after s (event.Admit origin cube)).entries ≡ length s.entries + 1
count_admitted s origin cube =
    sym (count_cubes (after s (event.Admit origin cube)))
    ∙ (ap length (cubes_admitted s origin cube) ∙ (length_push (cubes_of s) cube ∙ ap (λ (k : ℕ). k + 1) (count_cubes s)))

same_found : (x y : Found) → ◌≡◌ {A = Option Found} (Some x) (Some y) → x ≡ y
same_found x y h = cc

-- where there is room, no spill stands
no_spill : (s : StoreParts) → IsLawfulStore s → length s.state.entries < s.budget → (f : Found) → s.spill ≡ Some f → ⊥
no_spill s lawful room f h =
    let there : s.state.spill ≡ Some (record { cube = f.cube; origin = f.origin }) = lawful.spill_is ∙ ap found_of h in
    let full = ((journal-sound s.system s.budget s.state.base s.journal s.state lawful.replays).spill (record { cube = f.cube; origin = f.origin }) there).1 in
    absurd (omega (arith, full, room))

-- the witness of that number is new for the cube
abbrev IsWitnessed : SystemParts → List Problem → List Witness → ℕ → Problem → Type 0
IsWitnessed system cubes witnesses k c = (x : Witness) → slice_get witnesses k ≡ Some x → IsNewWitness system c (take k cubes) x

-- one cube and its witness more
more_witnesses : (system : SystemParts) (cubes : List Problem) (witnesses : List Witness) (cube : Problem) (w : Witness) → length witnesses ≡ length cubes
    → ((i : ℕ) (c : Problem) (x : Witness) → slice_get cubes i ≡ Some c → slice_get witnesses i ≡ Some x → IsNewWitness system c (take i cubes) x) → IsNewWitness system cube cubes w
    → (i : ℕ) (c : Problem) (x : Witness) → slice_get (cubes ++ cube ∷ []) i ≡ Some c → slice_get (witnesses ++ w ∷ []) i ≡ Some x → IsNewWitness system c (take i (cubes ++ cube ∷ [])) x
more_witnesses system cubes witnesses cube w count each is i c x known at =
    each-append (IsWitnessed system (cubes ++ cube ∷ []) (witnesses ++ w ∷ [])) cubes cube front last i c known x at
  where
    front : (k : ℕ) (c : Problem) → slice_get cubes k ≡ Some c → IsWitnessed system (cubes ++ cube ∷ []) (witnesses ++ w ∷ []) k c
    front k c known x at =
        let lt = slice_get_within cubes k c known in
        subst (λ (cs : List Problem). IsNewWitness system c cs x) (sym (take-append-le k cubes (cube ∷ []) (omega (arith, lt))))
        (each k c x known (sym (get_front witnesses (w ∷ []) k (omega (arith, lt, count))) ∙ at))

    last : IsWitnessed system (cubes ++ cube ∷ []) (witnesses ++ w ∷ []) (length cubes) cube
    last x at =
        let there : slice_get (witnesses ++ w ∷ []) (length cubes) ≡ Some w = subst (λ (k : ℕ). slice_get (witnesses ++ w ∷ []) k ≡ Some w) count (at-end witnesses w) in
        subst (λ (cs : List Problem). IsNewWitness system cube cs x) (sym (take_at cubes (cube ∷ []) (length cubes) refl))
        (subst (λ (y : Witness). IsNewWitness system cube cubes y) (one_value (witnesses ++ w ∷ []) (length cubes) w x there at) is)

-- a new entry with its witness
pub entry_lawful : (s : StoreParts) (origin : Origin) (cube : Problem) (w : Witness) → IsLawfulStore s → Allowed s.system s.budget s.state (event.Admit origin cube)
    → IsNewWitness s.system cube (cubes_of s.state) w → IsLawfulStore (with_entry s origin cube w)
entry_lawful s origin cube w lawful allowed is =
    let e : Event = event.Admit origin cube in
    let r = replays_on s e lawful allowed in
    let cubes : cubes_of (after s.state e) ≡ cubes_of s.state ++ cube ∷ [] = cubes_admitted s.state origin cube in
    let count : length (cubes_of s.state) ≡ length s.state.entries = count_cubes s.state in
    let n : length (after s.state e).entries ≡ length s.state.entries + 1 = count_admitted s.state origin cube in
    record {
      system = lawful.system;
      budget = lawful.budget;
      replays = r.0;
      no_base = r.1;
      witnesses_are = length_push s.witnesses w ∙ (ap (λ (k : ℕ). k + 1) lawful.witnesses_are ∙ sym n);
      serials_are = length_push s.serials 0 ∙ (ap (λ (k : ℕ). k + 1) lawful.serials_are ∙ sym n);
      witnesses = subst (λ (cs : List Problem). (i : ℕ) (c : Problem) (x : Witness) → slice_get cs i ≡ Some c → slice_get (s.witnesses ++ w ∷ []) i ≡ Some x
          → IsNewWitness s.system c (take i cs) x) (sym cubes)
          (more_witnesses s.system (cubes_of s.state) s.witnesses cube w (lawful.witnesses_are ∙ sym count) lawful.witnesses is);
      hit_is = lawful.hit_is;
      hit = lawful.hit;
      spill_is = lawful.spill_is;
      spill = λ f h. absurd (no_spill s lawful allowed.bookkeeping.2 f h);
    }

-- a hit with its witness
pub hit_lawful : (s : StoreParts) (origin : Origin) (cube : Problem) (w : Witness) → IsLawfulStore s → Allowed s.system s.budget s.state (event.Hit origin cube)
    → IsInitialWitness s.system cube w → IsLawfulStore (with_hit s origin cube w)
hit_lawful s origin cube w lawful allowed is =
    let r = replays_on s (event.Hit origin cube) lawful allowed in
    record {
      system = lawful.system;
      budget = lawful.budget;
      replays = r.0;
      no_base = r.1;
      witnesses_are = lawful.witnesses_are;
      serials_are = lawful.serials_are;
      witnesses = lawful.witnesses;
      hit_is = refl;
      hit = λ f h. subst (λ (x : Found). IsInitialWitness s.system x.cube x.witness) (same_found (record { cube = cube; origin = origin; witness = w }) f h) is;
      spill_is = lawful.spill_is;
      spill = lawful.spill;
    }

-- a spill with its witness
pub spill_lawful : (s : StoreParts) (origin : Origin) (cube : Problem) (w : Witness) → IsLawfulStore s → Allowed s.system s.budget s.state (event.Spill origin cube)
    → IsNewWitness s.system cube (cubes_of s.state) w → IsLawfulStore (with_spill s origin cube w)
spill_lawful s origin cube w lawful allowed is =
    let r = replays_on s (event.Spill origin cube) lawful allowed in
    record {
      system = lawful.system;
      budget = lawful.budget;
      replays = r.0;
      no_base = r.1;
      witnesses_are = lawful.witnesses_are;
      serials_are = lawful.serials_are;
      witnesses = lawful.witnesses;
      hit_is = lawful.hit_is;
      hit = lawful.hit;
      spill_is = refl;
      spill = λ f h. subst (λ (x : Found). IsNewWitness s.system x.cube (cubes_of s.state) x.witness) (same_found (record { cube = cube; origin = origin; witness = w }) f h) is;
    }
