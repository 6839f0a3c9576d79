-- What the program keeps, told of its fields, after each event.
use Rattle.std.proofs.Common.{◌≡◌, ℕ, ◌+◌, ◌*◌, ◌<◌, ◌≤◌, List, [], ◌∷◌, ◌++◌, length, set, get_or, refl, sym, ◌∙◌, ap, subst, arith}
use Rattle.std.specs.Prelude.{Option, Some, None}
use Rattle.std.proofs.lemmas.Option.{slice_get_within}
use Rattle.std.proofs.lemmas.List.{length-set}
use Rattle.ras_logic.specs.declared.problem.Problem.{Problem}
use Rattle.ras_system.specs.Systems.{SystemParts}
use Rattle.ras_steps.specs.declared.witness.Witness.{Witness}
use Rattle.ras_core.specs.declared.origin.Origin.{Origin}
use Rattle.ras_core.specs.declared.work.Work.TheVariants as work
use Rattle.ras_core.specs.declared.event.Event.{Event}
use Rattle.ras_core.specs.declared.event.Event.TheVariants as event
use Rattle.ras_core.specs.CoreStates.{EntryParts, IsEntry, IsKeptEntry, IsAt, cubes_of}
use Rattle.ras_core.specs.Events.{Allowed}
use Rattle.ras_core.specs.Bookkeeping.{SearchParts}
use Rattle.ras_core.specs.Bookkeeping as search
use Rattle.ras_store.specs.declared.found.Found.{Found}
use Rattle.ras_store.specs.Stores.{StoreParts, with_event, with_entry, with_hit, with_spill, next_serial}
use Rattle.ras_store.specs.Lawful.{IsNewWitness}
use Rattle.ras_store.specs.Sites.{IsInitialWitness}
use Rattle.ras_store.specs.Stored.{seen, IsStored}
use Rattle.ras_store.proofs.Rooms.{entry_room, claim_stored, finish_stored, drop_stored, return_stored, submit_stored, report_stored, hit_stored, spill_stored, entry_stored}

module _ (system : SystemParts) (core : SearchParts) (journal : List Event) (witnesses : List Witness) (serials : List ℕ) (hit spill : Option Found) (ready : List (Option Problem)) (room widest : ℕ)
    (kept : IsStored (seen system core journal witnesses serials hit spill) ready room widest) (old : StoreParts) (view_is : seen system core journal witnesses serials hit spill ≡ old) where
  allowed_here : (e : Event) → Allowed old.system old.budget old.state e → Allowed system core.budget core.state e
  allowed_here e allowed = subst (λ (s : StoreParts). Allowed s.system s.budget s.state e) (sym view_is) allowed

  -- the fields after an event that changes only the core
  after_event : (e : Event) (core_now : SearchParts) (journal_now : List Event) → core_now ≡ search.with_event core e → journal_now ≡ journal ++ e ∷ []
      → seen system core_now journal_now witnesses serials hit spill ≡ with_event (seen system core journal witnesses serials hit spill) e
  after_event e core_now journal_now core_is journal_is = rw (core_is, journal_is) refl

  pub serial_there : (n : ℕ) (e : EntryParts) → IsEntry old.state n e → n < length serials
  serial_there n e known =
      let lt = slice_get_within core.state.entries n e (subst (λ (s : StoreParts). IsEntry s.state n e) (sym view_is) known) in
      let m = kept.lawful.serials_are in
      omega (arith, lt, m)

  -- more room may have been made
  pub roomier_fields : (core_now : SearchParts) (events : List Event) (witnesses_now : List Witness) (serials_now : List ℕ) (now : List (Option Problem)) (left : ℕ) → core_now ≡ core → events ≡ journal → witnesses_now ≡ witnesses
      → serials_now ≡ serials → now ≡ ready → room ≤ left → IsStored (seen system core_now events witnesses_now serials_now hit spill) now left widest
  roomier_fields core_now events witnesses_now serials_now now left core_is events_are witnesses_are serials_are now_is more =
      rw (core_is, events_are, witnesses_are, serials_are, now_is)
      (record { lawful = kept.lawful; ready_are = kept.ready_are; ready = kept.ready; rows = kept.rows; room = let le = kept.room in omega (arith, le, more) })

  pub room_for : (n : ℕ) (e : EntryParts) → IsKeptEntry old.state n e → 0 < room
  room_for n e known =
      entry_room (seen system core journal witnesses serials hit spill) ready room widest kept n e (subst (λ (s : StoreParts). IsKeptEntry s.state n e) (sym view_is) known)

  module _ (core_now : SearchParts) (journal_now : List Event) (left : ℕ) where
    pub dropped_fields : (n by : ℕ) → Allowed old.system old.budget old.state (event.Drop n by) → core_now ≡ search.with_event core (event.Drop n by)
        → journal_now ≡ journal ++ event.Drop n by ∷ [] → left + 1 ≡ room → IsStored (seen system core_now journal_now witnesses serials hit spill) ready left widest
    dropped_fields n by allowed core_is journal_is less =
        subst (λ (s : StoreParts). IsStored s ready left widest) (sym (after_event (event.Drop n by) core_now journal_now core_is journal_is))
        (drop_stored (seen system core journal witnesses serials hit spill) ready room widest kept n left by (allowed_here (event.Drop n by) allowed) less)

    pub finished_fields : (n : ℕ) → Allowed old.system old.budget old.state (event.Done n) → core_now ≡ search.with_event core (event.Done n)
        → journal_now ≡ journal ++ event.Done n ∷ [] → left + 1 ≡ room → IsStored (seen system core_now journal_now witnesses serials hit spill) ready left widest
    finished_fields n allowed core_is journal_is less =
        subst (λ (s : StoreParts). IsStored s ready left widest) (sym (after_event (event.Done n) core_now journal_now core_is journal_is))
        (finish_stored (seen system core journal witnesses serials hit spill) ready room widest kept n left (allowed_here (event.Done n) allowed) less)

    pub claimed_fields : (n : ℕ) (now : List (Option Problem)) → (e : EntryParts) × IsAt old.state n work.Free e → now ≡ set ready n None → core_now ≡ search.with_event core (event.Claim n)
        → journal_now ≡ journal ++ event.Claim n ∷ [] → left + 1 ≡ room → IsStored (seen system core_now journal_now witnesses serials hit spill) now left widest
    claimed_fields n now at now_is core_is journal_is less =
        subst (λ (s : StoreParts). IsStored s now left widest) (sym (after_event (event.Claim n) core_now journal_now core_is journal_is))
        (claim_stored (seen system core journal witnesses serials hit spill) ready room widest kept n left now
        (subst (λ (s : StoreParts). (e : EntryParts) × IsAt s.state n work.Free e) (sym view_is) at) now_is less)

    pub reported_fields : Allowed old.system old.budget old.state event.Idle → core_now ≡ search.with_event core event.Idle
        → journal_now ≡ journal ++ event.Idle ∷ [] → left + 1 ≡ room → IsStored (seen system core_now journal_now witnesses serials hit spill) ready left widest
    reported_fields allowed core_is journal_is less =
        subst (λ (s : StoreParts). IsStored s ready left widest) (sym (after_event event.Idle core_now journal_now core_is journal_is))
        (report_stored (seen system core journal witnesses serials hit spill) ready room widest kept left (allowed_here event.Idle allowed) less)

    -- these first make room for what may come of all entries
    module _ (events : List Event) (same : events ≡ journal) (made : ℕ) (enough : 3 * length core.state.entries + 2 ≤ made) (less : left + 1 ≡ made) where
      journal_after : (e : Event) → journal_now ≡ events ++ e ∷ [] → journal_now ≡ journal ++ e ∷ []
      journal_after e journal_is = journal_is ∙ ap (λ (es : List Event). es ++ e ∷ []) same

      pub submitted_fields : (origin : Origin) (cube : Problem) (reasons : List ℕ) → Allowed old.system old.budget old.state (event.Skip origin cube reasons)
          → core_now ≡ search.with_event core (event.Skip origin cube reasons) → journal_now ≡ events ++ event.Skip origin cube reasons ∷ []
          → IsStored (seen system core_now journal_now witnesses serials hit spill) ready left widest
      submitted_fields origin cube reasons allowed core_is journal_is =
          subst (λ (s : StoreParts). IsStored s ready left widest) (sym (after_event (event.Skip origin cube reasons) core_now journal_now core_is (journal_after (event.Skip origin cube reasons) journal_is)))
          (submit_stored (seen system core journal witnesses serials hit spill) ready room widest kept left origin cube reasons (allowed_here (event.Skip origin cube reasons) allowed)
          (omega (arith, enough, less)))

      pub hit_fields : (origin : Origin) (cube : Problem) (w : Witness) → Allowed old.system old.budget old.state (event.Hit origin cube) → IsInitialWitness old.system cube w
          → core_now ≡ search.with_event core (event.Hit origin cube) → journal_now ≡ events ++ event.Hit origin cube ∷ []
          → IsStored (seen system core_now journal_now witnesses serials (Some (record { cube = cube; origin = origin; witness = w })) spill) ready left widest
      hit_fields origin cube w allowed is core_is journal_is =
          let there : seen system core_now journal_now witnesses serials (Some (record { cube = cube; origin = origin; witness = w })) spill
          ≡ with_hit (seen system core journal witnesses serials hit spill) origin cube w = rw (core_is, journal_after (event.Hit origin cube) journal_is) refl in
          subst (λ (s : StoreParts). IsStored s ready left widest) (sym there)
          (hit_stored (seen system core journal witnesses serials hit spill) ready room widest kept left origin cube w (allowed_here (event.Hit origin cube) allowed)
          (subst (λ (s : StoreParts). IsInitialWitness s.system cube w) (sym view_is) is) (omega (arith, enough, less)))

      pub spill_fields : (origin : Origin) (cube : Problem) (w : Witness) → Allowed old.system old.budget old.state (event.Spill origin cube)
          → IsNewWitness old.system cube (cubes_of old.state) w → core_now ≡ search.with_event core (event.Spill origin cube) → journal_now ≡ events ++ event.Spill origin cube ∷ []
          → IsStored (seen system core_now journal_now witnesses serials hit (Some (record { cube = cube; origin = origin; witness = w }))) ready left widest
      spill_fields origin cube w allowed is core_is journal_is =
          let there : seen system core_now journal_now witnesses serials hit (Some (record { cube = cube; origin = origin; witness = w }))
          ≡ with_spill (seen system core journal witnesses serials hit spill) origin cube w = rw (core_is, journal_after (event.Spill origin cube) journal_is) refl in
          subst (λ (s : StoreParts). IsStored s ready left widest) (sym there)
          (spill_stored (seen system core journal witnesses serials hit spill) ready room widest kept left origin cube w (allowed_here (event.Spill origin cube) allowed)
          (subst (λ (s : StoreParts). IsNewWitness s.system cube (cubes_of s.state) w) (sym view_is) is) (omega (arith, enough, less)))

      pub returned_fields : (n : ℕ) (cube : Problem) (now : List (Option Problem)) (serials_now : List ℕ) → (e : EntryParts) × IsAt old.state n work.Taken e × (e.cube ≡ cube)
          → now ≡ set ready n (Some cube) → serials_now ≡ set serials n (next_serial (get_or serials n 0)) → core_now ≡ search.with_event core (event.GiveBack n)
          → journal_now ≡ events ++ event.GiveBack n ∷ [] → IsStored (seen system core_now journal_now witnesses serials_now hit spill) now left widest
      returned_fields n cube now serials_now at now_is serials_are core_is journal_is =
          let there : seen system core_now journal_now witnesses serials_now hit spill
          ≡ record (with_event (seen system core journal witnesses serials hit spill) (event.GiveBack n)) { serials = serials_now } =
          rw (core_is, journal_after (event.GiveBack n) journal_is) refl in
          let at_here : IsAt core.state n work.Taken at.0 = subst (λ (s : StoreParts). IsAt s.state n work.Taken at.0) (sym view_is) at.1 in
          subst (λ (s : StoreParts). IsStored s now left widest) (sym there)
          (return_stored (seen system core journal witnesses serials hit spill) ready room widest kept n left now serials_now at.0 at_here.0 (record { bookkeeping = (at.0, at_here); states = tt })
          (now_is ∙ ap (λ (c : Problem). set ready n (Some c)) (sym at.2)) (ap length serials_are ∙ length-set serials n (next_serial (get_or serials n 0))) (omega (arith, enough, less)))

    -- a new entry
    module _ (events : List Event) (same : events ≡ journal) (made : ℕ) (enough : 3 * length core.state.entries + 5 ≤ made) (less : left + 1 ≡ made) where
      pub entry_fields : (origin : Origin) (cube : Problem) (w : Witness) (witnesses_now : List Witness) (serials_now : List ℕ) (now : List (Option Problem)) (wider : ℕ)
          → Allowed old.system old.budget old.state (event.Admit origin cube) → IsNewWitness old.system cube (cubes_of old.state) w → core_now ≡ search.with_event core (event.Admit origin cube)
          → journal_now ≡ events ++ event.Admit origin cube ∷ [] → witnesses_now ≡ witnesses ++ w ∷ [] → serials_now ≡ serials ++ 0 ∷ [] → now ≡ ready ++ Some cube ∷ []
          → widest ≤ wider → length cube.rows ≤ wider → IsStored (seen system core_now journal_now witnesses_now serials_now hit spill) now left wider
      entry_fields origin cube w witnesses_now serials_now now wider allowed is core_is journal_is witnesses_are serials_are now_is wide rows =
          let there : seen system core_now journal_now witnesses_now serials_now hit spill ≡ with_entry (seen system core journal witnesses serials hit spill) origin cube w =
          rw (core_is, journal_is ∙ ap (λ (es : List Event). es ++ event.Admit origin cube ∷ []) same, witnesses_are, serials_are) refl in
          subst (λ (s : StoreParts). IsStored s now left wider) (sym there)
          (entry_stored (seen system core journal witnesses serials hit spill) ready room widest kept left wider now origin cube w (allowed_here (event.Admit origin cube) allowed)
          (subst (λ (s : StoreParts). IsNewWitness s.system cube (cubes_of s.state) w) (sym view_is) is) now_is wide rows (omega (arith, enough, less)))
