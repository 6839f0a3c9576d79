-- What a worker knows of cubes, with what the store compares, allows the events.
use Rattle.std.proofs.Common.{◌≡◌, ◌≢◌, ℕ, ◌<◌, List, [], length, sym, ◌∙◌, ap, subst, arith, ◌⊎◌, inl}
use Rattle.std.specs.Prelude.{slice_get, Some, None, Any, Contains}
use Rattle.std.proofs.lemmas.Option.{slice_get_within}
use Rattle.ras_logic.specs.declared.raw_db.RawDb.{RawDb}
use Rattle.ras_logic.specs.declared.problem.Problem.{Problem}
use Rattle.ras_logic.proofs.ByPlace.{one_value, contains-at, all-from}
use Rattle.ras_system.specs.declared.state.State.{State}
use Rattle.ras_system.specs.States.{Meets, MeetsAny}
use Rattle.ras_steps.specs.declared.witness.Witness.{Witness}
use Rattle.ras_extension.specs.Reaching.{IsStateOf, Leads}
use Rattle.ras_core.specs.declared.event.Event.TheVariants as event
use Rattle.ras_core.specs.CoreStates.{EntryParts, IsEntry, IsKeptEntry, cubes_of}
use Rattle.ras_core.specs.Admissible.{ComesFrom, IsTightFor, IsTight, NoneIsInitial, IsAdmissible}
use Rattle.ras_core.specs.Events.{IsOpen, Allowed}
use Rattle.ras_core.proofs.Lists.{any-at, number-of, all-at, of-map, to-map}
use Rattle.ras_core.proofs.Journals.{journal-sound}
use Rattle.ras_store.specs.declared.ticket.Ticket.{Ticket}
use Rattle.ras_store.specs.declared.named.Named.{Named}
use Rattle.ras_store.specs.declared.site.Site.{Site}
use Rattle.ras_store.specs.declared.site.Site.TheVariants as site
use Rattle.ras_store.specs.Sites.{origin_of, ComesFromSite, IsTightForSite, IsInitialWitness, AllMeet, AllMeetAny, LeadOnlyFrom}
use Rattle.ras_store.specs.Stores.{StoreParts}
use Rattle.ras_store.specs.Lawful.{IsNewWitness, IsLawfulStore}
use Rattle.ras_store.specs.Holding.{IsGood, IsGoodSite, IsKept, AreKept, AreSubmitted, numbers_of, named_cubes}

-- the work on an entry is done where all that leads into it meets what was submitted
pub done_allowed : (s : StoreParts) (t : Ticket) (all : List Problem) → IsGood s t → AreSubmitted s.state t.entry all → LeadOnlyFrom s.system t.cube all
    → Allowed s.system s.budget s.state (event.Done t.entry)
done_allowed s t all good submitted from = record {
  bookkeeping = (good.entry, good.at);
  states = λ e known d state transition is leads.
      let same : e ≡ good.entry = one_value s.state.entries t.entry e good.entry known good.at.0 in
      let cube : e.cube ≡ t.cube = ap (λ (x : EntryParts). x.cube) same ∙ good.cube in
      let m = from d state transition is (subst (λ (c : Problem). Leads s.system d state transition c) cube leads) in
      let there : submitted.entry ≡ e = one_value s.state.entries t.entry submitted.entry e submitted.is known in
      let listed : Contains submitted.entry.submissions m.1 = all-at (Contains submitted.entry.submissions) all submitted.each m.0 m.1 (number-of (Meets d state) all m) in
      let k = contains-at submitted.entry.submissions m.1 listed in
      subst (λ (x : EntryParts). MeetsAny d state x.submissions) there (any-at (Meets d state) submitted.entry.submissions k.0 m.1 k.1 m.4);
}

-- an entry is dropped for another whose states are more
pub drop_allowed : (s : StoreParts) (entry by : Named) → IsKept s.state entry → IsKept s.state by → entry.number ≢ by.number → AllMeet s.system entry.cube by.cube
    → Allowed s.system s.budget s.state (event.Drop entry.number by.number)
drop_allowed s entry by one other different inside = record {
  bookkeeping = (different, (one.entry, one.kept), (other.entry, other.kept));
  states = λ inner outer at by_at d state is.
      let a : inner.cube ≡ entry.cube = ap (λ (x : EntryParts). x.cube) (one_value s.state.entries entry.number inner one.entry at one.kept.0) ∙ one.cube in
      let b : outer.cube ≡ by.cube = ap (λ (x : EntryParts). x.cube) (one_value s.state.entries by.number outer other.entry by_at other.kept.0) ∙ other.cube in
      subst (λ (c : Problem). Meets d state c) (sym b) (inside d state (subst (λ (c : Problem). IsStateOf s.system c d state) a is));
}

module _ (s : StoreParts) (lawful : IsLawfulStore s) where
  -- someone works on the origin of a site whose ticket is good
  site_open : (from : Site) (cube : Problem) → IsGoodSite s from → ComesFromSite s.system from cube → IsOpen s.state (origin_of from)
  site_open (site.Goal disjunct) cube good comes =
      let lt = slice_get_within s.system.goals disjunct cube comes in
      let count = (journal-sound s.system s.budget s.state.base s.journal s.state lawful.replays).each_goal in
      omega (arith, lt, count)
  site_open (site.Step ticket transition) cube good comes = (good.entry, good.at)

  site_cube : (t : Ticket) → IsGood s t → slice_get (cubes_of s.state) t.entry ≡ Some t.cube
  site_cube t good = to-map (λ (x : EntryParts). x.cube) s.state.entries t.entry good.entry good.at.0 ∙ ap Some good.cube

  site_comes : (from : Site) (cube : Problem) → IsGoodSite s from → ComesFromSite s.system from cube → ComesFrom s.system (cubes_of s.state) (origin_of from) cube
  site_comes (site.Goal disjunct) cube good comes = comes
  site_comes (site.Step ticket transition) cube good comes =
      record { formula = comes.formula; target = ticket.now.cube; known = site_cube ticket.now good; leads = comes.leads }

  site_tight : (from : Site) (cube : Problem) → IsGoodSite s from → IsTightForSite s.system from cube → IsTightFor s.system (cubes_of s.state) (origin_of from) cube
  site_tight (site.Goal disjunct) cube good tight = tt
  site_tight (site.Step ticket transition) cube good tight = λ target known.
      subst (λ (c : Problem). IsTight s.system transition c cube) (one_value (cubes_of s.state) ticket.now.entry ticket.now.cube target (site_cube ticket.now good) known) tight

  -- a cube that comes from a good site may be an entry, where its witness is new
  pub site_admissible : (from : Site) (cube : Problem) (w : Witness) → IsGoodSite s from → ComesFromSite s.system from cube → IsTightForSite s.system from cube
      → NoneIsInitial s.system cube → IsNewWitness s.system cube (cubes_of s.state) w → IsAdmissible s.system (cubes_of s.state) s.state.base (origin_of from) cube
  site_admissible from cube w good comes tight not_initial new = record {
    comes = site_comes from cube good comes;
    tight = site_tight from cube good tight;
    not_initial = not_initial;
    has_new = record {
      d = w.db;
      state = w.state;
      is_state = new.is;
      no_other = new.new;
      no_base = λ m. nothing (subst (λ (base : List Problem). MeetsAny w.db w.state base) lawful.no_base m);
    };
  }
    where
      nothing : MeetsAny w.db w.state [] → ⊥
      nothing m = absurd (omega (arith, m.2))

  pub admit_allowed : (from : Site) (cube : Problem) (w : Witness) → s.state.hit ≡ None → IsGoodSite s from → length s.state.entries < s.budget → ComesFromSite s.system from cube
      → IsTightForSite s.system from cube → NoneIsInitial s.system cube → IsNewWitness s.system cube (cubes_of s.state) w
      → Allowed s.system s.budget s.state (event.Admit (origin_of from) cube)
  admit_allowed from cube w no_hit good room comes tight not_initial new =
      record { bookkeeping = (site_open from cube good comes, no_hit, room); states = site_admissible from cube w good comes tight not_initial new }

  pub spill_allowed : (from : Site) (cube : Problem) (w : Witness) → s.state.hit ≡ None → IsGoodSite s from → s.state.spill ≡ None → length s.state.entries ≡ s.budget
      → ComesFromSite s.system from cube → IsTightForSite s.system from cube → NoneIsInitial s.system cube → IsNewWitness s.system cube (cubes_of s.state) w
      → Allowed s.system s.budget s.state (event.Spill (origin_of from) cube)
  spill_allowed from cube w no_hit good no_spill full comes tight not_initial new =
      record { bookkeeping = (site_open from cube good comes, no_hit, no_spill, full); states = site_admissible from cube w good comes tight not_initial new }

  pub hit_allowed : (from : Site) (cube : Problem) (w : Witness) → s.state.hit ≡ None → IsGoodSite s from → ComesFromSite s.system from cube → IsInitialWitness s.system cube w
      → Allowed s.system s.budget s.state (event.Hit (origin_of from) cube)
  hit_allowed from cube w no_hit good comes is = record {
    bookkeeping = (site_open from cube good comes, no_hit);
    states = (site_comes from cube good comes, record { d = w.db; state = w.state; database = is.database; initial = is.initial; meets = is.meets });
  }

  -- a cube whose states meet kept entries is skipped for these
  pub skip_allowed : (from : Site) (cube : Problem) (reasons : List Named) → IsGoodSite s from → AreKept s.state reasons → ComesFromSite s.system from cube
      → AllMeetAny s.system cube (named_cubes reasons) → Allowed s.system s.budget s.state (event.Skip (origin_of from) cube (numbers_of reasons))
  skip_allowed from cube reasons good kept comes met = record {
    bookkeeping = (site_open from cube good comes, record { each = all-from (λ (r : ℕ). (e : EntryParts) × IsKeptEntry s.state r e) (numbers_of reasons) reason_kept });
    states = (site_comes from cube good comes, reasoned);
  }
    where
      reason_kept : (k r : ℕ) → slice_get (numbers_of reasons) k ≡ Some r → (e : EntryParts) × IsKeptEntry s.state r e
      reason_kept k r at =
          let m = of-map (λ (n : Named). n.number) reasons k r at in
          let is = all-at (IsKept s.state) reasons kept.each k m.0 m.1 in
          (is.entry, subst (λ (n : ℕ). IsKeptEntry s.state n is.entry) m.2 is.kept)

      reasoned : (d : RawDb) (state : State) → IsStateOf s.system cube d state
          → Any (λ (r : ℕ). (e : EntryParts) × IsEntry s.state r e × Meets d state e.cube) (numbers_of reasons) ⊎ MeetsAny d state s.state.base
      reasoned d state is =
          let a = met d state is in
          let m = of-map (λ (n : Named). n.cube) reasons a.0 a.1 (number-of (Meets d state) (named_cubes reasons) a) in
          let entry = all-at (IsKept s.state) reasons kept.each a.0 m.0 m.1 in
          let meets : Meets d state entry.entry.cube = subst (λ (c : Problem). Meets d state c) (sym (entry.cube ∙ m.2)) a.4 in
          inl (any-at (λ (r : ℕ). (e : EntryParts) × IsEntry s.state r e × Meets d state e.cube) (numbers_of reasons) a.0 m.0.number
          (to-map (λ (n : Named). n.number) reasons a.0 m.0 m.1) (entry.entry, entry.kept.0, meets))
