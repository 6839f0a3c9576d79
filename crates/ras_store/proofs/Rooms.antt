-- The room that is owed, and what stands ready, after each event.
use Rattle.std.proofs.Common.{◌≡◌, ◌≢◌, ℕ, zero, suc, ◌+◌, ◌*◌, ◌<◌, ◌≤◌, Bool, true, false, List, [], ◌∷◌, ◌++◌, length, set, refl, sym, ◌∙◌, ap, subst, arith, ◌⊎◌, inl, inr}
use Rattle.std.specs.Prelude.{slice_get, Option, Some, None, All}
use Rattle.std.proofs.lemmas.Option.{slice_get_within}
use Rattle.std.proofs.lemmas.List.{length-set, length_push}
use Rattle.std.proofs.lemmas.List.Elements.{All-weaker, All-push}
use Rattle.ras_logic.specs.declared.problem.Problem.{Problem}
use Rattle.ras_logic.proofs.ByPlace.{one_value}
use Rattle.ras_steps.specs.declared.witness.Witness.{Witness}
use Rattle.ras_core.specs.declared.origin.Origin.{Origin}
use Rattle.ras_core.specs.declared.origin.Origin.TheVariants.{Goal, Step}
use Rattle.ras_core.specs.declared.work.Work.{Work}
use Rattle.ras_core.specs.declared.work.Work.TheVariants as work
use Rattle.ras_core.specs.declared.event.Event.TheVariants as event
use Rattle.ras_core.specs.CoreStates.{EntryParts, CoreParts, IsEntry, IsKeptEntry, IsAt, cubes_of, change, changed, with_work, dropped, with_submission, admitted, listed}
use Rattle.ras_core.specs.Events.{Allowed, after}
use Rattle.ras_core.proofs.Lists.{each-append, at-append, at-end, length-change, cubes-change}
use Rattle.ras_store.specs.Stores.{StoreParts, with_event, with_entry, with_hit, with_spill}
use Rattle.ras_store.specs.Lawful.{IsNewWitness, IsLawfulStore}
use Rattle.ras_store.specs.Sites.{IsInitialWitness}
use Rattle.ras_store.specs.Stored.{owes_at, owes, owed_by, unreported, owed, IsStored}
use Rattle.ras_store.proofs.Places.{set_other, set_here, of-change}
use Rattle.ras_store.proofs.Growing.{kept_lawful, serials_lawful, cubes_listed, cubes_admitted, count_admitted, entry_lawful, hit_lawful, spill_lawful}

-- the events that may come

owed_change : (f : EntryParts → EntryParts) (i : ℕ) (es : List EntryParts) (e : EntryParts) → slice_get es i ≡ Some e → owed_by (change f i es) + owes e ≡ owed_by es + owes (f e)
owed_change f i [] e h = absurd (cc)
owed_change f zero (x ∷ es) e h =
    let q : x ≡ e = cc in
    let a : owes (f x) ≡ owes (f e) = ap (λ (y : EntryParts). owes (f y)) q in
    let b : owes x ≡ owes e = ap (λ (y : EntryParts). owes y) q in
    omega (arith, a, b)
owed_change f (suc i) (x ∷ es) e h = omega (arith, owed_change f i es e h)

owed_push : (es : List EntryParts) (y : EntryParts) → owed_by (es ++ y ∷ []) ≡ owed_by es + owes y
owed_push [] y = omega arith
owed_push (x ∷ es) y = omega (arith, owed_push es y)

owes_most : (kept : Bool) (w : Work) → owes_at kept w ≤ 3
owes_most false w = omega arith
owes_most true work.Free = omega arith
owes_most true work.Taken = omega arith
owes_most true work.Done = omega arith

owes_some : (w : Work) → 1 ≤ owes_at true w
owes_some work.Free = omega arith
owes_some work.Taken = omega arith
owes_some work.Done = omega arith

owed_by_most : (es : List EntryParts) → owed_by es ≤ 3 * length es
owed_by_most [] = omega arith
owed_by_most (x ∷ es) = omega (arith, owes_most x.kept x.work, owed_by_most es)

owed_at : (es : List EntryParts) (i : ℕ) (e : EntryParts) → slice_get es i ≡ Some e → owes e ≤ owed_by es
owed_at [] i e h = absurd (cc)
owed_at (x ∷ es) zero e h =
    let q : x ≡ e = cc in
    let b : owes x ≡ owes e = ap (λ (y : EntryParts). owes y) q in
    omega (arith, b)
owed_at (x ∷ es) (suc i) e h = omega (arith, owed_at es i e h)

unreported_most : (reported : Bool) → unreported reported ≤ 1
unreported_most true = omega arith
unreported_most false = omega arith

pub owed_most : (s : CoreParts) → owed s ≤ 3 * length s.entries + 1
owed_most s = omega (arith, owed_by_most s.entries, unreported_most s.reported)

owes_here : (e : EntryParts) (w : Work) → e.kept ≡ true → e.work ≡ w → owes e ≡ owes_at true w
owes_here e w k h = rw (k, h) refl

-- an entry is changed

module _ (s : StoreParts) (ready : List (Option Problem)) (room widest : ℕ) (kept : IsStored s ready room widest) where
  -- there is room for what may come of a kept entry, and for the report of idleness
  pub entry_room : (n : ℕ) (e : EntryParts) → IsKeptEntry s.state n e → 0 < room
  entry_room n e known =
      let a = owed_at s.state.entries n e known.0 in
      let b : owes e ≡ owes_at true e.work = owes_here e e.work known.1 refl in
      let c = owes_some e.work in
      let d = kept.room in
      omega (arith, a, b, c, d)

  pub report_room : s.state.reported ≡ false → 0 < room
  report_room not_yet =
      let a : unreported s.state.reported ≡ 1 = ap (λ (b : Bool). unreported b) not_yet in
      let d = kept.room in
      omega (arith, a, d)

  -- what stands ready beside the others stays
  ready_changed : (f : EntryParts → EntryParts) (n : ℕ) (now : List (Option Problem)) → ((k : ℕ) → k ≢ n → slice_get now k ≡ slice_get ready k)
      → ((o : EntryParts) → IsEntry s.state n o → (f o).work ≡ work.Free → slice_get now n ≡ Some (Some (f o).cube))
      → (i : ℕ) (e : EntryParts) → slice_get (change f n s.state.entries) i ≡ Some e → e.work ≡ work.Free → slice_get now i ≡ Some (Some e.cube)
  ready_changed f n now others here i e known free = go (of-change f n s.state.entries i e known)
    where
      go : ((i ≢ n) × (slice_get s.state.entries i ≡ Some e)) ⊎ ((o : EntryParts) × (i ≡ n) × (slice_get s.state.entries i ≡ Some o) × (f o ≡ e)) → slice_get now i ≡ Some (Some e.cube)
      go (inl a) = others i a.0 ∙ kept.ready i e a.1 free
      go (inr b) =
          subst (λ (x : EntryParts). slice_get now i ≡ Some (Some x.cube)) b.3
          (subst (λ (k : ℕ). slice_get now k ≡ Some (Some (f b.0).cube)) (sym b.1)
          (here b.0 (subst (λ (k : ℕ). slice_get s.state.entries k ≡ Some b.0) b.1 b.2) (subst (λ (x : EntryParts). x.work ≡ work.Free) (sym b.3) free)))

  changed_stored : (t : StoreParts) (f : EntryParts → EntryParts) (n : ℕ) (now : List (Option Problem)) (left : ℕ) → ((e : EntryParts) → (f e).cube ≡ e.cube) → t.state ≡ changed f n s.state
      → IsLawfulStore t → length now ≡ length ready
      → ((i : ℕ) (e : EntryParts) → slice_get (change f n s.state.entries) i ≡ Some e → e.work ≡ work.Free → slice_get now i ≡ Some (Some e.cube))
      → owed (changed f n s.state) ≤ left → IsStored t now left widest
  changed_stored t f n now left same is lawful count each le = record {
    lawful = lawful;
    ready_are = count ∙ (kept.ready_are ∙ sym (ap (λ (x : CoreParts). length x.entries) is ∙ length-change f n s.state.entries));
    ready = subst (λ (x : CoreParts). (i : ℕ) (e : EntryParts) → IsEntry x i e → e.work ≡ work.Free → slice_get now i ≡ Some (Some e.cube)) (sym is) each;
    rows = subst (λ (cs : List Problem). All (λ (c : Problem). length c.rows ≤ widest) cs)
        (sym (ap (λ (x : CoreParts). cubes_of x) is ∙ cubes-change f same n s.state.entries)) kept.rows;
    room = subst (λ (x : CoreParts). owed x ≤ left) (sym is) le;
  }

  -- what stands ready stays as it is
  ready_same : (f : EntryParts → EntryParts) (n : ℕ) → ((e : EntryParts) → (f e).cube ≡ e.cube) → ((e : EntryParts) → (f e).work ≡ work.Free → e.work ≡ work.Free)
      → (i : ℕ) (e : EntryParts) → slice_get (change f n s.state.entries) i ≡ Some e → e.work ≡ work.Free → slice_get ready i ≡ Some (Some e.cube)
  ready_same f n same work_same =
      ready_changed f n ready (λ k other. refl)
      (λ o known free. subst (λ (c : Problem). slice_get ready n ≡ Some (Some c)) (sym (same o)) (kept.ready n o known (work_same o free)))

  module _ (n left : ℕ) where
    -- the entry is claimed
    pub claim_stored : (now : List (Option Problem)) → (e : EntryParts) × IsAt s.state n work.Free e → now ≡ set ready n None → left + 1 ≡ room
        → IsStored (with_event s (event.Claim n)) now left widest
    claim_stored now at now_is less =
        changed_stored (with_event s (event.Claim n)) (with_work work.Taken) n now left (λ e. refl) refl
        (kept_lawful s (event.Claim n) kept.lawful (record { bookkeeping = at; states = tt }) (cubes-change (with_work work.Taken) (λ e. refl) n s.state.entries) refl refl)
        (ap length now_is ∙ length-set ready n None)
        (ready_changed (with_work work.Taken) n now (λ k other. ap (λ (xs : List (Option Problem)). slice_get xs k) now_is ∙ set_other ready n k None other) (λ o known free. absurd (cc)))
        (let o = owed_change (with_work work.Taken) n s.state.entries at.0 at.1.0 in let le = kept.room in
        let a : owes at.0 ≡ 3 = owes_here at.0 work.Free at.1.1 at.1.2 in
        let b : owes (with_work work.Taken at.0) ≡ 2 = owes_here (with_work work.Taken at.0) work.Taken at.1.1 refl in
        omega (arith, o, le, a, b, less))

    -- the work on it is done
    pub finish_stored : Allowed s.system s.budget s.state (event.Done n) → left + 1 ≡ room → IsStored (with_event s (event.Done n)) ready left widest
    finish_stored allowed less =
        changed_stored (with_event s (event.Done n)) (with_work work.Done) n ready left (λ e. refl) refl
        (kept_lawful s (event.Done n) kept.lawful allowed (cubes-change (with_work work.Done) (λ e. refl) n s.state.entries) refl refl)
        refl (ready_same (with_work work.Done) n (λ e. refl) (λ e free. absurd (cc)))
        (let at = allowed.bookkeeping in
        let o = owed_change (with_work work.Done) n s.state.entries at.0 at.1.0 in let le = kept.room in
        let a : owes at.0 ≡ 2 = owes_here at.0 work.Taken at.1.1 at.1.2 in
        let b : owes (with_work work.Done at.0) ≡ 1 = owes_here (with_work work.Done at.0) work.Done at.1.1 refl in
        omega (arith, o, le, a, b, less))

    -- it is dropped
    pub drop_stored : (by : ℕ) → Allowed s.system s.budget s.state (event.Drop n by) → left + 1 ≡ room → IsStored (with_event s (event.Drop n by)) ready left widest
    drop_stored by allowed less =
        changed_stored (with_event s (event.Drop n by)) dropped n ready left (λ e. refl) refl
        (kept_lawful s (event.Drop n by) kept.lawful allowed (cubes-change dropped (λ e. refl) n s.state.entries) refl refl)
        refl (ready_same dropped n (λ e. refl) (λ e free. free))
        (let at = allowed.bookkeeping.1 in
        let o = owed_change dropped n s.state.entries at.0 at.1.0 in let le = kept.room in
        let a : owes at.0 ≡ owes_at true at.0.work = owes_here at.0 at.0.work at.1.1 refl in
        let b : 1 ≤ owes_at true at.0.work = owes_some at.0.work in
        let c : owes (dropped at.0) ≡ 0 = refl in
        omega (arith, o, le, a, b, c, less))

    -- it is given back, and there is room for what may come then
    pub return_stored : (now : List (Option Problem)) (serials : List ℕ) (e : EntryParts) → IsEntry s.state n e → Allowed s.system s.budget s.state (event.GiveBack n)
        → now ≡ set ready n (Some e.cube) → length serials ≡ length s.serials → 3 * length s.state.entries + 1 ≤ left
        → IsStored (record (with_event s (event.GiveBack n)) { serials = serials }) now left widest
    return_stored now serials e known allowed now_is count enough =
        changed_stored (record (with_event s (event.GiveBack n)) { serials = serials }) (with_work work.Free) n now left (λ e. refl) refl
        (serials_lawful (with_event s (event.GiveBack n)) serials
        (kept_lawful s (event.GiveBack n) kept.lawful allowed (cubes-change (with_work work.Free) (λ e. refl) n s.state.entries) refl refl) count)
        (ap length now_is ∙ length-set ready n (Some e.cube))
        (ready_changed (with_work work.Free) n now (λ k other. ap (λ (xs : List (Option Problem)). slice_get xs k) now_is ∙ set_other ready n k (Some e.cube) other)
        (λ o at free. ap (λ (xs : List (Option Problem)). slice_get xs n) now_is
        ∙ (set_here ready n (Some e.cube) (let lt = slice_get_within s.state.entries n e known in let m = kept.ready_are in omega (arith, lt, m))
        ∙ ap (λ (x : EntryParts). Some (Some x.cube)) (one_value s.state.entries n e o known at))))
        (let most = owed_most (changed (with_work work.Free) n s.state) in
        let m = length-change (with_work work.Free) n s.state.entries in
        omega (arith, most, m, enough))

  -- a cube is submitted, and there is room for what may come then
  pub submit_stored : (left : ℕ) (origin : Origin) (cube : Problem) (reasons : List ℕ) → Allowed s.system s.budget s.state (event.Skip origin cube reasons)
      → 3 * length s.state.entries + 1 ≤ left → IsStored (with_event s (event.Skip origin cube reasons)) ready left widest
  submit_stored left (Step n t) cube reasons allowed enough =
      changed_stored (with_event s (event.Skip (Step n t) cube reasons)) (with_submission cube) n ready left (λ e. refl) refl
      (kept_lawful s (event.Skip (Step n t) cube reasons) kept.lawful allowed (cubes_listed (Step n t) cube s.state.entries) refl refl)
      refl (ready_same (with_submission cube) n (λ e. refl) (λ e free. free))
      (let most = owed_most (changed (with_submission cube) n s.state) in
      let m = length-change (with_submission cube) n s.state.entries in
      omega (arith, most, m, enough))
  submit_stored left (Goal j) cube reasons allowed enough = record {
    lawful = kept_lawful s (event.Skip (Goal j) cube reasons) kept.lawful allowed refl refl refl;
    ready_are = kept.ready_are;
    ready = kept.ready;
    rows = kept.rows;
    room = let most = owed_most s.state in omega (arith, most, enough);
  }

  -- idleness is reported
  pub report_stored : (left : ℕ) → Allowed s.system s.budget s.state event.Idle → left + 1 ≡ room → IsStored (with_event s event.Idle) ready left widest
  report_stored left allowed less = record {
    lawful = kept_lawful s event.Idle kept.lawful allowed refl refl refl;
    ready_are = kept.ready_are;
    ready = kept.ready;
    rows = kept.rows;
    room =
        let le = kept.room in
        let a : unreported s.state.reported ≡ 1 = ap (λ (b : Bool). unreported b) allowed.bookkeeping.1 in
        omega (arith, le, a, less);
  }

  -- a hit, or a spill, and there is room for what may come then
  pub hit_stored : (left : ℕ) (origin : Origin) (cube : Problem) (w : Witness) → Allowed s.system s.budget s.state (event.Hit origin cube) → IsInitialWitness s.system cube w
      → 3 * length s.state.entries + 1 ≤ left → IsStored (with_hit s origin cube w) ready left widest
  hit_stored left origin cube w allowed is enough = record {
    lawful = hit_lawful s origin cube w kept.lawful allowed is;
    ready_are = kept.ready_are;
    ready = kept.ready;
    rows = kept.rows;
    room = let most = owed_most s.state in omega (arith, most, enough);
  }

  pub spill_stored : (left : ℕ) (origin : Origin) (cube : Problem) (w : Witness) → Allowed s.system s.budget s.state (event.Spill origin cube)
      → IsNewWitness s.system cube (cubes_of s.state) w → 3 * length s.state.entries + 1 ≤ left → IsStored (with_spill s origin cube w) ready left widest
  spill_stored left origin cube w allowed is enough = record {
    lawful = spill_lawful s origin cube w kept.lawful allowed is;
    ready_are = kept.ready_are;
    ready = kept.ready;
    rows = kept.rows;
    room = let most = owed_most s.state in omega (arith, most, enough);
  }

  -- a new entry, with what stands ready beside it, and there is room for what may come then
  pub entry_stored : (left wider : ℕ) (now : List (Option Problem)) (origin : Origin) (cube : Problem) (w : Witness) → Allowed s.system s.budget s.state (event.Admit origin cube)
      → IsNewWitness s.system cube (cubes_of s.state) w → now ≡ ready ++ Some cube ∷ [] → widest ≤ wider → length cube.rows ≤ wider → 3 * length s.state.entries + 4 ≤ left
      → IsStored (with_entry s origin cube w) now left wider
  entry_stored left wider now origin cube w allowed is now_is wide rows enough = record {
    lawful = entry_lawful s origin cube w kept.lawful allowed is;
    ready_are = ap length now_is ∙ (length_push ready (Some cube) ∙ (ap (λ (k : ℕ). k + 1) kept.ready_are ∙ sym (count_admitted s.state origin cube)));
    ready = ready_listed origin;
    rows = subst (λ (cs : List Problem). All (λ (c : Problem). length c.rows ≤ wider) cs) (sym (cubes_admitted s.state origin cube))
        (All-push (λ (c : Problem). length c.rows ≤ wider) (cubes_of s.state) cube
        (All-weaker (λ (c : Problem). length c.rows ≤ widest) (λ (c : Problem). length c.rows ≤ wider) (λ c le. omega (arith, le, wide)) (cubes_of s.state) kept.rows) rows);
    room = let most = owed_most (after s.state (event.Admit origin cube)) in let m = count_admitted s.state origin cube in omega (arith, most, m, enough);
  }
    where
      pushed : (i : ℕ) (e : EntryParts) → slice_get (s.state.entries ++ admitted origin cube ∷ []) i ≡ Some e → e.work ≡ work.Free → slice_get now i ≡ Some (Some e.cube)
      pushed = each-append (λ (i : ℕ) (e : EntryParts). e.work ≡ work.Free → slice_get now i ≡ Some (Some e.cube)) s.state.entries (admitted origin cube)
          (λ i e known free. ap (λ (xs : List (Option Problem)). slice_get xs i) now_is ∙ at-append ready (Some cube ∷ []) i (Some e.cube) (kept.ready i e known free))
          (λ free. ap (λ (xs : List (Option Problem)). slice_get xs (length s.state.entries)) now_is
          ∙ subst (λ (k : ℕ). slice_get (ready ++ Some cube ∷ []) k ≡ Some (Some cube)) kept.ready_are (at-end ready (Some cube)))

      ready_listed : (o : Origin) (i : ℕ) (e : EntryParts) → slice_get (listed o cube (s.state.entries ++ admitted origin cube ∷ [])) i ≡ Some e → e.work ≡ work.Free
          → slice_get now i ≡ Some (Some e.cube)
      ready_listed (Goal j) i e known free = pushed i e known free
      ready_listed (Step n t) i e known free = go (of-change (with_submission cube) n (s.state.entries ++ admitted origin cube ∷ []) i e known)
        where
          go : ((i ≢ n) × (slice_get (s.state.entries ++ admitted origin cube ∷ []) i ≡ Some e))
              ⊎ ((o : EntryParts) × (i ≡ n) × (slice_get (s.state.entries ++ admitted origin cube ∷ []) i ≡ Some o) × (with_submission cube o ≡ e))
              → slice_get now i ≡ Some (Some e.cube)
          go (inl a) = pushed i e a.1 free
          go (inr b) =
              subst (λ (x : EntryParts). slice_get now i ≡ Some (Some x.cube)) b.3
              (pushed i b.0 b.2 (subst (λ (x : EntryParts). x.work ≡ work.Free) (sym b.3) free))
