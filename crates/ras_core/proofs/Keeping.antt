-- Each event keeps what is sound.
use Rattle.std.proofs.Common.{◌≡◌, ℕ, ◌+◌, ◌<◌, true, List, [], ◌∷◌, ◌++◌, length, take, refl, sym, ◌∙◌, subst, arith, ◌⊎◌, inl, inr, length-set, length-append}
use Rattle.std.specs.Prelude.{slice_get, Option, Some, None, All}
use Rattle.std.proofs.lemmas.Option.{slice_get_within}
use Rattle.std.proofs.lemmas.List.{length-map, map-append, take-append-le, take_at}
use Rattle.std.proofs.lemmas.List.Elements.{All-weaker, All-nil, All-push}
use Rattle.ras_logic.specs.declared.problem.Problem.{Problem}
use Rattle.ras_system.specs.Systems.{SystemParts}
use Rattle.ras_system.specs.States.{Meets}
use Rattle.ras_core.specs.declared.origin.Origin.{Origin}
use Rattle.ras_core.specs.declared.origin.Origin.TheVariants.{Goal, Step}
use Rattle.ras_core.specs.declared.work.Work.{Work}
use Rattle.ras_core.specs.declared.work.Work.TheVariants as work
use Rattle.ras_core.specs.declared.event.Event.{Event}
use Rattle.ras_core.specs.declared.event.Event.TheVariants as event
use Rattle.ras_core.specs.CoreStates.{FoundParts, EntryParts, CoreParts, IsEntry, cubes_of, changed, with_work, dropped, with_submission, admitted, admit, submit}
use Rattle.ras_core.specs.Covered.{AreCovered}
use Rattle.ras_core.specs.Admissible.{ComesFrom, SomeIsInitial, IsAdmissible}
use Rattle.ras_core.specs.Events.{IsWorkedOut, IsInside, BookkeepingAllows, Allowed, after}
use Rattle.ras_core.specs.Sound.{IsSound}
use Rattle.ras_core.proofs.Lists.{at-append, any-append, each-append, each-change, length-change, cubes-change, set-true}
use Rattle.ras_core.proofs.Covering.{CoversMore, change-covers, drop-covers, admit-covers, admitted-covered, reasons-cover, covered-more}

same_found : (x y : FoundParts) → ◌≡◌ {A = Option FoundParts} (Some x) (Some y) → x ≡ y
same_found x y h = cc

-- a cube still comes from its origin where there is an entry more
comes-behind : (system : SystemParts) (cubes more : List Problem) (origin : Origin) (cube : Problem) → ComesFrom system cubes origin cube → ComesFrom system (cubes ++ more) origin cube
comes-behind system cubes more (Goal j) cube comes = comes
comes-behind system cubes more (Step i t) cube comes =
    record { formula = comes.formula; target = comes.target; known = at-append cubes more i comes.target comes.known; leads = comes.leads }

module _ (system : SystemParts) (budget : ℕ) (s : CoreParts) (sound : IsSound system budget s) where
  -- one entry is changed, and its cube and origin stay
  change-sound : (f : EntryParts → EntryParts) (i : ℕ) → ((e : EntryParts) → (f e).cube ≡ e.cube) → ((e : EntryParts) → (f e).origin ≡ e.origin)
      → CoversMore system s (changed f i s) → ((e : EntryParts) → IsEntry s i e → All (AreCovered system s) (f e).submissions)
      → ((e : EntryParts) → IsEntry s i e → (f e).work ≡ work.Done → IsWorkedOut system (f e)) → IsSound system budget (changed f i s)
  change-sound f i same_cube same_origin more submissions worked =
      let cubes : cubes_of (changed f i s) ≡ cubes_of s = cubes-change f same_cube i s.entries in
      let wider : (c : Problem) → AreCovered system s c → AreCovered system (changed f i s) c = covered-more system s (changed f i s) more in
      record {
        entries = subst (λ (cs : List Problem). (k : ℕ) (e : EntryParts) → IsEntry (changed f i s) k e → IsAdmissible system (take k cs) s.base e.origin e.cube) (sym cubes)
            (each-change (λ k e. IsAdmissible system (take k (cubes_of s)) s.base e.origin e.cube) f i s.entries sound.entries
            (λ e known. rw (same_cube e, same_origin e) (sound.entries i e known)));
        covered = each-change (λ k e. AreCovered system (changed f i s) e.cube) f i s.entries (λ k e known. wider e.cube (sound.covered k e known))
            (λ e known. rw (same_cube e) (wider e.cube (sound.covered i e known)));
        submissions = each-change (λ k e. All (AreCovered system (changed f i s)) e.submissions) f i s.entries
            (λ k e known. All-weaker (AreCovered system s) (AreCovered system (changed f i s)) wider e.submissions (sound.submissions k e known))
            (λ e known. All-weaker (AreCovered system s) (AreCovered system (changed f i s)) wider (f e).submissions (submissions e known));
        goals = λ j g marked known. wider g (sound.goals j g marked known);
        worked_out = each-change (λ k e. e.work ≡ work.Done → IsWorkedOut system e) f i s.entries sound.worked_out worked;
        hit = subst (λ (cs : List Problem). (found : FoundParts) → s.hit ≡ Some found → ComesFrom system cs found.origin found.cube × SomeIsInitial system found.cube) (sym cubes) sound.hit;
        spill = rw (cubes, length-change f i s.entries) sound.spill;
        few = rw (length-change f i s.entries) sound.few;
        each_goal = sound.each_goal;
        base = sound.base;
      }

  -- an entry more, where no hit stands and there is room
  admit-sound : (origin : Origin) (cube : Problem) → s.hit ≡ None → length s.entries < budget → IsAdmissible system (cubes_of s) s.base origin cube
      → IsSound system budget (admit origin cube s)
  admit-sound origin cube no_hit room new =
      let cubes : cubes_of (admit origin cube s) ≡ cubes_of s ++ cube ∷ [] = map-append (λ (e : EntryParts). e.cube) s.entries (admitted origin cube ∷ []) in
      let count : length (cubes_of s) ≡ length s.entries = length-map s.entries (λ (e : EntryParts). e.cube) in
      let wider : (c : Problem) → AreCovered system s c → AreCovered system (admit origin cube s) c =
      covered-more system s (admit origin cube s) (admitted-more origin cube) in
      record {
        entries = subst (λ (cs : List Problem). (k : ℕ) (e : EntryParts) → IsEntry (admit origin cube s) k e → IsAdmissible system (take k cs) s.base e.origin e.cube) (sym cubes)
            (each-append (λ k e. IsAdmissible system (take k (cubes_of s ++ cube ∷ [])) s.base e.origin e.cube) s.entries (admitted origin cube)
            (λ k e known. subst (λ (cs : List Problem). IsAdmissible system cs s.base e.origin e.cube)
            (sym (take-append-le k (cubes_of s) (cube ∷ []) (let lt = slice_get_within s.entries k e known in omega (arith, lt, count))))
            (sound.entries k e known))
            (subst (λ (cs : List Problem). IsAdmissible system cs s.base origin cube) (sym (take_at (cubes_of s) (cube ∷ []) (length s.entries) count)) new));
        covered = each-append (λ k e. AreCovered system (admit origin cube s) e.cube) s.entries (admitted origin cube)
            (λ k e known. wider e.cube (sound.covered k e known)) (admitted-covered system s origin cube);
        submissions = each-append (λ k e. All (AreCovered system (admit origin cube s)) e.submissions) s.entries (admitted origin cube)
            (λ k e known. All-weaker (AreCovered system s) (AreCovered system (admit origin cube s)) wider e.submissions (sound.submissions k e known))
            (All-nil (AreCovered system (admit origin cube s)));
        goals = λ j g marked known. wider g (sound.goals j g marked known);
        worked_out = each-append (λ k e. e.work ≡ work.Done → IsWorkedOut system e) s.entries (admitted origin cube) sound.worked_out (λ d. absurd (cc));
        hit = λ f h. absurd (none_some f (sym no_hit ∙ h));
        spill = λ f h. let r = sound.spill f h in absurd (omega (arith, r.1, room));
        few = let n : length (s.entries ++ admitted origin cube ∷ []) ≡ length s.entries + 1 = length-append s.entries (admitted origin cube ∷ []) in omega (arith, n, room);
        each_goal = sound.each_goal;
        base = sound.base;
      }
    where
      none_some : (f : FoundParts) → ◌≡◌ {A = Option FoundParts} None (Some f) → ⊥
      none_some f h = absurd (cc)

      admitted-more : (o : Origin) (c : Problem) → CoversMore system s (admit o c s)
      admitted-more o c d state is = admit-covers system s o c d state

  changed-more : (f : EntryParts → EntryParts) (i : ℕ) → ((e : EntryParts) → (f e).cube ≡ e.cube) → ((e : EntryParts) → e.kept ≡ true → (f e).kept ≡ true) → CoversMore system s (changed f i s)
  changed-more f i same kept d state is = change-covers system s f i same kept d state

  -- a submission of a covered cube
  submit-sound : (origin : Origin) (cube : Problem) → ComesFrom system (cubes_of s) origin cube → AreCovered system s cube → IsSound system budget (submit origin cube s)
  submit-sound (Goal j) cube comes covered = record {
    entries = sound.entries;
    covered = sound.covered;
    submissions = sound.submissions;
    goals = λ k g marked known. goal (set-true s.submitted j k marked) g known;
    worked_out = sound.worked_out;
    hit = sound.hit;
    spill = sound.spill;
    few = sound.few;
    each_goal = length-set s.submitted j true ∙ sound.each_goal;
    base = sound.base;
  }
    where
      goal : {k : ℕ} → (slice_get s.submitted k ≡ Some true) ⊎ (k ≡ j) → (g : Problem) → slice_get system.goals k ≡ Some g → AreCovered system s g
      goal {k} (inl marked) g known = sound.goals k g marked known
      goal {k} (inr e) g known =
          let there : slice_get system.goals j ≡ Some g = subst (λ (n : ℕ). slice_get system.goals n ≡ Some g) e known in
          let same : cube ≡ g = cc in
          subst (AreCovered system s) same covered
  submit-sound (Step i t) cube comes covered =
      change-sound (with_submission cube) i (λ e. refl) (λ e. refl) (changed-more (with_submission cube) i (λ e. refl) (λ e kept. kept))
      (λ e known. All-push (AreCovered system s) e.submissions cube (sound.submissions i e known) covered)
      (λ e known done d state transition is leads. any-append (Meets d state) e.submissions (cube ∷ []) (sound.worked_out i e known done d state transition is leads))

  work-sound : (w : Work) (i : ℕ) → ((e : EntryParts) → IsEntry s i e → w ≡ work.Done → IsWorkedOut system e) → IsSound system budget (changed (with_work w) i s)
  work-sound w i worked =
      change-sound (with_work w) i (λ e. refl) (λ e. refl) (changed-more (with_work w) i (λ e. refl) (λ e kept. kept)) (sound.submissions i) worked

  drop-sound : (i j : ℕ) → BookkeepingAllows budget s (event.Drop i j) → IsInside system s i j → IsSound system budget (changed dropped i s)
  drop-sound i j order inside =
      change-sound dropped i (λ e. refl) (λ e. refl) more (sound.submissions i) (sound.worked_out i)
    where
      more : CoversMore system s (changed dropped i s)
      more = drop-covers system s i j order.0 order.2.0 order.2.1 (λ inner known. inside inner order.2.0 known order.2.1.0)

  hit-sound : (origin : Origin) (cube : Problem) → ComesFrom system (cubes_of s) origin cube × SomeIsInitial system cube
      → IsSound system budget (record s { hit = Some (record { cube = cube; origin = origin }) })
  hit-sound origin cube found = record {
    entries = sound.entries;
    covered = sound.covered;
    submissions = sound.submissions;
    goals = sound.goals;
    worked_out = sound.worked_out;
    hit = λ f h. subst (λ (x : FoundParts). ComesFrom system (cubes_of s) x.origin x.cube × SomeIsInitial system x.cube) (same_found (record { cube = cube; origin = origin }) f h) found;
    spill = sound.spill;
    few = sound.few;
    each_goal = sound.each_goal;
    base = sound.base;
  }

  spill-sound : (origin : Origin) (cube : Problem) → length s.entries ≡ budget → IsAdmissible system (cubes_of s) s.base origin cube
      → IsSound system budget (record s { spill = Some (record { cube = cube; origin = origin }) })
  spill-sound origin cube full new = record {
    entries = sound.entries;
    covered = sound.covered;
    submissions = sound.submissions;
    goals = sound.goals;
    worked_out = sound.worked_out;
    hit = sound.hit;
    spill = λ f h. subst (λ (x : FoundParts). IsAdmissible system (cubes_of s) s.base x.origin x.cube × (length s.entries ≡ budget)) (same_found (record { cube = cube; origin = origin }) f h) (new, full);
    few = sound.few;
    each_goal = sound.each_goal;
    base = sound.base;
  }

  idle-sound : IsSound system budget (record s { reported = true })
  idle-sound = record {
    entries = sound.entries;
    covered = sound.covered;
    submissions = sound.submissions;
    goals = sound.goals;
    worked_out = sound.worked_out;
    hit = sound.hit;
    spill = sound.spill;
    few = sound.few;
    each_goal = sound.each_goal;
    base = sound.base;
  }

-- a new entry, which is a submission of its origin
admitted-sound : (system : SystemParts) (budget : ℕ) (s : CoreParts) → IsSound system budget s → (origin : Origin) (cube : Problem) → s.hit ≡ None → length s.entries < budget
    → IsAdmissible system (cubes_of s) s.base origin cube → IsSound system budget (submit origin cube (admit origin cube s))
admitted-sound system budget s sound origin cube no_hit room new =
    submit-sound system budget (admit origin cube s) (admit-sound system budget s sound origin cube no_hit room new) origin cube
    (subst (λ (cs : List Problem). ComesFrom system cs origin cube) (sym (map-append (λ (e : EntryParts). e.cube) s.entries (admitted origin cube ∷ [])))
    (comes-behind system (cubes_of s) (cube ∷ []) origin cube new.comes))
    (admitted-covered system s origin cube)

module _ (system : SystemParts) (budget : ℕ) (s : CoreParts) (sound : IsSound system budget s) where
  pub event-sound : (e : Event) → Allowed system budget s e → IsSound system budget (after s e)
  event-sound (event.Claim i) a = work-sound system budget s sound work.Taken i (λ e known d. absurd (cc))
  event-sound (event.Admit origin cube) a = admitted-sound system budget s sound origin cube a.bookkeeping.1 a.bookkeeping.2 a.states
  event-sound (event.Skip origin cube reasons) a = submit-sound system budget s sound origin cube a.states.0 (reasons-cover system s cube reasons a.bookkeeping.1 a.states.1)
  event-sound (event.Drop i j) a = drop-sound system budget s sound i j a.bookkeeping a.states
  event-sound (event.Done i) a = work-sound system budget s sound work.Done i (λ e known d. a.states e known)
  event-sound (event.GiveBack i) a = work-sound system budget s sound work.Free i (λ e known d. absurd (cc))
  event-sound (event.Hit origin cube) a = hit-sound system budget s sound origin cube a.states
  event-sound (event.Spill origin cube) a = spill-sound system budget s sound origin cube a.bookkeeping.3 a.states
  event-sound event.Idle a = idle-sound system budget s sound
