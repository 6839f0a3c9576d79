-- What the program keeps, after each event.
use Rattle.std.proofs.Common.{◌≡◌, ◌≢◌, ℕ, zero, suc, ◌+◌, ◌<◌, ◌≤◌, Bool, true, false, List, [], ◌∷◌, ◌++◌, length, min, set, take, refl, sym, ◌∙◌, ap, subst, arith, length-set}
use Rattle.std.specs.Prelude.{slice_get, Option, Some}
use Rattle.std.proofs.lemmas.Option.{slice_get_within}
use Rattle.std.proofs.lemmas.List.{length_push}
use Rattle.ras_logic.specs.declared.problem.Problem.{Problem}
use Rattle.ras_core.specs.declared.origin.Origin.{Origin}
use Rattle.ras_core.specs.declared.origin.Origin.TheVariants.{Goal, Step}
use Rattle.ras_core.specs.declared.work.Work.{Work}
use Rattle.ras_core.specs.declared.work.Work.TheVariants as work
use Rattle.ras_core.specs.declared.sought.Sought.{Sought}
use Rattle.ras_core.specs.declared.sought.Sought.TheVariants as sought
use Rattle.ras_core.specs.CoreStates.{FoundParts, EntryParts, CoreParts, IsAt, change, with_work, dropped, with_submission, admitted, marked, listed, admit, submit}
use Rattle.ras_core.specs.Events.{IsOpen}
use Rattle.ras_core.specs.Bookkeeping.{SearchParts, IsSought, NoneBefore, IsWithin, IsBooked}
use Rattle.ras_core.proofs.Lists.{each-append, each-change, length-change}

none-change : (what : Sought) (f : EntryParts → EntryParts) (i n : ℕ) (es : List EntryParts) → NoneBefore what es n
    → ((e : EntryParts) → slice_get es i ≡ Some e → ¬ IsSought what e → ¬ IsSought what (f e)) → NoneBefore what (change f i es) n
none-change what f i n es none here k e lt known =
    each-change (λ m x. m < n → ¬ IsSought what x) f i es (λ m x at below. none m x below at) (λ x at below. here x at (none i x below at)) k e known lt

none-append : (what : Sought) (es : List EntryParts) (y : EntryParts) (n : ℕ) → n ≤ length es → NoneBefore what es n → NoneBefore what (es ++ y ∷ []) n
none-append what es y n le none k e lt known =
    each-append (λ m x. m < n → ¬ IsSought what x) es y (λ m x at below. none m x below at) (λ below. absurd (omega (arith, below, le))) k e known lt

one : (es : List EntryParts) (i : ℕ) (e o : EntryParts) → slice_get es i ≡ Some e → slice_get es i ≡ Some o → e ≡ o
one es i e o h k = cc

free_is_not_done : (w : Work) → w ≡ work.Free → w ≢ work.Done
free_is_not_done w h d = absurd (cc)

taken_is_not_done : (w : Work) → w ≡ work.Taken → w ≢ work.Done
taken_is_not_done w h d = absurd (cc)

taken_is_not_free : work.Taken ≡ work.Free → ⊥
taken_is_not_free h = absurd (cc)

false_is_not_true : false ≡ true → ⊥
false_is_not_true h = absurd (cc)

-- one entry is changed, and is then neither free nor unfinished where it was not before
booked-change : (budget goals : ℕ) (marks : List Bool) (es : List EntryParts) (free unfinished : ℕ) (f : EntryParts → EntryParts) (i : ℕ) → IsBooked budget goals marks es free unfinished
    → ((e : EntryParts) → slice_get es i ≡ Some e → ¬ IsSought sought.Free e → ¬ IsSought sought.Free (f e))
    → ((e : EntryParts) → slice_get es i ≡ Some e → ¬ IsSought sought.Unfinished e → ¬ IsSought sought.Unfinished (f e)) → IsBooked budget goals marks (change f i es) free unfinished
booked-change budget goals marks es free unfinished f i booked frees unfinisheds = let n = length-change f i es in record {
  goals_fit = booked.goals_fit;
  budget_fits = booked.budget_fits;
  marks_are = booked.marks_are;
  few = rw n booked.few;
  counted = rw n booked.counted;
  free = none-change sought.Free f i free es booked.free frees;
  free_within = rw n booked.free_within;
  unfinished = none-change sought.Unfinished f i unfinished es booked.unfinished unfinisheds;
  unfinished_within = rw n booked.unfinished_within;
}

module _ (s : SearchParts) (i budget goals : ℕ) (marks : List Bool) (es now : List EntryParts) (free unfinished : ℕ) (here : es ≡ s.state.entries) (booked : IsBooked budget goals marks es free unfinished) where
  Booked : (f : EntryParts → EntryParts) → IsBooked budget goals marks (change f i es) free unfinished → now ≡ change f i es → IsBooked budget goals marks now free unfinished
  Booked f changed is = subst (λ (xs : List EntryParts). IsBooked budget goals marks xs free unfinished) (sym is) changed

  entry_at : (w : Work) → (e : EntryParts) × IsAt s.state i w e → (e : EntryParts) × (slice_get es i ≡ Some e) × (e.kept ≡ true) × (e.work ≡ w)
  entry_at w at = (at.0, subst (λ (xs : List EntryParts). slice_get xs i ≡ Some at.0) (sym here) at.1.0, at.1.1, at.1.2)

  pub booked_claim : (e : EntryParts) × IsAt s.state i work.Free e → now ≡ change (with_work work.Taken) i es → IsBooked budget goals marks now free unfinished
  booked_claim at is = let a = entry_at work.Free at in
      Booked (with_work work.Taken) (booked-change budget goals marks es free unfinished (with_work work.Taken) i booked
      (λ e known not f. taken_is_not_free f.1)
      (λ e known not u. not (subst (IsSought sought.Unfinished) (one es i a.0 e a.1 known) (a.2, free_is_not_done a.0.work a.3)))) is

  pub booked_finish : now ≡ change (with_work work.Done) i es → IsBooked budget goals marks now free unfinished
  booked_finish is =
      Booked (with_work work.Done) (booked-change budget goals marks es free unfinished (with_work work.Done) i booked
      (λ e known not f. free_is_not_done work.Done f.1 refl) (λ e known not u. u.1 refl)) is

  pub booked_drop : now ≡ change dropped i es → IsBooked budget goals marks now free unfinished
  booked_drop is =
      Booked dropped (booked-change budget goals marks es free unfinished dropped i booked
      (λ e known not f. false_is_not_true f.0) (λ e known not u. false_is_not_true u.0)) is

  pub booked_back : (m : ℕ) → m ≡ min free i → (e : EntryParts) × IsAt s.state i work.Taken e → now ≡ change (with_work work.Free) i es → IsBooked budget goals marks now m unfinished
  booked_back m least at is =
      let a = entry_at work.Taken at in
      let n : length now ≡ length es = ap length is ∙ length-change (with_work work.Free) i es in
      record {
        goals_fit = booked.goals_fit;
        budget_fits = booked.budget_fits;
        marks_are = booked.marks_are;
        few = rw n booked.few;
        counted = rw n booked.counted;
        free = subst (λ (xs : List EntryParts). NoneBefore sought.Free xs m) (sym is)
            (none-change-below m (omega (arith, least)));
        free_within = let w = booked.free_within in omega (arith, w, n, least);
        unfinished = subst (λ (xs : List EntryParts). NoneBefore sought.Unfinished xs unfinished) (sym is)
            (none-change sought.Unfinished (with_work work.Free) i unfinished es booked.unfinished
            (λ e known not u. not (subst (IsSought sought.Unfinished) (one es i a.0 e a.1 known) (a.2, taken_is_not_done a.0.work a.3))));
        unfinished_within = rw n booked.unfinished_within;
      }
    where
      none-change-below : (k : ℕ) → (k ≤ free) × (k ≤ i) → NoneBefore sought.Free (change (with_work work.Free) i es) k
      none-change-below k le j e lt known =
          each-change (λ l x. l < k → ¬ IsSought sought.Free x) (with_work work.Free) i es
          (λ l x at_l below. booked.free l x (let q = le.0 in omega (arith, q, below)) at_l) (λ x at_i below. absurd (let q = le.1 in omega (arith, q, below))) j e known lt

-- a mark among the goals' marks
marked_front : (origin : Origin) (goals : ℕ) (marks : List Bool) → take goals (marked origin marks) ≡ marked origin (take goals marks)
marked_front (Step i t) goals marks = refl
marked_front (Goal j) goals marks = go goals j marks
  where
    go : (n k : ℕ) (xs : List Bool) → take n (set xs k true) ≡ set (take n xs) k true
    go zero k xs = refl
    go (suc n) k [] = refl
    go (suc n) zero (x ∷ xs) = refl
    go (suc n) (suc k) (x ∷ xs) = ap (λ (zs : List Bool). x ∷ zs) (go n k xs)

length_listed : (origin : Origin) (cube : Problem) (es : List EntryParts) → length (listed origin cube es) ≡ length es
length_listed (Goal j) cube es = refl
length_listed (Step i t) cube es = length-change (with_submission cube) i es

-- a new entry stands behind the origin's
listed_behind : (origin : Origin) (cube : Problem) (es : List EntryParts) (y : EntryParts) (n : ℕ) → IsWithin n (length es) origin → listed origin cube (es ++ y ∷ []) ≡ listed origin cube es ++ y ∷ []
listed_behind (Goal j) cube es y n within = refl
listed_behind (Step i t) cube es y n within = go es i within
  where
    go : (xs : List EntryParts) (k : ℕ) → k < length xs → change (with_submission cube) k (xs ++ y ∷ []) ≡ change (with_submission cube) k xs ++ y ∷ []
    go [] k lt = absurd (omega arith)
    go (x ∷ xs) zero lt = refl
    go (x ∷ xs) (suc k) lt = ap (λ (zs : List EntryParts). x ∷ zs) (go xs k (omega arith))

-- what is open is within the counts
pub open_within : (s : CoreParts) (origin : Origin) → IsOpen s origin → IsWithin (length s.submitted) (length s.entries) origin
open_within s (Goal j) here = here
open_within s (Step i t) here = slice_get_within s.entries i here.0 here.1.0

listed-booked : (budget goals : ℕ) (marks : List Bool) (es : List EntryParts) (free unfinished : ℕ) (origin : Origin) (cube : Problem) → IsBooked budget goals marks es free unfinished
    → IsBooked budget goals (marked origin marks) (listed origin cube es) free unfinished
listed-booked budget goals marks es free unfinished (Step i t) cube booked =
    booked-change budget goals marks es free unfinished (with_submission cube) i booked (λ e known not. not) (λ e known not. not)
listed-booked budget goals marks es free unfinished (Goal j) cube booked = record {
  goals_fit = booked.goals_fit;
  budget_fits = booked.budget_fits;
  marks_are = length-set marks j true ∙ booked.marks_are;
  few = booked.few;
  counted = booked.counted;
  free = booked.free;
  free_within = booked.free_within;
  unfinished = booked.unfinished;
  unfinished_within = booked.unfinished_within;
}

module _ (budget goals : ℕ) (marks : List Bool) (es : List EntryParts) (free unfinished : ℕ) (origin : Origin) (cube : Problem) (booked : IsBooked budget goals marks es free unfinished) where
  pub booked_submit : (others : List Bool) (now : List EntryParts) → others ≡ marked origin marks → now ≡ listed origin cube es → IsBooked budget goals others now free unfinished
  booked_submit others now marks_are is =
      subst (λ (xs : List EntryParts). IsBooked budget goals others xs free unfinished) (sym is)
      (subst (λ (xs : List Bool). IsBooked budget goals xs (listed origin cube es) free unfinished) (sym marks_are) (listed-booked budget goals marks es free unfinished origin cube booked))

  pub booked_admit : (others : List Bool) (now : List EntryParts) → length es < budget → others ≡ marked origin marks → now ≡ listed origin cube es ++ admitted origin cube ∷ []
      → IsBooked budget goals others now free unfinished
  booked_admit others now room marks_are is =
      let b = booked_submit others (listed origin cube es) marks_are refl in
      let n : length now ≡ length (listed origin cube es) + 1 = ap length is ∙ length_push (listed origin cube es) (admitted origin cube) in
      let m : length (listed origin cube es) ≡ length es = length_listed origin cube es in
      record {
        goals_fit = b.goals_fit;
        budget_fits = b.budget_fits;
        marks_are = b.marks_are;
        few = omega (arith, n, m, room);
        counted = let f = b.budget_fits in omega (arith, n, m, room, f);
        free = subst (λ (xs : List EntryParts). NoneBefore sought.Free xs free) (sym is) (none-append sought.Free (listed origin cube es) (admitted origin cube) free b.free_within b.free);
        free_within = let w = b.free_within in omega (arith, n, w);
        unfinished = subst (λ (xs : List EntryParts). NoneBefore sought.Unfinished xs unfinished) (sym is)
            (none-append sought.Unfinished (listed origin cube es) (admitted origin cube) unfinished b.unfinished_within b.unfinished);
        unfinished_within = let w = b.unfinished_within in omega (arith, n, w);
      }

-- the state that a submission, or a new entry, leaves
module _ (s : SearchParts) (origin : Origin) (cube : Problem) (goals budget : ℕ) (marks others : List Bool) (es now : List EntryParts) (hit spill : Option FoundParts) (reported : Bool) where
  abbrev state_of : List Bool → List EntryParts → SearchParts
  state_of xs entries = record { budget = budget; state = record { submitted = take goals xs; entries = entries; hit = hit; spill = spill; base = []; reported = reported } }

  pub submitted_state : state_of marks es ≡ s → others ≡ marked origin marks → now ≡ listed origin cube es → state_of others now ≡ record s { state = submit origin cube s.state }
  submitted_state is marks_are entries_are =
      subst (λ (p : SearchParts). state_of others now ≡ record p { state = submit origin cube p.state }) is
      (rw (marks_are, entries_are, marked_front origin goals marks) refl)

  pub admitted_state : state_of marks es ≡ s → IsWithin (length (take goals marks)) (length es) origin → others ≡ marked origin marks → now ≡ listed origin cube es ++ admitted origin cube ∷ []
      → state_of others now ≡ record s { state = submit origin cube (admit origin cube s.state) }
  admitted_state is within marks_are entries_are =
      subst (λ (p : SearchParts). state_of others now ≡ record p { state = submit origin cube (admit origin cube p.state) }) is
      (rw (marks_are, entries_are, marked_front origin goals marks, listed_behind origin cube es (admitted origin cube) (length (take goals marks)) within) refl)

pub admitted_items : (es reserved given now : List EntryParts) (origin : Origin) (kept submitted : Problem) (entry : EntryParts) → submitted ≡ kept → reserved ≡ es
    → given ≡ listed origin submitted reserved → entry ≡ admitted origin kept → now ≡ given ++ entry ∷ [] → now ≡ listed origin kept es ++ admitted origin kept ∷ []
admitted_items es reserved given now origin kept submitted entry same unmoved listed_is entry_is now_is =
    rw (now_is, listed_is, entry_is, unmoved, same) refl
