-- The first entry of a kind, the reasons that are kept, and a search that has not begun.
use Rattle.std.proofs.Common.{◌≡◌, ◌≢◌, ℕ, zero, suc, ◌+◌, ◌<◌, ◌≤◌, Bool, true, false, List, [], ◌∷◌, length, get_or, set, take, replicate, refl, sym, ◌∙◌, ap, subst, arith, ◌⊎◌, inl, inr}
use Rattle.std.specs.Prelude.{slice_get, Some, None, All, IsTrue, ◌↔◌, nat_eq}
use mathlib.Core.Logic.{dite}
use native.Mathlib.Decide.{ℕ_discrete}
use Rattle.std.proofs.lemmas.Bool.{cases_lt, eqb-true, eq-eqb}
use Rattle.std.proofs.lemmas.Option.{slice_get_within, get_or_from_slice_get}
use Rattle.std.proofs.lemmas.List.{take-replicate, length-take-le, get_or_default}
use Rattle.ras_core.specs.declared.work.Work.{Work}
use Rattle.ras_core.specs.declared.work.Work.TheVariants as work
use Rattle.ras_core.specs.declared.sought.Sought.{Sought}
use Rattle.ras_core.specs.declared.sought.Sought.TheVariants as sought
use Rattle.ras_logic.proofs.AllSteps.{all_step, all_done as list_done}
use Rattle.ras_core.specs.Events.{AreKept}
use Rattle.ras_core.specs.CoreStates.{EntryParts, CoreParts, IsEntry, IsKeptEntry, IsAt, change, start}
use Rattle.ras_core.specs.Bookkeeping.{SearchParts, IsSought, NoneBefore, IsFirst}

-- a write of a changed entry
pub set_change : (f : EntryParts → EntryParts) (es : List EntryParts) (i : ℕ) (x y : EntryParts) → i < length es → x ≡ get_or es i x → y ≡ f x → set es i y ≡ change f i es
set_change f [] i x y lt is same = refl
set_change f (e ∷ es) zero x y lt is same = ap (λ (z : EntryParts). z ∷ es) (same ∙ ap f is)
set_change f (e ∷ es) (suc i) x y lt is same = ap (λ (zs : List EntryParts). e ∷ zs) (set_change f es i x y (omega arith) is same)

module _ (what : Sought) where
  -- one entry more is not such
  pub none_more : (es : List EntryParts) (n : ℕ) (x : EntryParts) → NoneBefore what es n → n < length es → x ≡ get_or es n x → ¬ IsSought what x → NoneBefore what es (n + 1)
  none_more es n x none lt is not k e below known =
      dite (ℕ_discrete k n)
      (λ q. λ p. not (subst (IsSought what) (sym (is ∙ get_or_from_slice_get es n e x (subst (λ (m : ℕ). slice_get es m ≡ Some e) q known))) p))
      (λ other. none k e (omega arith) known)

  pub found_here : (es : List EntryParts) (n : ℕ) (x e : EntryParts) → x ≡ get_or es n x → IsSought what x → slice_get es n ≡ Some e → IsSought what e
  found_here es n x e is p known = subst (IsSought what) (is ∙ get_or_from_slice_get es n e x known) p

  -- the first number is that of an entry, or there is none
  pub first_some : (es : List EntryParts) (n : ℕ) → IsFirst what es n → n < length es → (e : EntryParts) × (slice_get es n ≡ Some e) × IsSought what e
  first_some es n first lt = go es n lt first.is
    where
      go : (xs : List EntryParts) (k : ℕ) → k < length xs → ((e : EntryParts) → slice_get xs k ≡ Some e → IsSought what e) → (e : EntryParts) × (slice_get xs k ≡ Some e) × IsSought what e
      go [] k below here = absurd (omega arith)
      go (x ∷ xs) zero below here = (x, refl, here x refl)
      go (x ∷ xs) (suc k) below here = go xs k (omega arith) here

  pub first_none : (es : List EntryParts) (n k : ℕ) (e : EntryParts) → IsFirst what es n → length es ≤ n → slice_get es k ≡ Some e → ¬ IsSought what e
  first_none es n k e first le known = first.none k e (let lt = slice_get_within es k e known in omega (arith, lt, le)) known

-- the same, of the entries of a state
module _ (s : CoreParts) (es : List EntryParts) (n : ℕ) (same : es ≡ s.entries) where
  entry_is : (k : ℕ) (e : EntryParts) → IsEntry s k e → slice_get es k ≡ Some e
  entry_is k e = subst (λ (xs : List EntryParts). slice_get xs k ≡ Some e) (sym same)

  is_entry : (k : ℕ) (e : EntryParts) → slice_get es k ≡ Some e → IsEntry s k e
  is_entry k e = subst (λ (xs : List EntryParts). slice_get xs k ≡ Some e) same

  pub first_entry : (what : Sought) → IsFirst what es n → n < length es → NoneBefore what s.entries n × ((e : EntryParts) × IsEntry s n e × IsSought what e)
  first_entry what first lt =
      let r = first_some what es n first lt in
      (subst (λ (xs : List EntryParts). NoneBefore what xs n) same first.none, (r.0, is_entry n r.0 r.1, r.2))

  pub no_entry : (what : Sought) → IsFirst what es n → length es ≤ n → (k : ℕ) (e : EntryParts) → IsEntry s k e → ¬ IsSought what e
  no_entry what first le k e known = first_none what es n k e first le (entry_is k e known)

  pub first_free_entry : IsFirst sought.Free es n → n < length es → NoneBefore sought.Free s.entries n × ((e : EntryParts) × IsAt s n work.Free e)
  first_free_entry first lt = let r = first_entry sought.Free first lt in (r.0, (r.1.0, (r.1.1, r.1.2.0, r.1.2.1)))

  pub no_free_entry : IsFirst sought.Free es n → length es ≤ n → (k : ℕ) (e : EntryParts) → ¬ IsAt s k work.Free e
  no_free_entry first le k e at = no_entry sought.Free first le k e at.0 (at.1, at.2)

-- all kept entries are done exactly where the first that is not is none
all_done : (es : List EntryParts) (n k : ℕ) (e : EntryParts) → IsFirst sought.Unfinished es n → n ≡ length es → slice_get es k ≡ Some e → e.kept ≡ true → e.work ≡ work.Done
all_done es n k e first same known kept = go e.work refl
  where
    unfinished : (e.work ≢ work.Done) → ⊥
    unfinished other = first.none k e (let lt = slice_get_within es k e known in omega (arith, lt, same)) known (kept, other)

    go : (w : Work) → e.work ≡ w → e.work ≡ work.Done
    go work.Free h = absurd (unfinished (λ d. absurd (not_free (sym h ∙ d))))
      where
        not_free : work.Free ≡ work.Done → ⊥
        not_free h = absurd (cc)
    go work.Taken h = absurd (unfinished (λ d. absurd (not_taken (sym h ∙ d))))
      where
        not_taken : work.Taken ≡ work.Done → ⊥
        not_taken h = absurd (cc)
    go work.Done h = h

done_number : (es : List EntryParts) (n : ℕ) → IsFirst sought.Unfinished es n → ((k : ℕ) (e : EntryParts) → slice_get es k ≡ Some e → e.kept ≡ true → e.work ≡ work.Done) → n ≡ length es
done_number es n first done = go (cases_lt n (length es))
  where
    go : (n < length es) ⊎ (length es ≤ n) → n ≡ length es
    go (inl lt) = let r = first_some sought.Unfinished es n first lt in absurd (r.2.1 (done n r.0 r.1 r.2.0))
    go (inr le) = let w = first.within in omega arith

pub done_exactly : (s : CoreParts) (es : List EntryParts) (n : ℕ) → es ≡ s.entries → IsFirst sought.Unfinished es n
    → (IsTrue (nat_eq n (length es)) ↔ ((i : ℕ) (e : EntryParts) → IsKeptEntry s i e → e.work ≡ work.Done))
done_exactly s es n same first = (
  (λ t i e known. all_done es n i e first (eqb-true n (length es) t) (subst (λ (xs : List EntryParts). slice_get xs i ≡ Some e) (sym same) known.0) known.1),
  (λ done. eq-eqb n (length es) (done_number es n first (λ k e known kept. done k e (subst (λ (xs : List EntryParts). slice_get xs k ≡ Some e) same known, kept)))),
)

-- reasons that are kept, one after the other, where they are read
module _ (s : CoreParts) (reasons read : List ℕ) (i : ℕ) (same : read ≡ reasons) where
  pub one_more_kept : i < length read → AreKept s (take i reasons) → (e : EntryParts) × IsKeptEntry s (get_or read i 0) e → AreKept s (take (i + 1) reasons)
  one_more_kept lt kept here =
      subst (λ (xs : List ℕ). AreKept s (take (i + 1) xs)) same
      (record {
        each = all_step (λ (x : ℕ). (e : EntryParts) × IsKeptEntry s x e) read i (get_or read i 0) lt (get_or_default read i 0 (get_or read i 0) lt)
            (subst (λ (xs : List ℕ). All (λ (x : ℕ). (e : EntryParts) × IsKeptEntry s x e) (take i xs)) (sym same) kept.each) here;
      })

  pub all_kept : length read ≤ i → AreKept s (take i reasons) → AreKept s reasons
  all_kept le kept = record { each = list_done (λ (x : ℕ). (e : EntryParts) × IsKeptEntry s x e) reasons i (rw (← same) le) kept.each }

  pub not_kept : i < length read → ((e : EntryParts) × IsKeptEntry s (get_or read i 0) e → ⊥) → AreKept s reasons → ⊥
  not_kept lt none kept = none (subst (λ (xs : List ℕ). (e : EntryParts) × IsKeptEntry s (get_or xs i 0) e) (sym same) (kept.each i 0 (rw (← same) lt)))

pub count_marks : (goals : ℕ) (marks : List Bool) → goals ≤ 64 → length marks ≡ 64 → length (take goals marks) ≡ goals
count_marks goals marks le len = length-take-le goals marks (omega (arith, le, len))

pub fresh_state : (goals budget : ℕ) (entries : List EntryParts) → goals ≤ 64 → entries ≡ []
    → let s : SearchParts = record { budget = budget; state = record { submitted = take goals (replicate 64 false); entries = entries; hit = None; spill = None; base = []; reported = false } } in
    s ≡ record { budget = budget; state = start goals [] }
fresh_state goals budget entries le no_entries = rw (no_entries, take-replicate goals 64 false le)

pub false_is_not : IsTrue false → ⊥
false_is_not h = absurd (cc)
