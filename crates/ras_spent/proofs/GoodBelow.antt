-- Entries that are good up to a number.
use Rattle.std.proofs.Common.{◌≡◌, ℕ, suc, ◌+◌, ◌<◌, ◌≤◌, List, [], ◌∷◌, ◌++◌, length, take, get_or, refl, sym, ◌∙◌, ap, subst, arith, ◌⊎◌, inl, inr}
use Rattle.std.specs.Prelude.{slice_get, Some}
use Rattle.std.proofs.lemmas.Option.{same_Some, slice_get_within, slice_get_read}
use Rattle.std.proofs.lemmas.Bool.{cases_eq}
use Rattle.std.proofs.lemmas.List.{length-take-le, take-append-le, take_all}
use Rattle.ras_closure.proofs.Pushing.{at-push, grows-push, pushed-at}
use Rattle.ras_system.specs.Systems.{SystemParts}
use Rattle.ras_evidence.specs.declared.value.Entry.{Entry}
use Rattle.ras_violation.proofs.Paths.{take_twice, read_front}
use Rattle.ras_spent.specs.declared.spent_fault.EntryFault.{EntryFault}
use Rattle.ras_spent.specs.Entries.{IsGoodEntry, AreGoodEntries}
use Rattle.ras_spent.specs.EntryFaults.{IsEntryFault, IsSpentFault}

abbrev pub AreGoodBelow : SystemParts → List Entry → ℕ → Type 0
AreGoodBelow system entries end = (k : ℕ) (e : Entry) → k < end → slice_get entries k ≡ Some e → IsGoodEntry system (take k entries) e

module _ (system : SystemParts) where
  pub below_next : (entries : List Entry) (n : ℕ) (e : Entry) → slice_get entries n ≡ Some e → AreGoodBelow system entries n → IsGoodEntry system (take n entries) e
      → AreGoodBelow system entries (n + 1)
  below_next entries n e here below good k f lt known = go (cases_eq k n)
    where
      go : (k ≡ n) ⊎ (k ≡ n → ⊥) → IsGoodEntry system (take k entries) f
      go (inr ne) = below k f (omega (arith, lt, ne)) known
      go (inl same) =
          let one : e ≡ f = same_Some e f (sym here ∙ sym (ap (λ (i : ℕ). slice_get entries i) same) ∙ known) in
          subst (λ (i : ℕ). IsGoodEntry system (take i entries) f) (sym same) (subst (IsGoodEntry system (take n entries)) one good)

  -- those in front are good by themselves
  pub good_front : (entries : List Entry) (n : ℕ) → n ≤ length entries → AreGoodBelow system entries n → AreGoodEntries system (take n entries)
  good_front entries n le below k e known =
      let lt : k < n = within k e known in
      subst (λ (es : List Entry). IsGoodEntry system es e) (sym (take_twice entries k n (omega (arith, lt)))) (below k e lt (sym (read_front entries k n lt) ∙ known))
    where
      within : (i : ℕ) (f : Entry) → slice_get (take n entries) i ≡ Some f → i < n
      within i f at =
          let lt = slice_get_within (take n entries) i f at in
          let long = length-take-le n entries le in
          omega (arith, lt, long)

  module _ (entries : List Entry) (spill : Entry) where
    abbrev All : List Entry
    All = entries ++ spill ∷ []

    front : (n : ℕ) → n ≤ length entries → take n All ≡ take n entries
    front n le = take-append-le n entries (spill ∷ []) le

    -- and the spill behind all
    pub all_good : AreGoodBelow system entries (length entries) → IsGoodEntry system entries spill → AreGoodEntries system All
    all_good below good k e known = go (at-push entries spill e k known)
      where
        go : (slice_get entries k ≡ Some e) ⊎ ((k ≡ length entries) × (spill ≡ e)) → IsGoodEntry system (take k All) e
        go (inl at) =
            let lt : k < length entries = slice_get_within entries k e at in
            subst (λ (es : List Entry). IsGoodEntry system es e) (sym (front k (omega (arith, lt)))) (below k e lt at)
        go (inr last) =
            let whole : take k All ≡ entries = ap (λ (i : ℕ). take i All) last.0 ∙ front (length entries) (omega arith) ∙ take_all (length entries) entries (omega arith) in
            subst (λ (es : List Entry). IsGoodEntry system es e) (sym whole) (subst (IsGoodEntry system entries) last.1 good)

    -- those before a number stand in front of all
    good_before : (n : ℕ) → n ≤ length entries → AreGoodBelow system entries n → AreGoodEntries system (take n All)
    good_before n le below = subst (AreGoodEntries system) (sym (front n le)) (good_front entries n le below)

    -- the first that is not good
    pub bad_entry : (n : ℕ) (e : Entry) (f : EntryFault) → slice_get entries n ≡ Some e → AreGoodBelow system entries n → IsEntryFault system (take n entries) e f
        → IsSpentFault system entries spill (record { entry = n; fault = f })
    bad_entry n e f at below fault =
        let lt : n < length entries = slice_get_within entries n e at in
        record {
          entry = e;
          known = grows-push entries spill e n at;
          before = good_before n (omega (arith, lt)) below;
          here = subst (λ (es : List Entry). IsEntryFault system es e f) (sym (front n (omega (arith, lt)))) fault;
        }

    pub bad_spill : (f : EntryFault) → AreGoodBelow system entries (length entries) → IsEntryFault system entries spill f
        → IsSpentFault system entries spill (record { entry = length entries; fault = f })
    bad_spill f below fault =
        let n : ℕ = length entries in
        let whole : take n All ≡ entries = front n (omega arith) ∙ take_all n entries (omega arith) in
        record {
          entry = spill;
          known = pushed-at entries spill;
          before = good_before n (omega arith) below;
          here = subst (λ (es : List Entry). IsEntryFault system es spill f) (sym whole) fault;
        }
