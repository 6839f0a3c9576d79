-- Entries that are named one after the other.
use Rattle.std.proofs.Common.{◌≡◌, ℕ, zero, suc, ◌+◌, ◌-◌, ◌<◌, ◌≤◌, true, false, List, [], ◌∷◌, ◌++◌, length, get_or, take, drop, refl, sym, ◌∙◌, ap, subst, arith, append_assoc, length-drop}
use Rattle.std.proofs.lemmas.List.{get_or-drop, append-nil}
use Rattle.ras_core.specs.CoreStates.{EntryParts}
use Rattle.ras_store.specs.declared.named.Named.{Named}
use Rattle.ras_store.specs.Holding.{named_from, named_if, kept_from}

abbrev name_of : ℕ → EntryParts → Named
name_of k e = record { number = k; cube = e.cube }

named_push : (k : ℕ) (es : List EntryParts) (i : ℕ) (e : EntryParts) → i < length es → e ≡ get_or es i e → named_from k (take (suc i) es) ≡ named_from k (take i es) ++ name_of (k + i) e ∷ []
named_push k [] i e lt is = absurd (omega arith)
named_push k (x ∷ es) zero e lt is =
    let c : x.cube ≡ e.cube = ap (λ (y : EntryParts). y.cube) (sym is) in
    let q : k + 0 ≡ k = omega arith in
    rw (c, q) refl
named_push k (x ∷ es) (suc i) e lt is =
    let q : suc k + i ≡ k + suc i = omega arith in
    ap (λ (zs : List Named). name_of k x ∷ zs)
    (subst (λ (n : ℕ). named_from (suc k) (take (suc i) es) ≡ named_from (suc k) (take i es) ++ name_of n e ∷ []) q (named_push (suc k) es i e (omega arith) is))

pub named_on : (from number : ℕ) (es : List EntryParts) (names now : List Named) (e : EntryParts) (n : Named) → from ≤ number → number < length es → e ≡ get_or es number e
    → names ≡ named_from from (take (number - from) (drop from es)) → n ≡ name_of number e → now ≡ names ++ n ∷ [] → now ≡ named_from from (take (number + 1 - from) (drop from es))
named_on from number es names now e n le lt read names_are n_is now_is =
    let q : number + 1 - from ≡ suc (number - from) = omega (arith, le) in
    let r : from + (number - from) ≡ number = omega (arith, le) in
    let pushed = named_push from (drop from es) (number - from) e (let m = length-drop from es in omega (arith, m, le, lt))
    (read ∙ sym (get_or-drop from es (number - from) e ∙ ap (λ (m : ℕ). get_or es m e) r)) in
    let there : named_from from (take (suc (number - from)) (drop from es)) ≡ named_from from (take (number - from) (drop from es)) ++ name_of number e ∷ [] =
    subst (λ (m : ℕ). named_from from (take (suc (number - from)) (drop from es)) ≡ named_from from (take (number - from) (drop from es)) ++ name_of m e ∷ []) r pushed in
    let here : now ≡ named_from from (take (number - from) (drop from es)) ++ name_of number e ∷ [] = rw (now_is, names_are, n_is) refl in
    rw q (here ∙ sym there)

pub kept_push : (k : ℕ) (es : List EntryParts) (i : ℕ) (e : EntryParts) → i < length es → e ≡ get_or es i e → kept_from k (take (suc i) es) ≡ kept_from k (take i es) ++ named_if e.kept (name_of (k + i) e)
kept_push k [] i e lt is = absurd (omega arith)
kept_push k (x ∷ es) zero e lt is =
    let q : k + 0 ≡ k = omega arith in
    subst (λ (y : EntryParts). named_if y.kept (name_of k y) ++ [] ≡ named_if e.kept (name_of (k + 0) e)) is
    (rw q (append-nil (named_if e.kept (name_of k e))))
kept_push k (x ∷ es) (suc i) e lt is =
    let q : suc k + i ≡ k + suc i = omega arith in
    let more = subst (λ (n : ℕ). kept_from (suc k) (take (suc i) es) ≡ kept_from (suc k) (take i es) ++ named_if e.kept (name_of n e)) q (kept_push (suc k) es i e (omega arith) is) in
    ap (λ (zs : List Named). named_if x.kept (name_of k x) ++ zs) more
    ∙ sym (append_assoc (named_if x.kept (name_of k x)) (kept_from (suc k) (take i es)) (named_if e.kept (name_of (k + suc i) e)))

pub kept_on : (number : ℕ) (es : List EntryParts) (names now : List Named) (e : EntryParts) (n : Named) → number < length es → e ≡ get_or es number e → e.kept ≡ true
    → names ≡ kept_from 0 (take number es) → n ≡ name_of number e → now ≡ names ++ n ∷ [] → now ≡ kept_from 0 (take (number + 1) es)
kept_on number es names now e n lt read kept names_are n_is now_is =
    let q : number + 1 ≡ suc number = omega arith in
    let r : 0 + number ≡ number = omega arith in
    let here : now ≡ kept_from 0 (take number es) ++ named_if e.kept (name_of (0 + number) e) = rw (now_is, names_are, n_is, kept, r) refl in
    rw q (here ∙ sym (kept_push 0 es number e lt read))

pub kept_past : (number : ℕ) (es : List EntryParts) (names : List Named) (e : EntryParts) → number < length es → e ≡ get_or es number e → e.kept ≡ false
    → names ≡ kept_from 0 (take number es) → names ≡ kept_from 0 (take (number + 1) es)
kept_past number es names e lt read gone names_are =
    let q : number + 1 ≡ suc number = omega arith in
    let here : names ≡ kept_from 0 (take number es) ++ named_if e.kept (name_of (0 + number) e) = rw (names_are, gone) (sym (append-nil (kept_from 0 (take number es)))) in
    rw q (here ∙ sym (kept_push 0 es number e lt read))
