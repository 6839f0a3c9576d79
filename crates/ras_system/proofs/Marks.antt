-- A table of marks: which targets, or columns, a list has so far.
use Rattle.std.proofs.Common.{◌≡◌, ℕ, zero, suc, replicate, ◌+◌, ◌*◌, ◌<◌, Bool, true, false, ◌≤◌, List, [], ◌∷◌, length, get_or, set, take, nat_eq, cond, refl, sym, ◌∙◌, subst, arith, inl, inr, eq-eqb}
use Rattle.std.specs.Prelude.{Some, None, All}
use Rattle.std.specs.List.{list_any, count_by}
use Rattle.std.proofs.Math.Bool.{or-true, or-false}
use Rattle.std.proofs.lemmas.List.{get_or-set_same, get_or-set_other}
use Rattle.std.proofs.lemmas.List.Folds.{list_any_more}
use Rattle.std.proofs.lemmas.List.Sums.{sum_by-set, count_by-le-length}
use Rattle.std.proofs.lemmas.Bool.Decides.{eqb_tells}
use Rattle.ras_system.specs.declared.update.Target.{Target}
use Rattle.ras_system.specs.declared.update.Target.TheVariants.{Var, Cell}
use Rattle.ras_logic.specs.Shapes.{ShapeParts}
use Rattle.ras_system.specs.declared.update.Update.{Update}
use Rattle.ras_system.specs.declared.bulk.Assign.{Assign}
use Rattle.ras_system.specs.declared.transition.Transition.{Transition}
use Rattle.ras_system.specs.declared.system_fault.SystemFault.{SystemFault}
use Rattle.ras_system.specs.declared.system_fault.SystemPlace.{SystemPlace}
use Rattle.ras_system.specs.declared.system_fault.SystemPlace.TheVariants as place
use Rattle.ras_system.specs.declared.system_fault.SystemKind.TheVariants.{Target as Twice}
use Rattle.ras_system.specs.Systems.{update_literal}
use Rattle.ras_system.specs.SystemFaults.{check, first_of, is_same_target, literal_checks, update_checks, column_checks}
use Rattle.ras_system.proofs.FirstFaults.{first_of-append_none, first_of-append_some}
use Rattle.ras_system.specs.Slots.{HasSlot, slot_of}

-- one element more, which is marked at j; the list is read as one that is the same
pub mark_more : {X : Type 0} (p : X → Bool) (xs read : List X) (k : ℕ) (x : X) (seen : List Bool) (i j : ℕ) → read ≡ xs → k < length read → x ≡ get_or read k x
    → j < length seen → p x ≡ nat_eq j i → get_or seen i false ≡ list_any p (take k xs) → get_or (set seen j true) i false ≡ list_any p (take (k + 1) xs)
mark_more {X} p xs read k x seen i j list lt here within same before =
    let inside : k < length xs = subst (λ (ys : List X). k < length ys) list lt in
    let item : x ≡ get_or xs k x = subst (λ (ys : List X). x ≡ get_or ys k x) list here in
    rw (list_any_more p xs k x inside, ← item, same, ← before) (elim (eqb_tells j i) [
      | inl e ↦ rw (e.0, ← e.1, get_or-set_same seen j true false within) (sym (or-true _))
      | inr e ↦ rw (e.0, get_or-set_other seen j i true false (λ q. e.1 (sym q))) (sym (or-false _))
    ])

-- one mark more
pub count_more : (seen : List Bool) (j : ℕ) → j < length seen → get_or seen j false ≡ false → count_by (λ b. b) (set seen j true) ≡ count_by (λ b. b) seen + 1
count_more seen j within unmarked =
    let more = sum_by-set (λ (b : Bool). cond b 1 0) seen j true false within in
    omega (arith, rw unmarked at more)

pub differs : (a b : ℕ) → (a ≡ b → ⊥) → nat_eq a b ≡ false
differs a b h = elim (eqb_tells a b) [ inl e ↦ absurd (h e.1) | inr e ↦ e.0 ]

-- different targets have different slots
pub is_same_target-slots : (t u : Target) → HasSlot t → HasSlot u → is_same_target t u ≡ nat_eq (slot_of t) (slot_of u)
is_same_target-slots (Var v) (Var w) h k = refl
is_same_target-slots (Var v) (Cell row column) h k = sym (differs v.n (64 + 32 * row + column) (λ e. omega arith))
is_same_target-slots (Cell row column) (Var w) h k = sym (differs (64 + 32 * row + column) w.n (λ e. omega arith))
is_same_target-slots (Cell row column) (Cell q e) h k = elim (eqb_tells row q) [
  | inl r ↦ elim (eqb_tells column e) [
    | inl c ↦ rw (r.0, c.0) (sym (eq-eqb (64 + 32 * row + column) (64 + 32 * q + e) (let same = r.1 in let one = c.1 in omega (arith, same, one))))
    | inr c ↦ rw (r.0, c.0) (sym (differs (64 + 32 * row + column) (64 + 32 * q + e) (λ s. let same = r.1 in c.1 (omega (arith, same, s)))))
  ]
  | inr r ↦ rw r.0 (sym (differs (64 + 32 * row + column) (64 + 32 * q + e) (λ s. r.1 (omega (arith, s, h.1, k.1)))))
]

-- the checks of a column that an earlier assignment has, and of one that none has
pub narrow_column : (assigns : List Assign) (k : ℕ) (a : Assign) → All (λ (e : Assign). e.column < 32) assigns → k < length assigns → a ≡ get_or assigns k a → a.column < 32
narrow_column assigns k a narrow lt here = subst (λ (e : Assign). e.column < 32) (sym here) (narrow k a lt)

pub column_repeats : (p : SystemPlace) (assigns : List Assign) (k : ℕ) (a : Assign) → list_any (λ (e : Assign). nat_eq e.column a.column) (take k assigns) ≡ true
    → first_of (column_checks p assigns k a) ≡ Some (record { place = p; kind = Twice })
column_repeats p assigns k a h = rw h

pub column_fresh : (p : SystemPlace) (assigns : List Assign) (k : ℕ) (a : Assign) → list_any (λ (e : Assign). nat_eq e.column a.column) (take k assigns) ≡ false
    → first_of (column_checks p assigns k a) ≡ None
column_fresh p assigns k a h = rw h

-- the checks of an update that fits, whose target an earlier one has, and of one whose target none has
module _ (shape : ShapeParts) (n : ℕ) (t : Transition) (k : ℕ) (u : Update) (fits : first_of (literal_checks shape (place.Update n k) t.rows t.params (update_literal u ∷ [])) ≡ None) where
  pub target_repeats : list_any (λ (e : Update). is_same_target e.target u.target) (take k t.updates) ≡ true
      → first_of (update_checks shape n t k u) ≡ Some (record { place = place.Update n k; kind = Twice })
  target_repeats h =
      first_of-append_none (literal_checks shape (place.Update n k) t.rows t.params (update_literal u ∷ [])) (check (place.Update n k) Twice (list_any (λ (e : Update). is_same_target e.target u.target) (take k t.updates)) ∷ []) fits ∙ rw h

  pub target_fresh : list_any (λ (e : Update). is_same_target e.target u.target) (take k t.updates) ≡ false → first_of (update_checks shape n t k u) ≡ None
  target_fresh h =
      first_of-append_none (literal_checks shape (place.Update n k) t.rows t.params (update_literal u ∷ [])) (check (place.Update n k) Twice (list_any (λ (e : Update). is_same_target e.target u.target) (take k t.updates)) ∷ []) fits ∙ rw h

pub update_misfit : (shape : ShapeParts) (n : ℕ) (t : Transition) (k : ℕ) (u : Update) (f : SystemFault)
    → first_of (literal_checks shape (place.Update n k) t.rows t.params (update_literal u ∷ [])) ≡ Some f → first_of (update_checks shape n t k u) ≡ Some f
update_misfit shape n t k u f h =
    first_of-append_some (literal_checks shape (place.Update n k) t.rows t.params (update_literal u ∷ [])) (check (place.Update n k) Twice (list_any (λ (e : Update). is_same_target e.target u.target) (take k t.updates)) ∷ []) f h

-- a number of updates that have different targets
pub few_updates : (seen : List Bool) (k : ℕ) → length seen ≡ 320 → count_by (λ b. b) seen ≡ k → k ≤ 320
few_updates seen k as_long counted = omega (arith, count_by-le-length (λ (b : Bool). b) seen)

pub slot_within : (t : Target) → HasSlot t → slot_of t < 320
slot_within (Var v) h = omega arith
slot_within (Cell row column) h = omega (arith, h.0, h.1)

pub no_mark : (n : ℕ) → count_by (λ b. b) (replicate n false) ≡ 0
no_mark zero = refl
no_mark (suc n) = no_mark n
