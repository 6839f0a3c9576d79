-- The sorts that are marked after some rounds, and functions that lead in two ways.
use Rattle.std.proofs.Common.{◌≡◌, ℕ, suc, ◌+◌, ◌<◌, Bool, true, false, ◌&&◌, ◌||◌, List, [], ◌∷◌, length, get_or, set, take, replicate, refl, sym, ◌∙◌, ap, arith, nat_eq, inl, inr}
use Rattle.std.specs.List.{list_any}
use Rattle.std.proofs.lemmas.List.{get_or-replicate, get_or-set_same, get_or-set_other}
use Rattle.std.proofs.lemmas.List.Folds.{list_any_more}
use Rattle.std.proofs.lemmas.Bool.Decides.{eqb_tells}
use Rattle.std.proofs.Math.Bool.{or-true, or-false, and-false}
use Rattle.ras_logic.specs.Leading.{leads}

agree : {X : Type 0} (p q : X → Bool) (xs : List X) → ((k : ℕ) (d : X) → k < length xs → p (get_or xs k d) ≡ q (get_or xs k d)) → list_any p xs ≡ list_any q xs
agree p q [] h = refl
agree p q (x ∷ xs) h = λ i. h 0 x (omega arith) i || agree p q xs (λ k d lt. h (suc k) d (omega (arith, lt))) i

pub set_marks : (xs : List Bool) (t s : ℕ) → t < length xs → get_or (set xs t true) s false ≡ (nat_eq s t || get_or xs s false)
set_marks xs t s lt = elim (eqb_tells s t) [
  | inl e ↦ rw (e.0, e.1, get_or-set_same xs t true false lt) refl
  | inr e ↦ rw (e.0, get_or-set_other xs t s true false e.1) refl
]

module _ {F : Type 0} (source target : F → ℕ) (functions : List F) where
  abbrev lead : ℕ → ℕ → ℕ → Bool
  lead = leads nat_eq source target functions

  -- a function leads from the sort to a marked one
  abbrev pub leads_on : List Bool → ℕ → F → Bool
  leads_on marked s f = nat_eq (source f) s && get_or marked (target f) false

  pub marked_step : (marked sources now : List Bool) (n s t : ℕ)
      → ((k : ℕ) (d : F) → k < length functions → target (get_or functions k d) < 64)
      → ((u : ℕ) → u < 64 → get_or marked u false ≡ lead n u t)
      → get_or sources s false ≡ list_any (leads_on marked s) functions
      → get_or now s false ≡ (nat_eq s t || get_or sources s false)
      → get_or now s false ≡ lead (suc n) s t
  marked_step marked sources now n s t bound marks steps set_one =
      set_one ∙ ap (λ (b : Bool). nat_eq s t || b) (steps ∙ agree (leads_on marked s) (λ (f : F). nat_eq (source f) s && lead n (target f) t) functions
      (λ k d lt. ap (λ (b : Bool). nat_eq (source (get_or functions k d)) s && b) (marks (target (get_or functions k d)) (bound k d lt))))

  pub marked_first : (t s : ℕ) → t < 64 → s < 64 → get_or (set (replicate 64 false) t true) s false ≡ lead 0 s t
  marked_first t s lt h =
      set_marks (replicate 64 false) t s lt ∙ ap (λ (b : Bool). nat_eq s t || b) (get_or-replicate 64 s false false h) ∙ or-false (nat_eq s t)

  module _ (marked sources : List Bool) (i : ℕ) (f : F) (in_list : i < length functions) (here : f ≡ get_or functions i f) where
    one_more : (s : ℕ) → list_any (leads_on marked s) (take (i + 1) functions) ≡ (list_any (leads_on marked s) (take i functions) || leads_on marked s f)
    one_more s = list_any_more (leads_on marked s) functions i f in_list ∙ ap (λ (g : F). list_any (leads_on marked s) (take i functions) || leads_on marked s g) (sym here)

    pub mark-step : source f < length sources → get_or marked (target f) false ≡ true
        → (s : ℕ) → get_or sources s false ≡ list_any (leads_on marked s) (take i functions)
        → get_or (set sources (source f) true) s false ≡ list_any (leads_on marked s) (take (i + 1) functions)
    mark-step bound is_marked s inv =
        let more = one_more s in
        rw (more, is_marked, ← inv) (elim (eqb_tells (source f) s) [
          | inl e ↦ rw (e.0, ← e.1, get_or-set_same sources (source f) true false bound) (sym (or-true _))
          | inr e ↦ rw (e.0, get_or-set_other sources (source f) s true false (λ q. e.1 (sym q))) (sym (or-false _))
        ])

    pub mark-skip : get_or marked (target f) false ≡ false
        → (s : ℕ) → get_or sources s false ≡ list_any (leads_on marked s) (take i functions)
        → get_or sources s false ≡ list_any (leads_on marked s) (take (i + 1) functions)
    mark-skip unmarked s inv =
        let more = one_more s in
        rw (more, unmarked, ← inv, and-false, or-false)
