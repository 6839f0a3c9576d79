-- Why events are refused.
use Rattle.std.proofs.Common.{◌≡◌, ℕ, zero, suc, ◌<◌, List, [], ◌∷◌, get_or, refl, sym, subst, arith, ◌⊎◌, inl, inr}
use Rattle.std.specs.Prelude.{Any}
use Rattle.ras_logic.specs.declared.problem.Problem.{Problem}
use Rattle.ras_system.specs.States.{Meets, MeetsAny}
use Rattle.ras_extension.specs.Reaching.{IsStateOf, Leads}
use Rattle.ras_core.specs.declared.origin.Origin.TheVariants.{Step}
use Rattle.ras_core.specs.declared.work.Work.TheVariants.{Free, Taken, Done}
use Rattle.ras_core.specs.CoreStates.{EntryParts, IsEntry}
use Rattle.ras_core.specs.Admissible.{IsAdmissible, LeadsToEntry, SomeIsInitial}
use Rattle.ras_core.specs.Events.{IsWorkedOut, IsInside, IsReasoned}
use Rattle.ras_vectors.specs.Words.{state}
use Rattle.ras_vectors.specs.Small.{two, three_elements, is_b, is_c}
use Rattle.ras_core_vectors.specs.Searches.{seated, two_at, everything, too_wide, literal_too_many, row_too_many}
use Rattle.ras_core_vectors.proofs.Cubes.{c-here, b-start, state_of}
use Rattle.ras_core_vectors.proofs.Leading.{b-leads, leads-b, first-step, superfluous}
use Rattle.ras_core_vectors.proofs.Entries.{entry-is}

-- a state of the cube that is not b leads nowhere
pub not-leading : (n entry transition : ℕ) (cube : Problem) (cubes : List Problem) → IsStateOf two cube three_elements (state (n ∷ []) []) → (n ≡ 2 → ⊥)
    → LeadsToEntry two cubes entry transition cube → ⊥
not-leading n entry transition cube cubes is other comes =
    other (leads-b three_elements (state (n ∷ []) []) transition comes.target (comes.leads three_elements (state (n ∷ []) []) is))

pub not_a-leads-not : (cubes : List Problem) → LeadsToEntry two cubes 0 0 too_wide → ⊥
not_a-leads-not cubes = not-leading 0 0 0 too_wide cubes (state_of two three_elements 0 too_wide refl refl refl) (λ e. absurd (omega (arith, e)))

pub everything-leads-not : (cubes : List Problem) → LeadsToEntry two cubes 0 0 everything → ⊥
everything-leads-not cubes = not-leading 0 0 0 everything cubes (state_of two three_elements 0 everything refl refl refl) (λ e. absurd (omega (arith, e)))

pub c-leads-not : (cubes : List Problem) → LeadsToEntry two cubes 0 0 is_c → ⊥
c-leads-not cubes = not-leading 3 0 0 is_c cubes (state_of two three_elements 3 is_c refl refl refl) (λ e. absurd (omega (arith, e)))

pub no-second-step : (cubes : List Problem) → LeadsToEntry two cubes 0 1 is_b → ⊥
no-second-step cubes comes =
    let e : 1 ≡ 0 = first-step three_elements (state (2 ∷ []) []) 1 comes.target
    (comes.leads three_elements (state (2 ∷ []) []) (state_of two three_elements 2 is_b refl refl refl)) in
    absurd (omega (arith, e))

pub rows-not-tight : IsAdmissible seated (is_c ∷ []) [] (Step 0 0) row_too_many → ⊥
rows-not-tight new = let le = (new.tight is_c refl).rows _ refl in absurd (omega (arith, le))

pub literals-not-tight : IsAdmissible two (is_c ∷ []) [] (Step 0 0) literal_too_many → ⊥
literals-not-tight new = superfluous (new.tight is_c refl)

-- a state that is b is not c
b-not-c : Meets three_elements (state (2 ∷ []) []) is_c → ⊥
b-not-c m = let e : 2 ≡ 3 = c-here three_elements (state (2 ∷ []) []) m in absurd (omega (arith, e))

pub b-not-inside : IsInside two (two_at 3) 1 0 → ⊥
b-not-inside inside = b-not-c (inside _ _ refl refl three_elements (state (2 ∷ []) []) (state_of two three_elements 2 is_b refl refl refl))

pub b-not-reasoned : IsReasoned two (two_at 2) is_b (0 ∷ []) → ⊥
b-not-reasoned reasoned = go (reasoned three_elements (state (2 ∷ []) []) (state_of two three_elements 2 is_b refl refl refl))
  where
    go : Any (λ (r : ℕ). (e : EntryParts) × IsEntry (two_at 2) r e × Meets three_elements (state (2 ∷ []) []) e.cube) (0 ∷ []) ⊎ MeetsAny three_elements (state (2 ∷ []) []) [] → ⊥
    go (inl a) = one a.0 a.1 a.2 a.3 a.4.0 a.4.1 a.4.2
      where
        one : (k r : ℕ) → k < 1 → get_or (0 ∷ []) k r ≡ r → (e : EntryParts) → IsEntry (two_at 2) r e → Meets three_elements (state (2 ∷ []) []) e.cube → ⊥
        one zero r lt is e known m =
            let here : IsEntry (two_at 2) 0 e = subst (λ (n : ℕ). IsEntry (two_at 2) n e) (sym is) known in
            b-not-c (subst (λ (x : EntryParts). Meets three_elements (state (2 ∷ []) []) x.cube) (entry-is _ e here) m)
        one (suc k) r lt is e known m = absurd (omega arith)
    go (inr a) = absurd (omega (arith, a.2))

-- nothing is submitted yet
pub not-worked : (e : EntryParts) → e.cube ≡ is_c → e.submissions ≡ [] → IsWorkedOut two e → ⊥
not-worked e cube_is none w =
    let s = state_of two three_elements 2 is_b refl refl refl in
    let a : MeetsAny three_elements (state (2 ∷ []) []) [] = subst (MeetsAny three_elements (state (2 ∷ []) [])) none
    (w three_elements (state (2 ∷ []) []) 0 s.state (subst (Leads two three_elements (state (2 ∷ []) []) 0) (sym cube_is) (b-leads three_elements (state (2 ∷ []) []) s))) in
    absurd (omega (arith, a.2))

pub b-not-initial : SomeIsInitial two is_b → ⊥
b-not-initial i = b-start two.transitions two.goals i.d i.state i.database i.initial i.meets

pub free-is-not-done : Free ≡ Done → ⊥
free-is-not-done h = absurd (cc)

pub taken-is-not-done : Taken ≡ Done → ⊥
taken-is-not-done h = absurd (cc)
