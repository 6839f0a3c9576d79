use Rattle.std.proofs.Common.{◌≡◌, ℕ, zero, suc, true, false, not, refl, [], ◌∷◌, arith, sym, subst}
use Rattle.std.specs.Prelude.{Some, None, get_or, nat_eq}
use Rattle.ras_logic.specs.declared.raw_db.RawDb.{RawDb}
use Rattle.ras_system.specs.declared.state.State.{State}
use Rattle.ras_system.specs.declared.choice.Choice.{Choice}
use Rattle.ras_system.specs.States.{IsInitial, Meets, MeetsAny}
use Rattle.ras_system.specs.Steps.{IsStep}
use Rattle.ras_vectors.specs.Words.{apart}
use Rattle.ras_vectors.specs.Small.{still, is_set, x, unset}
use Rattle.ras_vectors.proofs.runs.formulas_that_are_an_invariant.Goals as goal

of_one : (d : RawDb) (s : State) → MeetsAny d s (is_set ∷ []) → Meets d s is_set
of_one d s (zero, q, lt, e, m) = subst (Meets d s) (sym e) m
of_one d s (suc k, q, lt, e, m) = absurd (omega (arith, lt))

never_at_first : (d : RawDb) (s : State) → IsInitial still d s → MeetsAny d s (is_set ∷ []) → ⊥
never_at_first d s i m =
    let differs : not (nat_eq (get_or s.vars 0 0) 0) ≡ true = (of_one d s m).4 0 (apart x unset) (omega arith) in
    let e : false ≡ true = subst (λ (n : ℕ). not (nat_eq n 0) ≡ true) (i.vars 0 None refl) differs in cc

no_step : (d : RawDb) (s : State) (c : Choice) (next : State) → IsStep still d s c next → ⊥
no_step d s c next (t, e, rest) = cc

pub returns : goal.returns
returns c = record {
  still = record {
    initial = λ d s is i m. never_at_first d s i m;
    goals = λ d s is state m. m;
    steps = λ d s c next is state step m. absurd (no_step d s c next step);
  };
}
