-- A choice leads to one state, and so do choices; a run makes each of its steps.
use Rattle.std.proofs.Common.{◌≡◌, ℕ, zero, suc, ◌<◌, ◌≤◌, List, [], ◌∷◌, take, refl, sym, ◌∙◌, ap, subst, arith}
use Rattle.std.specs.Prelude.{slice_get, Option, Some, None}
use Rattle.std.proofs.lemmas.Option.{same_Some}
use Rattle.ras_logic.specs.declared.raw_db.RawDb.{RawDb}
use Rattle.ras_system.specs.declared.state.State.{State}
use Rattle.ras_system.specs.declared.choice.Choice.{Choice}
use Rattle.ras_system.specs.declared.transition.Transition.{Transition}
use Rattle.ras_system.specs.Systems.{SystemParts}
use Rattle.ras_system.specs.Steps.{IsStep, state_after}
use Rattle.ras_system.specs.Runs.{IsRun}
use Rattle.ras_steps.specs.declared.step_fault.StepFault.{StepFault}
use Rattle.ras_steps.specs.declared.replay_fault.ReplayFault.{ReplayFault}
use Rattle.ras_steps.specs.StepFaults.{IsStepFault}
use Rattle.ras_steps.specs.ReplayFaults.{IsMemory, IsRefused, IsReplayFault}

pub take_twice : {A : Type 0} (xs : List A) (i n : ℕ) → i ≤ n → take i (take n xs) ≡ take i xs
take_twice xs zero n le = refl
take_twice xs (suc i) zero le = absurd (omega arith)
take_twice [] (suc i) (suc n) le = refl
take_twice (x ∷ xs) (suc i) (suc n) le = ap (λ (ys : List _). x ∷ ys) (take_twice xs i n (omega (arith, le)))

pub read_front : {A : Type 0} (xs : List A) (i n : ℕ) → i < n → slice_get (take n xs) i ≡ slice_get xs i
read_front xs i zero lt = absurd (omega arith)
read_front [] i (suc n) lt = refl
read_front (x ∷ xs) zero (suc n) lt = refl
read_front (x ∷ xs) (suc i) (suc n) lt = read_front xs i n (omega (arith, lt))

module _ (system : SystemParts) (d : RawDb) where
  pub one_step : (s : State) (c : Choice) (a b : State) → IsStep system d s c a → IsStep system d s c b → a ≡ b
  one_step s c a b p q = p.2.after ∙ ap (λ (t : Transition). state_after d t s c) (same_Some p.0 q.0 (sym p.1 ∙ q.1)) ∙ sym q.2.after

  pub one_run : (start : State) (choices : List Choice) (a b : State) → IsRun system d start choices a → IsRun system d start choices b → a ≡ b
  one_run start [] a b p q = p ∙ sym q
  one_run start (c ∷ choices) a b p q =
      one_run q.0 choices a b (subst (λ (mid : State). IsRun system d mid choices a) (one_step start c p.0 q.0 p.1 q.1) p.2) q.2

  -- the step of a number, from where the steps before it lead
  pub step_at : (start : State) (choices : List Choice) (i : ℕ) (c : Choice) (last : State) → slice_get choices i ≡ Some c → IsRun system d start choices last
      → (mid : State) × (next : State) × IsRun system d start (take i choices) mid × IsStep system d mid c next
  step_at start [] i c last here run = absurd (cc)
  step_at start (a ∷ choices) zero c last here run = (start, run.0, refl, subst (λ (b : Choice). IsStep system d start b run.0) (same_Some a c here) run.1)
  step_at start (a ∷ choices) (suc i) c last here run =
      let later = step_at run.0 choices i c last here run.2 in (later.0, later.1, (run.0, run.1, later.2), later.3)

  module _ (no_step : (s : State) (c : Choice) (fault : StepFault) → IsStepFault system d s c fault → (¬ IsMemory fault) → (next : State) → ¬ IsStep system d s c next)
      (start : State) (choices : List Choice) (f : ReplayFault) (h : IsReplayFault system d start choices f) (other : ¬ IsMemory f.fault) where
    -- choices that go on as these where a step is refused are no run
    pub no_run : (whole : List Choice) (last : State) → take f.at whole ≡ take f.at choices → slice_get whole f.at ≡ slice_get choices f.at → ¬ IsRun system d start whole last
    no_run whole last front here run = go (slice_get choices f.at) refl
      where
        go : (o : Option Choice) → slice_get choices f.at ≡ o → ⊥
        go None none = other (subst (λ (o : Option Choice). IsRefused system d h.before o f.fault) none h.refused)
        go (Some c) known =
            let made = step_at start whole f.at c last (here ∙ known) run in
            let same : made.0 ≡ h.before = one_run start (take f.at choices) made.0 h.before (subst (λ (cs : List Choice). IsRun system d start cs made.0) front made.2) h.run in
            no_step h.before c f.fault (subst (λ (o : Option Choice). IsRefused system d h.before o f.fault) known h.refused) other made.1
            (subst (λ (mid : State). IsStep system d mid c made.1) same made.3)

    pub not_all : (last : State) → ¬ IsRun system d start choices last
    not_all last = no_run choices last refl refl

    pub not_longer : (n : ℕ) (last : State) → f.at < n → ¬ IsRun system d start (take n choices) last
    not_longer n last lt = no_run (take n choices) last (take_twice choices f.at n (omega (arith, lt))) (read_front choices f.at n lt)
