-- What a refused step and a last state that meets no goal say of the whole evidence.
use Rattle.std.proofs.Common.{◌≡◌, ℕ, ◌<◌, length, take, get_or, refl, sym, ◌∙◌, ap, subst}
use Rattle.std.specs.Prelude.{slice_get, Option, Some, Result, Ok, Err, IfErr, IsErrAnd}
use Rattle.std.proofs.lemmas.Option.{slice_get_read}
use Rattle.ras_logic.specs.declared.raw_db.RawDb.{RawDb}
use Rattle.ras_system.specs.declared.state.State.{State}
use Rattle.ras_system.specs.declared.choice.Choice.{Choice}
use Rattle.ras_system.specs.Systems.{SystemParts}
use Rattle.ras_system.specs.States.{Meets, MeetsAny}
use Rattle.ras_system.specs.Runs.{IsRun}
use Rattle.ras_steps.specs.declared.run.Run.{Run}
use Rattle.ras_steps.specs.declared.replay_fault.ReplayFault.{ReplayFault}
use Rattle.ras_steps.specs.StepFaults.{IsStepFault}
use Rattle.ras_steps.specs.ReplayFaults.{IsMemory, IsRefused, IsReplayFault}
use Rattle.ras_violation.specs.declared.violation_fault.ViolationFault.TheVariants as fault
use Rattle.ras_violation.specs.declared.violation_fault.ViolationError.{ViolationError}
use Rattle.ras_violation.specs.declared.violation_fault.ViolationError.TheVariants.{Fault, Memory}
use Rattle.ras_violation.specs.Violations.{MeetsNone}
use Rattle.ras_violation.specs.ViolationFaults.{Begins, IsViolationFault, OnFault, OnRefusal, OnEnd}

-- what the error says, handed on
pub handed : {T : Type 0} (P : ViolationError → Type 0) (r : Result T ViolationError) (e : ViolationError) → IsErrAnd r (λ x. x ≡ e) → P e → IfErr r P
handed P (Ok x) e is h = absurd is
handed P (Err x) e is h = subst P (sym is) h

module _ (system : SystemParts) (d : RawDb) (run : Run) (begins : Begins system d run) where
  -- the refusal of a whole run
  pub refusal_told : (f : ReplayFault) → IsReplayFault system d run.start run.choices f → (e : ViolationError) → OnRefusal e (λ g. (g ≡ f) × (¬ IsMemory f.fault))
      → OnFault e (IsViolationFault system d run)
  refusal_told f h (Fault (fault.Step g)) r =
      (begins, subst (IsReplayFault system d run.start run.choices) (sym r.0) h, subst (λ (x : ReplayFault). ¬ IsMemory x.fault) (sym r.0) r.1)
  refusal_told f h (Fault (fault.Database g)) r = absurd r
  refusal_told f h (Fault fault.StartNotFitting) r = absurd r
  refusal_told f h (Fault fault.StartNotInitial) r = absurd r
  refusal_told f h (Fault fault.EndNotUnsafe) r = absurd r
  refusal_told f h (Memory e) r = r

  -- the refusal of the step of that number
  pub step_told : (i : ℕ) (c : Choice) (mid : State) → i < length run.choices → c ≡ get_or run.choices i c → IsRun system d run.start (take i run.choices) mid
      → (e : ViolationError) → OnRefusal e (λ f. (f.at ≡ i) × IsStepFault system d mid c f.fault × (¬ IsMemory f.fault)) → OnFault e (IsViolationFault system d run)
  step_told i c mid lt here before (Fault (fault.Step f)) r =
      let known : slice_get run.choices f.at ≡ Some c = ap (slice_get run.choices) r.0 ∙ slice_get_read run.choices (length run.choices) i c refl lt here in (
        begins,
        record {
          before = mid;
          run = subst (λ (n : ℕ). IsRun system d run.start (take n run.choices) mid) (sym r.0) before;
          refused = subst (λ (o : Option Choice). IsRefused system d mid o f.fault) (sym known) r.1;
        },
        r.2,
      )
  step_told i c mid lt here before (Fault (fault.Database g)) r = absurd r
  step_told i c mid lt here before (Fault fault.StartNotFitting) r = absurd r
  step_told i c mid lt here before (Fault fault.StartNotInitial) r = absurd r
  step_told i c mid lt here before (Fault fault.EndNotUnsafe) r = absurd r
  step_told i c mid lt here before (Memory e) r = r

  -- the end of a whole run
  pub end_told : (last : State) → IsRun system d run.start run.choices last → (e : ViolationError) → OnEnd e (MeetsNone d last system.goals) → OnFault e (IsViolationFault system d run)
  end_told last leads (Fault fault.EndNotUnsafe) none =
      (begins, (last, leads, λ (any : MeetsAny d last system.goals). none any.0 any.1 any.2 (subst (Meets d last) (sym any.3) any.4)))
  end_told last leads (Fault (fault.Step f)) none = absurd none
  end_told last leads (Fault (fault.Database f)) none = absurd none
  end_told last leads (Fault fault.StartNotFitting) none = absurd none
  end_told last leads (Fault fault.StartNotInitial) none = absurd none
  end_told last leads (Memory e) none = none
