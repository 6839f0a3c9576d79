-- A fault is no violation, and no two faults are the first.
use Rattle.std.proofs.Common.{◌≡◌, ℕ, ◌<◌, take, refl, ◌∙◌, ap, subst, ◌⊎◌, inl, inr}
use Rattle.std.specs.Prelude.{slice_get, Option, Some, None}
use Rattle.std.proofs.lemmas.Bool.{cases_order}
use Rattle.ras_logic.specs.declared.raw_db.RawDb.{RawDb}
use Rattle.ras_logic.specs.Schemas.{SchemaParts}
use Rattle.ras_logic.specs.Databases.{IsDatabase}
use Rattle.ras_system.specs.declared.state.State.{State}
use Rattle.ras_system.specs.declared.choice.Choice.{Choice}
use Rattle.ras_system.specs.Systems.{SystemParts}
use Rattle.ras_system.specs.States.{MeetsAny}
use Rattle.ras_system.specs.Steps.{IsStep}
use Rattle.ras_system.specs.Runs.{IsRun}
use Rattle.ras_database.specs.declared.db_fault.DbFault.{DbFault}
use Rattle.ras_database.specs.DatabaseFaults.{IsDatabaseFault}
use Rattle.ras_steps.specs.declared.run.Run.{Run}
use Rattle.ras_steps.specs.declared.step_fault.StepFault.{StepFault}
use Rattle.ras_steps.specs.declared.replay_fault.ReplayFault.{ReplayFault}
use Rattle.ras_steps.specs.StepFaults.{IsStepFault}
use Rattle.ras_steps.specs.ReplayFaults.{IsMemory, IsRefused, IsReplayFault}
use Rattle.ras_violation.specs.declared.violation_fault.ViolationFault.{ViolationFault}
use Rattle.ras_violation.specs.declared.violation_fault.ViolationFault.TheVariants as fault
use Rattle.ras_violation.specs.Violations.{IsGoodViolation}
use Rattle.ras_violation.specs.ViolationFaults.{IsViolationFault}
use Rattle.ras_violation.proofs.Paths.{one_run, not_all, not_longer}

abbrev pub NoDatabase : Type 0
NoDatabase = (s : SchemaParts) (d : RawDb) (f : DbFault) → IsDatabaseFault s d f → ¬ IsDatabase s d

abbrev pub NoStep : Type 0
NoStep = (system : SystemParts) (d : RawDb) (s : State) (c : Choice) (f : StepFault) → IsStepFault system d s c f → (¬ IsMemory f) → (next : State) → ¬ IsStep system d s c next

abbrev pub OneDatabaseFault : Type 0
OneDatabaseFault = (s : SchemaParts) (d : RawDb) (f g : DbFault) → IsDatabaseFault s d f → IsDatabaseFault s d g → f ≡ g

abbrev pub OneStepFault : Type 0
OneStepFault = (system : SystemParts) (d : RawDb) (s : State) (c : Choice) (f g : StepFault) → IsStepFault system d s c f → IsStepFault system d s c g → (¬ IsMemory f) → (¬ IsMemory g) → f ≡ g

module _ (no_database : NoDatabase) (no_step : NoStep) (system : SystemParts) (d : RawDb) (run : Run) where
  pub not_good : (f : ViolationFault) → IsViolationFault system d run f → ¬ IsGoodViolation system d run
  not_good (fault.Database f) h good = no_database system.shape.schema d f h good.1.database
  not_good fault.StartNotFitting h good = h.1 good.1.initial.state
  not_good fault.StartNotInitial h good = h.2 good.1.initial
  not_good (fault.Step f) h good = not_all system d (no_step system d) run.start run.choices f h.1 h.2 good.0 good.1.run
  not_good fault.EndNotUnsafe h good =
      h.1.2 (subst (λ (s : State). MeetsAny d s system.goals) (one_run system d run.start run.choices good.0 h.1.0 good.1.run h.1.1) good.1.goal)

  module _ (one_database : OneDatabaseFault) (one_step : OneStepFault) where
    -- two steps of one number that are refused from where the steps before lead
    same_step : (o : Option Choice) (s t : State) (f g : StepFault) → s ≡ t → IsRefused system d s o f → IsRefused system d t o g → (¬ IsMemory f) → (¬ IsMemory g) → f ≡ g
    same_step None s t f g e hf hg nf ng = absurd (nf hf)
    same_step (Some c) s t f g e hf hg nf ng = one_step system d t c f g (subst (λ (u : State). IsStepFault system d u c f) e hf) hg nf ng

    pub one_refusal : (f g : ReplayFault) → IsReplayFault system d run.start run.choices f → IsReplayFault system d run.start run.choices g → (¬ IsMemory f.fault) → (¬ IsMemory g.fault) → f ≡ g
    one_refusal f g hf hg nf ng = go (cases_order f.at g.at)
      where
        same : f.at ≡ g.at → f.fault ≡ g.fault
        same e = same_step (slice_get run.choices g.at) hf.before hg.before f.fault g.fault
            (one_run system d run.start (take g.at run.choices) hf.before hg.before (subst (λ (n : ℕ). IsRun system d run.start (take n run.choices) hf.before) e hf.run) hg.run)
            (subst (λ (n : ℕ). IsRefused system d hf.before (slice_get run.choices n) f.fault) e hf.refused) hg.refused nf ng

        go : (f.at ≡ g.at) ⊎ ((f.at < g.at) ⊎ (g.at < f.at)) → f ≡ g
        go (inl e) = ap (λ (n : ℕ). record { at = n; fault = f.fault }) e ∙ ap (λ (x : StepFault). record { at = g.at; fault = x }) (same e)
        go (inr (inl lt)) = absurd (not_longer system d (no_step system d) run.start run.choices f hf nf g.at hg.before lt hg.run)
        go (inr (inr lt)) = absurd (not_longer system d (no_step system d) run.start run.choices g hg ng f.at hf.before lt hf.run)

    pub one_fault : (f g : ViolationFault) → IsViolationFault system d run f → IsViolationFault system d run g → f ≡ g
    one_fault (fault.Database f) (fault.Database g) hf hg = ap fault.Database (one_database system.shape.schema d f g hf hg)
    one_fault (fault.Database f) fault.StartNotFitting hf hg = absurd (no_database system.shape.schema d f hf hg.0)
    one_fault (fault.Database f) fault.StartNotInitial hf hg = absurd (no_database system.shape.schema d f hf hg.0)
    one_fault (fault.Database f) (fault.Step g) hf hg = absurd (no_database system.shape.schema d f hf hg.0.database)
    one_fault (fault.Database f) fault.EndNotUnsafe hf hg = absurd (no_database system.shape.schema d f hf hg.0.database)
    one_fault fault.StartNotFitting (fault.Database g) hf hg = absurd (no_database system.shape.schema d g hg hf.0)
    one_fault fault.StartNotFitting fault.StartNotFitting hf hg = refl
    one_fault fault.StartNotFitting fault.StartNotInitial hf hg = absurd (hf.1 hg.1)
    one_fault fault.StartNotFitting (fault.Step g) hf hg = absurd (hf.1 hg.0.initial.state)
    one_fault fault.StartNotFitting fault.EndNotUnsafe hf hg = absurd (hf.1 hg.0.initial.state)
    one_fault fault.StartNotInitial (fault.Database g) hf hg = absurd (no_database system.shape.schema d g hg hf.0)
    one_fault fault.StartNotInitial fault.StartNotFitting hf hg = absurd (hg.1 hf.1)
    one_fault fault.StartNotInitial fault.StartNotInitial hf hg = refl
    one_fault fault.StartNotInitial (fault.Step g) hf hg = absurd (hf.2 hg.0.initial)
    one_fault fault.StartNotInitial fault.EndNotUnsafe hf hg = absurd (hf.2 hg.0.initial)
    one_fault (fault.Step f) (fault.Database g) hf hg = absurd (no_database system.shape.schema d g hg hf.0.database)
    one_fault (fault.Step f) fault.StartNotFitting hf hg = absurd (hg.1 hf.0.initial.state)
    one_fault (fault.Step f) fault.StartNotInitial hf hg = absurd (hg.2 hf.0.initial)
    one_fault (fault.Step f) (fault.Step g) hf hg = ap fault.Step (one_refusal f g hf.1 hg.1 hf.2 hg.2)
    one_fault (fault.Step f) fault.EndNotUnsafe hf hg = absurd (not_all system d (no_step system d) run.start run.choices f hf.1 hf.2 hg.1.0 hg.1.1)
    one_fault fault.EndNotUnsafe (fault.Database g) hf hg = absurd (no_database system.shape.schema d g hg hf.0.database)
    one_fault fault.EndNotUnsafe fault.StartNotFitting hf hg = absurd (hg.1 hf.0.initial.state)
    one_fault fault.EndNotUnsafe fault.StartNotInitial hf hg = absurd (hg.2 hf.0.initial)
    one_fault fault.EndNotUnsafe (fault.Step g) hf hg = absurd (not_all system d (no_step system d) run.start run.choices g hg.1 hg.2 hf.1.0 hf.1.1)
    one_fault fault.EndNotUnsafe fault.EndNotUnsafe hf hg = refl
