-- An evidence is a violation or has a fault.
use Rattle.std.proofs.Common.{◌≡◌, ℕ, zero, suc, ◌+◌, ◌<◌, ◌≤◌, List, [], ◌∷◌, map, length, get_or, refl, sym, ◌∙◌, subst, arith, ◌⊎◌, inl, inr}
use Rattle.std.specs.Prelude.{slice_get, Option, Some, None, Any}
use Rattle.std.proofs.lemmas.Option.{slice_get-get_or}
use Rattle.std.proofs.lemmas.List.{length-map, get_or-map}
use Rattle.ras_logic.specs.declared.ids.SortId.{SortId}
use Rattle.ras_logic.specs.declared.ids.RelId.{RelId}
use Rattle.ras_logic.specs.declared.raw_db.RawDb.{RawDb}
use Rattle.ras_logic.specs.declared.problem.Problem.{Problem}
use Rattle.ras_logic.specs.Databases.{IsDatabase, size_of}
use Rattle.ras_logic.specs.Truth.{AreElements, AllHold}
use Rattle.ras_system.specs.declared.state.State.{State}
use Rattle.ras_system.specs.declared.choice.Choice.{Choice}
use Rattle.ras_system.specs.declared.transition.Transition.{Transition}
use Rattle.ras_system.specs.Systems.{SystemParts}
use Rattle.ras_system.specs.States.{rows_of, IsState, IsInitial, AreRows, values_at, Meets, MeetsAny}
use Rattle.ras_system.specs.Steps.{IsStep, state_after}
use Rattle.ras_system.specs.Runs.{IsRun}
use Rattle.ras_database.specs.declared.db_fault.DbFault.{DbFault}
use Rattle.ras_database.specs.DatabaseFaults.{IsDatabaseFault}
use Rattle.ras_database.proofs.Judging as database
use Rattle.ras_steps.specs.declared.run.Run.{Run}
use Rattle.ras_steps.specs.declared.step_fault.StepFault.{StepFault}
use Rattle.ras_steps.specs.declared.step_fault.StepFault.TheVariants.{NoTransition}
use Rattle.ras_steps.specs.declared.replay_fault.ReplayFault.{ReplayFault}
use Rattle.ras_steps.specs.StepFaults.{HasStep, IsFaultOf, IsStepFault}
use Rattle.ras_steps.specs.ReplayFaults.{IsMemory, IsReplayFault}
use Rattle.ras_steps.proofs.Judging as steps
use Rattle.ras_steps.proofs.Refusals.{fault_of_choice}
use Rattle.ras_violation.specs.declared.violation_fault.ViolationFault.{ViolationFault}
use Rattle.ras_violation.specs.declared.violation_fault.ViolationFault.TheVariants as fault
use Rattle.ras_violation.specs.Violations.{IsGoodViolation}
use Rattle.ras_violation.specs.ViolationFaults.{Begins, IsViolationFault}
use Rattle.ras_violation.proofs.Decisions.{Decided, by_both, decided_any, AreBelow, decided_numbers, decided_state, decided_initial}

-- how many numbers there are for each row and for each data parameter of a formula
abbrev row_bounds : State → List RelId → List ℕ
row_bounds s rows = map (λ (r : RelId). length (rows_of s r)) rows

abbrev value_bounds : RawDb → List SortId → List ℕ
value_bounds d params = map (λ (sort : SortId). size_of d sort + 1) params

module _ (d : RawDb) (s : State) where
  rows_below : (rows : List RelId) (chosen : List ℕ) → AreRows s rows chosen → AreBelow (row_bounds s rows) chosen
  rows_below rows chosen are = record {
    as_many = are.as_many ∙ sym (length-map rows (λ (r : RelId). length (rows_of s r)));
    each = λ k within.
        let lt : k < length rows = subst (λ (n : ℕ). k < n) (length-map rows (λ (r : RelId). length (rows_of s r))) within in
        let r : RelId = get_or rows k (record { n = 0 }) in
        subst (λ (n : ℕ). get_or chosen k 0 < n) (sym (get_or-map (λ (q : RelId). length (rows_of s q)) rows k (record { n = 0 }) 0 lt))
        (are.each k r (slice_get-get_or rows k (record { n = 0 }) lt));
  }

  values_below : (params : List SortId) (values : List ℕ) → AreElements d params values → AreBelow (value_bounds d params) values
  values_below params values are = record {
    as_many = are.as_many ∙ sym (length-map params (λ (sort : SortId). size_of d sort + 1));
    each = λ k within.
        let lt : k < length params = subst (λ (n : ℕ). k < n) (length-map params (λ (sort : SortId). size_of d sort + 1)) within in
        let le : get_or values k 0 ≤ size_of d (get_or params k (record { n = 0 })) = are.each k (get_or params k (record { n = 0 })) (slice_get-get_or params k (record { n = 0 }) lt) in
        subst (λ (n : ℕ). get_or values k 0 < n) (sym (get_or-map (λ (sort : SortId). size_of d sort + 1) params k (record { n = 0 }) 0 lt)) (omega (arith, le));
  }

  -- a formula holds of a choice where a transition with it as its guard has a step
  abbrev asked : Problem → Transition
  asked p = record { rows = p.rows; params = p.params; guard = p.literals ∷ []; updates = []; bulk = [] }

  abbrev chosen_by : List ℕ → List ℕ → Choice
  chosen_by rows values = record { transition = 0; rows = rows; values = values }

  abbrev MeetsWith : Problem → List ℕ → List ℕ → Type 0
  MeetsWith p rows values = AreRows s p.rows rows × AreElements d p.params values × AllHold d (values_at s p.rows rows values) p.literals

  abbrev ByRows : Problem → List ℕ → Type 0
  ByRows p rows = (values : List ℕ) × AreBelow (value_bounds d p.params) values × MeetsWith p rows values

  -- no step where there is a fault, of a system with that transition alone
  module _ (no_step : (system : SystemParts) (c : Choice) (f : StepFault) → IsStepFault system d s c f → (¬ IsMemory f) → (next : State) → ¬ IsStep system d s c next)
      (system : SystemParts) where
    decided_with : (p : Problem) (rows values : List ℕ) → Decided (MeetsWith p rows values)
    decided_with p rows values = go (steps.judged d (asked p) s (chosen_by rows values))
      where
        one : SystemParts
        one = record system { transitions = asked p ∷ [] }

        first : Any (AllHold d (values_at s p.rows rows values)) (p.literals ∷ []) → AllHold d (values_at s p.rows rows values) p.literals
        first any = at any.0 any.1 any.2 any.3 any.4
          where
            at : (k : ℕ) (ls : List _) → k < length (p.literals ∷ []) → get_or (p.literals ∷ []) k ls ≡ ls → AllHold d (values_at s p.rows rows values) ls → AllHold d (values_at s p.rows rows values) p.literals
            at zero ls lt is all = subst (λ (q : List _). AllHold d (values_at s p.rows rows values) q) (sym is) all
            at (suc k) ls lt is all = absurd (omega (arith, lt))

        go : HasStep d (asked p) s (chosen_by rows values) ⊎ ((f : StepFault) × IsFaultOf d (asked p) s (chosen_by rows values) f × (¬ IsMemory f)) → Decided (MeetsWith p rows values)
        go (inl has) = inl (has.rows, has.params, first has.guard)
        go (inr f) = inr (λ with.
            no_step one (chosen_by rows values) f.0 (fault_of_choice one d s (chosen_by rows values) (asked p) f.0 refl f.1) f.2 (state_after d (asked p) s (chosen_by rows values))
            (asked p, refl, record { rows = with.0; params = with.1; guard = (0, p.literals, omega arith, refl, with.2); after = refl }))

    decided_meets : (p : Problem) → Decided (Meets d s p)
    decided_meets p =
        by_both (λ some. (some.0, some.2.0, some.2.2.0, some.2.2.1, some.2.2.2))
        (λ meets. (meets.0, rows_below p.rows meets.0 meets.2, (meets.1, values_below p.params meets.1 meets.3, (meets.2, meets.3, meets.4))))
        (decided_numbers (row_bounds s p.rows) (ByRows p) (λ rows. decided_numbers (value_bounds d p.params) (MeetsWith p rows) (decided_with p rows)))

    pub decided_goals : (goals : List Problem) → Decided (MeetsAny d s goals)
    decided_goals goals = decided_any (Meets d s) decided_meets goals (record { rows = []; params = []; literals = [] })

module _ (system : SystemParts) (d : RawDb) where
  -- a step, or its first fault
  judged_step : (s : State) (c : Choice) → ((next : State) × IsStep system d s c next) ⊎ ((f : StepFault) × IsStepFault system d s c f × (¬ IsMemory f))
  judged_step s c = go (slice_get system.transitions c.transition) refl
    where
      no_such : {A : Type 0} (xs : List A) (k : ℕ) → slice_get xs k ≡ None → length xs ≤ k
      no_such [] k e = omega arith
      no_such (x ∷ xs) zero e = absurd (cc)
      no_such (x ∷ xs) (suc k) e = let le = no_such xs k e in omega (arith, le)

      by_transition : (t : Transition) → slice_get system.transitions c.transition ≡ Some t → HasStep d t s c ⊎ ((f : StepFault) × IsFaultOf d t s c f × (¬ IsMemory f))
          → ((next : State) × IsStep system d s c next) ⊎ ((f : StepFault) × IsStepFault system d s c f × (¬ IsMemory f))
      by_transition t known (inl has) = inl (state_after d t s c, (t, known, record { rows = has.rows; params = has.params; guard = has.guard; after = refl }))
      by_transition t known (inr f) = inr (f.0, fault_of_choice system d s c t f.0 known f.1, f.2)

      go : (o : Option Transition) → slice_get system.transitions c.transition ≡ o
          → ((next : State) × IsStep system d s c next) ⊎ ((f : StepFault) × IsStepFault system d s c f × (¬ IsMemory f))
      go None e = inr (NoTransition, no_such system.transitions c.transition e, λ h. h)
      go (Some t) known = by_transition t known (steps.judged d t s c)

  -- a run, or its first fault
  abbrev pub HasRefusal : State → List Choice → Type 0
  HasRefusal start choices = (f : ReplayFault) × IsReplayFault system d start choices f × (¬ IsMemory f.fault)

  pub judged_run : (start : State) (choices : List Choice) → ((last : State) × IsRun system d start choices last) ⊎ HasRefusal start choices
  judged_run start [] = inl (start, refl)
  judged_run start (c ∷ choices) = go (judged_step start c) (λ next. judged_run next choices)
    where
      later : (next : State) → IsStep system d start c next → ((last : State) × IsRun system d next choices last) ⊎ HasRefusal next choices
          → ((last : State) × IsRun system d start (c ∷ choices) last) ⊎ HasRefusal start (c ∷ choices)
      later next step (inl run) = inl (run.0, (next, step, run.1))
      later next step (inr f) =
          inr (record { at = suc f.0.at; fault = f.0.fault }, record { before = f.1.before; run = (next, step, f.1.run); refused = f.1.refused }, f.2)

      go : ((next : State) × IsStep system d start c next) ⊎ ((f : StepFault) × IsStepFault system d start c f × (¬ IsMemory f))
          → ((next : State) → ((last : State) × IsRun system d next choices last) ⊎ HasRefusal next choices)
          → ((last : State) × IsRun system d start (c ∷ choices) last) ⊎ HasRefusal start (c ∷ choices)
      go (inl step) rest = later step.0 step.1 (rest step.0)
      go (inr f) rest = inr (record { at = 0; fault = f.0 }, record { before = start; run = refl; refused = f.1 }, f.2)

  module _ (no_step : (other : SystemParts) (s : State) (c : Choice) (f : StepFault) → IsStepFault other d s c f → (¬ IsMemory f) → (next : State) → ¬ IsStep other d s c next)
      (run : Run) where
    abbrev HasFault : Type 0
    HasFault = (f : ViolationFault) × IsViolationFault system d run f

    ended : Begins system d run → (last : State) → IsRun system d run.start run.choices last → Decided (MeetsAny d last system.goals) → IsGoodViolation system d run ⊎ HasFault
    ended begins last leads (inl goal) = inl (last, record { database = begins.database; initial = begins.initial; run = leads; goal = goal })
    ended begins last leads (inr none) = inr (fault.EndNotUnsafe, (begins, (last, leads, none)))

    followed : Begins system d run → ((last : State) × IsRun system d run.start run.choices last) ⊎ HasRefusal run.start run.choices → IsGoodViolation system d run ⊎ HasFault
    followed begins (inl leads) = ended begins leads.0 leads.1 (decided_goals d leads.0 (λ other. no_step other leads.0) system system.goals)
    followed begins (inr f) = inr (fault.Step f.0, (begins, f.1, f.2))

    begun : IsDatabase system.shape.schema d → IsState system.shape d run.start → Decided (IsInitial system d run.start) → IsGoodViolation system d run ⊎ HasFault
    begun is state (inl initial) = followed (record { database = is; initial = initial }) (judged_run run.start run.choices)
    begun is state (inr none) = inr (fault.StartNotInitial, (is, state, none))

    fitting : IsDatabase system.shape.schema d → Decided (IsState system.shape d run.start) → IsGoodViolation system d run ⊎ HasFault
    fitting is (inl state) = begun is state (decided_initial system d run.start state)
    fitting is (inr none) = inr (fault.StartNotFitting, (is, none))

    judged : IsDatabase system.shape.schema d ⊎ ((f : DbFault) × IsDatabaseFault system.shape.schema d f) → IsGoodViolation system d run ⊎ HasFault
    judged (inl is) = fitting is (decided_state system.shape d run.start)
    judged (inr f) = inr (fault.Database f.0, f.1)

    pub good_or_fault : IsGoodViolation system d run ⊎ HasFault
    good_or_fault = judged (database.judged system.shape.schema d)

    pub fault_of : (¬ IsGoodViolation system d run) → HasFault
    fault_of none = go good_or_fault
      where
        go : IsGoodViolation system d run ⊎ HasFault → HasFault
        go (inl good) = absurd (none good)
        go (inr f) = f
