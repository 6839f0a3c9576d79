-- What is met first, and what is told of it.
use Rattle.std.proofs.Common.{◌≡◌, ℕ, ◌<◌, List, take, refl, sym, subst, arith, ◌⊎◌, inl, inr}
use Rattle.std.specs.Prelude.{slice_get, Option, Some, None, Result, Ok, Err, IfOk, IfSome, IfNone, All}
use Rattle.std.proofs.lemmas.Option.{same_Some}
use Rattle.std.proofs.lemmas.Bool.{cases_order}
use Rattle.ras_logic.specs.declared.raw_db.RawDb.{RawDb}
use Rattle.ras_logic.specs.declared.problem.Problem.{Problem}
use Rattle.ras_logic.proofs.Elements.{from_known}
use Rattle.ras_system.specs.declared.state.State.{State}
use Rattle.ras_system.specs.Systems.{SystemParts}
use Rattle.ras_system.specs.States.{Meets, MeetsAny}
use Rattle.ras_evidence.specs.declared.value.Entry.{Entry}
use Rattle.ras_violation.specs.declared.violation_fault.ViolationFault.{ViolationFault}
use Rattle.ras_violation.specs.declared.violation_fault.ViolationFault.TheVariants as fault
use Rattle.ras_violation.specs.declared.violation_fault.ViolationError.TheVariants.{Fault}
use Rattle.ras_violation.specs.Violations.{MeetsNone}
use Rattle.ras_violation.specs.ViolationFaults.{OnEnd}
use Rattle.ras_violation.proofs.Paths.{read_front}
use Rattle.ras_spent.specs.declared.spent_fault.EntryFault.{EntryFault}
use Rattle.ras_spent.specs.declared.spent_fault.EntryFault.TheVariants as entry_fault
use Rattle.ras_spent.specs.Entries.{MeetsNoEntry, StartsWell}
use Rattle.ras_spent.specs.EntryFaults.{IsFirstMetEntry, IsRunFault, IsEntryFault}

-- what is said of what was found, or of what was not
pub none_as : {A E : Type 0} (P Q : Type 0) → (P → Q) → (r : Result (Option A) E) → IfOk r (λ o. IfNone o P) → IfOk r (λ o. IfNone o Q)
none_as P Q f (Ok None) h = f h
none_as P Q f (Ok (Some x)) h = h
none_as P Q f (Err e) h = h

pub some_as : {A E : Type 0} (P Q : A → Type 0) → ((x : A) → P x → Q x) → (r : Result (Option A) E) → IfOk r (λ o. IfSome o P) → IfOk r (λ o. IfSome o Q)
some_as P Q f (Ok None) h = h
some_as P Q f (Ok (Some x)) h = f x h
some_as P Q f (Err e) h = h

-- the fault of the run of an entry that starts well
pub run_told : (system : SystemParts) (earlier : List Entry) (e : Entry) → StartsWell system earlier e
    → (f : EntryFault) → IsRunFault system e.db e.run f → IsEntryFault system earlier e f
run_told system earlier e starts (entry_fault.Step f) h = (starts, h)
run_told system earlier e starts entry_fault.EndNotUnsafe h = (starts, h)
run_told system earlier e starts entry_fault.NotFitting h = absurd h
run_told system earlier e starts entry_fault.Initial h = absurd h
run_told system earlier e starts (entry_fault.Database f) h = absurd h
run_told system earlier e starts entry_fault.StartNotFitting h = absurd h
run_told system earlier e starts entry_fault.Outside h = absurd h
run_told system earlier e starts (entry_fault.Earlier number) h = absurd h

module _ (d : RawDb) (s : State) where
  -- none of the formulas of entries is that of an entry that is met
  pub met_none : (entries : List Entry) (k : ℕ) → IsFirstMetEntry d s entries k → ¬ MeetsNoEntry d s entries
  met_none entries k first none = from_known (λ (e : Entry). ¬ Meets d s e.cube) entries none k first.entry first.known first.here

  no_later : (entries : List Entry) (j k : ℕ) → IsFirstMetEntry d s entries j → IsFirstMetEntry d s entries k → ¬ j < k
  no_later entries j k f g lt =
      from_known (λ (e : Entry). ¬ Meets d s e.cube) (take k entries) g.before j f.entry (subst (λ (o : _). o ≡ Some f.entry) (sym (read_front entries j k lt)) f.known) f.here

  pub one_met : (entries : List Entry) (j k : ℕ) → IsFirstMetEntry d s entries j → IsFirstMetEntry d s entries k → j ≡ k
  one_met entries j k f g = go (cases_order j k)
    where
      go : (j ≡ k) ⊎ ((j < k) ⊎ (k < j)) → j ≡ k
      go (inl e) = e
      go (inr (inl lt)) = absurd (no_later entries j k f g lt)
      go (inr (inr lt)) = absurd (no_later entries k j g f lt)

  pub no_goal : (goals : List Problem) → MeetsNone d s goals → ¬ MeetsAny d s goals
  no_goal goals none any = none any.0 any.1 any.2 (subst (Meets d s) (sym any.3) any.4)

  -- the fault that tells that no goal is met
  pub told_no_goal : (goals : List Problem) (f : ViolationFault) → OnEnd (Fault f) (MeetsNone d s goals) → ¬ MeetsAny d s goals
  told_no_goal goals fault.EndNotUnsafe none = no_goal goals none
  told_no_goal goals (fault.Step f) none = absurd none
  told_no_goal goals (fault.Database f) none = absurd none
  told_no_goal goals fault.StartNotFitting none = absurd none
  told_no_goal goals fault.StartNotInitial none = absurd none
