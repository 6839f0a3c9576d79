-- The first thing that is wrong with an evidence of a spent budget.
use Rattle.std.specs.Prelude.{◌≡◌, ℕ, List, [], ◌∷◌, ◌++◌, take, slice_get, Some, ⊤}
use Rattle.ras_logic.specs.declared.raw_db.RawDb.{RawDb}
use Rattle.ras_logic.specs.Formulas.{Fits}
use Rattle.ras_logic.specs.Databases.{IsDatabase}
use Rattle.ras_system.specs.declared.state.State.{State}
use Rattle.ras_system.specs.Systems.{SystemParts}
use Rattle.ras_system.specs.States.{IsState, Meets, MeetsAny}
use Rattle.ras_system.specs.Runs.{IsRun}
use Rattle.ras_database.specs.DatabaseFaults.{IsDatabaseFault}
use Rattle.ras_steps.specs.declared.run.Run.{Run}
use Rattle.ras_steps.specs.declared.replay_fault.ReplayFault.{ReplayFault}
use Rattle.ras_steps.specs.ReplayFaults.{IsMemory, IsReplayFault}
use Rattle.ras_evidence.specs.declared.value.Entry.{Entry}
use Rattle.ras_spent.specs.declared.spent_fault.EntryFault.{EntryFault}
use Rattle.ras_spent.specs.declared.spent_fault.EntryFault.TheVariants as fault
use Rattle.ras_spent.specs.declared.spent_fault.SpentFault.{SpentFault}
use Rattle.ras_spent.specs.declared.spent_fault.SpentError.{SpentError}
use Rattle.ras_spent.specs.declared.spent_fault.SpentError.TheVariants.{Fault, Memory}
use Rattle.ras_spent.specs.Entries.{MeetsNoEntry, IsMetAtStart, IsAway, StartsWell, AreGoodEntries}

-- the state meets the formula of the entry of that number, and of none before it
pub record IsFirstMetEntry (d : RawDb) (s : State) (entries : List Entry) (number : ℕ) : Type 0 where
  pub entry : Entry
  pub known : slice_get entries number ≡ Some entry
  pub before : MeetsNoEntry d s (take number entries)
  pub here : Meets d s entry.cube

-- the fault is that refusal, which is none for want of memory
abbrev pub IsRefusal : ReplayFault → EntryFault → Type 0
IsRefusal refusal (fault.Step f) = (f ≡ refusal) × (¬ IsMemory refusal.fault)
IsRefusal refusal other = ⊥

-- what is wrong with a run first: a step, or the last state
abbrev pub IsRunFault : SystemParts → RawDb → Run → EntryFault → Type 0
IsRunFault system d run (fault.Step f) = IsReplayFault system d run.start run.choices f × (¬ IsMemory f.fault)
IsRunFault system d run fault.EndNotUnsafe = (last : State) × IsRun system d run.start run.choices last × (¬ MeetsAny d last system.goals)
IsRunFault system d run other = ⊥

-- the formula is in order, and the database is one
pub record IsPlaced (system : SystemParts) (e : Entry) : Type 0 where
  pub formula : IsAway system e.cube
  pub database : IsDatabase system.shape.schema e.db

-- and the first state is one of the database
pub record HasStart (system : SystemParts) (e : Entry) : Type 0 where
  pub placed : IsPlaced system e
  pub state : IsState system.shape e.db e.run.start

-- The formula, that it fits and then that no initial state meets it; the database; the first state, that it is one of the
-- database, meets the formula, and then none of those before; the steps; the last state.
abbrev pub IsEntryFault : SystemParts → List Entry → Entry → EntryFault → Type 0
IsEntryFault system earlier e fault.NotFitting = ¬ Fits system.shape e.cube
IsEntryFault system earlier e fault.Initial = Fits system.shape e.cube × IsMetAtStart system e.cube
IsEntryFault system earlier e (fault.Database f) = IsAway system e.cube × IsDatabaseFault system.shape.schema e.db f
IsEntryFault system earlier e fault.StartNotFitting = IsPlaced system e × (¬ IsState system.shape e.db e.run.start)
IsEntryFault system earlier e fault.Outside = HasStart system e × (¬ Meets e.db e.run.start e.cube)
IsEntryFault system earlier e (fault.Earlier number) =
    HasStart system e × Meets e.db e.run.start e.cube × IsFirstMetEntry e.db e.run.start earlier number
IsEntryFault system earlier e (fault.Step f) = StartsWell system earlier e × IsRunFault system e.db e.run (fault.Step f)
IsEntryFault system earlier e fault.EndNotUnsafe = StartsWell system earlier e × IsRunFault system e.db e.run fault.EndNotUnsafe

-- the first of the entries that is not good, with its first fault
pub record IsFirstBad (system : SystemParts) (entries : List Entry) (f : SpentFault) : Type 0 where
  pub entry : Entry
  pub known : slice_get entries f.entry ≡ Some entry
  pub before : AreGoodEntries system (take f.entry entries)
  pub here : IsEntryFault system (take f.entry entries) entry f.fault

-- what is wrong with the entries and the spill first
abbrev pub IsSpentFault : SystemParts → List Entry → Entry → SpentFault → Type 0
IsSpentFault system entries spill f = IsFirstBad system (entries ++ spill ∷ []) f

abbrev pub HasSpentFault : SystemParts → List Entry → Entry → Type 0
HasSpentFault system entries spill = (f : SpentFault) × IsSpentFault system entries spill f

-- where the error is a fault of the evidence
abbrev pub OnFault : SpentError → (SpentFault → Type 0) → Type 0
OnFault (Fault f) P = P f
OnFault (Memory e) P = ⊤
