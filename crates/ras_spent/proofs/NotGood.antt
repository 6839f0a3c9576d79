-- A fault is of no good evidence.
use Rattle.std.proofs.Common.{List, [], ◌∷◌, ◌++◌, subst}
use Rattle.ras_system.specs.declared.state.State.{State}
use Rattle.ras_system.specs.Systems.{SystemParts}
use Rattle.ras_system.specs.States.{MeetsAny}
use Rattle.ras_evidence.specs.declared.value.Entry.{Entry}
use Rattle.ras_violation.proofs.OneFault.{NoDatabase, NoStep}
use Rattle.ras_violation.proofs.Paths.{one_run, not_all}
use Rattle.ras_spent.specs.declared.spent_fault.EntryFault.{EntryFault}
use Rattle.ras_spent.specs.declared.spent_fault.EntryFault.TheVariants as fault
use Rattle.ras_spent.specs.declared.spent_fault.SpentFault.{SpentFault}
use Rattle.ras_spent.specs.Entries.{IsGoodEntry, IsGoodSpent}
use Rattle.ras_spent.specs.EntryFaults.{IsEntryFault, IsSpentFault}
use Rattle.ras_spent.proofs.MetEntries.{met_none}

module _ (no_database : NoDatabase) (no_step : NoStep) (system : SystemParts) where
  pub no_good_entry : (earlier : List Entry) (e : Entry) (f : EntryFault) → IsEntryFault system earlier e f → ¬ IsGoodEntry system earlier e
  no_good_entry earlier e fault.NotFitting h good = h good.starts.formula.fits
  no_good_entry earlier e fault.Initial h good = good.starts.formula.away h.1
  no_good_entry earlier e (fault.Database f) h good = no_database system.shape.schema e.db f h.1 good.starts.database
  no_good_entry earlier e fault.StartNotFitting h good = h.1 good.starts.state
  no_good_entry earlier e fault.Outside h good = h.1 good.starts.own
  no_good_entry earlier e (fault.Earlier number) h good = met_none e.db e.run.start earlier number h.2 good.starts.new
  no_good_entry earlier e (fault.Step f) h good =
      not_all system e.db (no_step system e.db) e.run.start e.run.choices f h.1.0 h.1.1 good.leads.0 good.leads.1
  no_good_entry earlier e fault.EndNotUnsafe h good =
      h.1.2
      (subst (λ (s : State). MeetsAny e.db s system.goals) (one_run system e.db e.run.start e.run.choices good.leads.0 h.1.0 good.leads.1 h.1.1) good.leads.2)

  pub not_good : (entries : List Entry) (spill : Entry) (f : SpentFault) → IsSpentFault system entries spill f → ¬ IsGoodSpent system entries spill
  not_good entries spill f h good = no_good_entry _ h.entry f.fault h.here (good f.entry h.entry h.known)
