-- No two faults are the first.
use Rattle.std.proofs.Common.{◌≡◌, ℕ, ◌<◌, List, [], ◌∷◌, ◌++◌, take, refl, sym, ◌∙◌, ap, subst, arith, ◌⊎◌, inl, inr}
use Rattle.std.specs.Prelude.{slice_get, Some}
use Rattle.std.proofs.lemmas.Option.{same_Some}
use Rattle.std.proofs.lemmas.Bool.{cases_order}
use Rattle.ras_system.specs.Systems.{SystemParts}
use Rattle.ras_steps.specs.declared.replay_fault.ReplayFault.{ReplayFault}
use Rattle.ras_evidence.specs.declared.value.Entry.{Entry}
use Rattle.ras_violation.proofs.OneFault.{NoDatabase, NoStep, OneDatabaseFault, OneStepFault, one_refusal}
use Rattle.ras_violation.proofs.Paths.{not_all, take_twice, read_front}
use Rattle.ras_spent.specs.declared.spent_fault.EntryFault.{EntryFault}
use Rattle.ras_spent.specs.declared.spent_fault.EntryFault.TheVariants as fault
use Rattle.ras_spent.specs.declared.spent_fault.SpentFault.{SpentFault}
use Rattle.ras_spent.specs.Entries.{IsGoodEntry}
use Rattle.ras_spent.specs.EntryFaults.{IsRunFault, IsEntryFault, IsFirstBad, IsSpentFault}
use Rattle.ras_spent.proofs.MetEntries.{met_none, one_met}
use Rattle.ras_spent.proofs.NotGood.{no_good_entry}

module _ (no_database : NoDatabase) (one_database : OneDatabaseFault) (no_step : NoStep) (one_step : OneStepFault) (system : SystemParts) where
  module _ (earlier : List Entry) (e : Entry) where
    abbrev Refused : ReplayFault → Type 0
    Refused f = IsRunFault system e.db e.run (fault.Step f)

    no_run : (f : ReplayFault) → Refused f → ¬ IsRunFault system e.db e.run fault.EndNotUnsafe
    no_run f h end = not_all system e.db (no_step system e.db) e.run.start e.run.choices f h.0 h.1 end.0 end.1

    one_step_fault : (f g : ReplayFault) → Refused f → Refused g → f ≡ g
    one_step_fault f g hf hg = one_refusal no_database no_step system e.db e.run one_database one_step f g hf.0 hg.0 hf.1 hg.1

    one_entry_fault : (f g : EntryFault) → IsEntryFault system earlier e f → IsEntryFault system earlier e g → f ≡ g
    one_entry_fault fault.NotFitting fault.NotFitting hf hg = refl
    one_entry_fault fault.NotFitting fault.Initial hf hg = absurd (hf hg.0)
    one_entry_fault fault.NotFitting (fault.Database g) hf hg = absurd (hf hg.0.fits)
    one_entry_fault fault.NotFitting fault.StartNotFitting hf hg = absurd (hf hg.0.formula.fits)
    one_entry_fault fault.NotFitting fault.Outside hf hg = absurd (hf hg.0.placed.formula.fits)
    one_entry_fault fault.NotFitting (fault.Earlier k) hf hg = absurd (hf hg.0.placed.formula.fits)
    one_entry_fault fault.NotFitting (fault.Step g) hf hg = absurd (hf hg.0.formula.fits)
    one_entry_fault fault.NotFitting fault.EndNotUnsafe hf hg = absurd (hf hg.0.formula.fits)
    one_entry_fault fault.Initial fault.NotFitting hf hg = absurd (hg hf.0)
    one_entry_fault fault.Initial fault.Initial hf hg = refl
    one_entry_fault fault.Initial (fault.Database g) hf hg = absurd (hg.0.away hf.1)
    one_entry_fault fault.Initial fault.StartNotFitting hf hg = absurd (hg.0.formula.away hf.1)
    one_entry_fault fault.Initial fault.Outside hf hg = absurd (hg.0.placed.formula.away hf.1)
    one_entry_fault fault.Initial (fault.Earlier k) hf hg = absurd (hg.0.placed.formula.away hf.1)
    one_entry_fault fault.Initial (fault.Step g) hf hg = absurd (hg.0.formula.away hf.1)
    one_entry_fault fault.Initial fault.EndNotUnsafe hf hg = absurd (hg.0.formula.away hf.1)
    one_entry_fault (fault.Database f) fault.NotFitting hf hg = absurd (hg hf.0.fits)
    one_entry_fault (fault.Database f) fault.Initial hf hg = absurd (hf.0.away hg.1)
    one_entry_fault (fault.Database f) (fault.Database g) hf hg = ap fault.Database (one_database system.shape.schema e.db f g hf.1 hg.1)
    one_entry_fault (fault.Database f) fault.StartNotFitting hf hg = absurd (no_database system.shape.schema e.db f hf.1 hg.0.database)
    one_entry_fault (fault.Database f) fault.Outside hf hg = absurd (no_database system.shape.schema e.db f hf.1 hg.0.placed.database)
    one_entry_fault (fault.Database f) (fault.Earlier k) hf hg = absurd (no_database system.shape.schema e.db f hf.1 hg.0.placed.database)
    one_entry_fault (fault.Database f) (fault.Step g) hf hg = absurd (no_database system.shape.schema e.db f hf.1 hg.0.database)
    one_entry_fault (fault.Database f) fault.EndNotUnsafe hf hg = absurd (no_database system.shape.schema e.db f hf.1 hg.0.database)
    one_entry_fault fault.StartNotFitting fault.NotFitting hf hg = absurd (hg hf.0.formula.fits)
    one_entry_fault fault.StartNotFitting fault.Initial hf hg = absurd (hf.0.formula.away hg.1)
    one_entry_fault fault.StartNotFitting (fault.Database g) hf hg = absurd (no_database system.shape.schema e.db g hg.1 hf.0.database)
    one_entry_fault fault.StartNotFitting fault.StartNotFitting hf hg = refl
    one_entry_fault fault.StartNotFitting fault.Outside hf hg = absurd (hf.1 hg.0.state)
    one_entry_fault fault.StartNotFitting (fault.Earlier k) hf hg = absurd (hf.1 hg.0.state)
    one_entry_fault fault.StartNotFitting (fault.Step g) hf hg = absurd (hf.1 hg.0.state)
    one_entry_fault fault.StartNotFitting fault.EndNotUnsafe hf hg = absurd (hf.1 hg.0.state)
    one_entry_fault fault.Outside fault.NotFitting hf hg = absurd (hg hf.0.placed.formula.fits)
    one_entry_fault fault.Outside fault.Initial hf hg = absurd (hf.0.placed.formula.away hg.1)
    one_entry_fault fault.Outside (fault.Database g) hf hg = absurd (no_database system.shape.schema e.db g hg.1 hf.0.placed.database)
    one_entry_fault fault.Outside fault.StartNotFitting hf hg = absurd (hg.1 hf.0.state)
    one_entry_fault fault.Outside fault.Outside hf hg = refl
    one_entry_fault fault.Outside (fault.Earlier k) hf hg = absurd (hf.1 hg.1)
    one_entry_fault fault.Outside (fault.Step g) hf hg = absurd (hf.1 hg.0.own)
    one_entry_fault fault.Outside fault.EndNotUnsafe hf hg = absurd (hf.1 hg.0.own)
    one_entry_fault (fault.Earlier j) fault.NotFitting hf hg = absurd (hg hf.0.placed.formula.fits)
    one_entry_fault (fault.Earlier j) fault.Initial hf hg = absurd (hf.0.placed.formula.away hg.1)
    one_entry_fault (fault.Earlier j) (fault.Database g) hf hg = absurd (no_database system.shape.schema e.db g hg.1 hf.0.placed.database)
    one_entry_fault (fault.Earlier j) fault.StartNotFitting hf hg = absurd (hg.1 hf.0.state)
    one_entry_fault (fault.Earlier j) fault.Outside hf hg = absurd (hg.1 hf.1)
    one_entry_fault (fault.Earlier j) (fault.Earlier k) hf hg = ap fault.Earlier (one_met e.db e.run.start earlier j k hf.2 hg.2)
    one_entry_fault (fault.Earlier j) (fault.Step g) hf hg = absurd (met_none e.db e.run.start earlier j hf.2 hg.0.new)
    one_entry_fault (fault.Earlier j) fault.EndNotUnsafe hf hg = absurd (met_none e.db e.run.start earlier j hf.2 hg.0.new)
    one_entry_fault (fault.Step f) fault.NotFitting hf hg = absurd (hg hf.0.formula.fits)
    one_entry_fault (fault.Step f) fault.Initial hf hg = absurd (hf.0.formula.away hg.1)
    one_entry_fault (fault.Step f) (fault.Database g) hf hg = absurd (no_database system.shape.schema e.db g hg.1 hf.0.database)
    one_entry_fault (fault.Step f) fault.StartNotFitting hf hg = absurd (hg.1 hf.0.state)
    one_entry_fault (fault.Step f) fault.Outside hf hg = absurd (hg.1 hf.0.own)
    one_entry_fault (fault.Step f) (fault.Earlier k) hf hg = absurd (met_none e.db e.run.start earlier k hg.2 hf.0.new)
    one_entry_fault (fault.Step f) (fault.Step g) hf hg = ap fault.Step (one_step_fault f g hf.1 hg.1)
    one_entry_fault (fault.Step f) fault.EndNotUnsafe hf hg = absurd (no_run f hf.1 hg.1)
    one_entry_fault fault.EndNotUnsafe fault.NotFitting hf hg = absurd (hg hf.0.formula.fits)
    one_entry_fault fault.EndNotUnsafe fault.Initial hf hg = absurd (hf.0.formula.away hg.1)
    one_entry_fault fault.EndNotUnsafe (fault.Database g) hf hg = absurd (no_database system.shape.schema e.db g hg.1 hf.0.database)
    one_entry_fault fault.EndNotUnsafe fault.StartNotFitting hf hg = absurd (hg.1 hf.0.state)
    one_entry_fault fault.EndNotUnsafe fault.Outside hf hg = absurd (hg.1 hf.0.own)
    one_entry_fault fault.EndNotUnsafe (fault.Earlier k) hf hg = absurd (met_none e.db e.run.start earlier k hg.2 hf.0.new)
    one_entry_fault fault.EndNotUnsafe (fault.Step g) hf hg = absurd (no_run g hg.1 hf.1)
    one_entry_fault fault.EndNotUnsafe fault.EndNotUnsafe hf hg = refl

  module _ (entries : List Entry) where
    -- a later entry is not the first that is not good
    no_later : (f g : SpentFault) → IsFirstBad system entries f → IsFirstBad system entries g → ¬ f.entry < g.entry
    no_later f g hf hg lt =
        let known : slice_get (take g.entry entries) f.entry ≡ Some hf.entry = read_front entries f.entry g.entry lt ∙ hf.known in
        no_good_entry no_database no_step system (take f.entry entries) hf.entry f.fault hf.here
        (subst (λ (es : List Entry). IsGoodEntry system es hf.entry) (take_twice entries f.entry g.entry (omega (arith, lt))) (hg.before f.entry hf.entry known))

    one_bad : (f g : SpentFault) → IsFirstBad system entries f → IsFirstBad system entries g → f ≡ g
    one_bad f g hf hg = go (cases_order f.entry g.entry)
      where
        same : f.entry ≡ g.entry → f.fault ≡ g.fault
        same at =
            let one : hf.entry ≡ hg.entry = same_Some hf.entry hg.entry (sym hf.known ∙ ap (λ (n : ℕ). slice_get entries n) at ∙ hg.known) in
            one_entry_fault (take g.entry entries) hg.entry f.fault g.fault
            (subst (λ (x : Entry). IsEntryFault system (take g.entry entries) x f.fault) one
            (subst (λ (n : ℕ). IsEntryFault system (take n entries) hf.entry f.fault) at hf.here)) hg.here

        go : (f.entry ≡ g.entry) ⊎ ((f.entry < g.entry) ⊎ (g.entry < f.entry)) → f ≡ g
        go (inl at) = ap (λ (n : ℕ). record { entry = n; fault = f.fault }) at ∙ ap (λ (x : EntryFault). record { entry = g.entry; fault = x }) (same at)
        go (inr (inl lt)) = absurd (no_later f g hf hg lt)
        go (inr (inr lt)) = absurd (no_later g f hg hf lt)

  pub one_fault : (entries : List Entry) (spill : Entry) (f g : SpentFault) → IsSpentFault system entries spill f → IsSpentFault system entries spill g → f ≡ g
  one_fault entries spill f g hf hg = one_bad (entries ++ spill ∷ []) f g hf hg
