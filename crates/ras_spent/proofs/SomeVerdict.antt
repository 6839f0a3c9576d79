-- No evidence is without a verdict: where none were given, each thing that is looked for would be so.
use Rattle.std.proofs.Common.{◌≡◌, ℕ, zero, suc, ◌+◌, ◌<◌, ◌≤◌, List, [], ◌∷◌, length, take, get_or, refl, subst, arith, ◌⊎◌, inl, inr}
use Rattle.std.specs.Prelude.{slice_get, Some}
use Rattle.std.proofs.lemmas.Option.{slice_get-get_or}
use Rattle.std.proofs.lemmas.List.Elements.{All-cons}
use Rattle.ras_logic.specs.declared.raw_db.RawDb.{RawDb}
use Rattle.ras_logic.specs.Databases.{IsDatabase}
use Rattle.ras_system.specs.declared.state.State.{State}
use Rattle.ras_system.specs.Systems.{SystemParts}
use Rattle.ras_system.specs.States.{Meets}
use Rattle.ras_system.specs.Runs.{IsRun}
use Rattle.ras_database.specs.declared.db_fault.DbFault.{DbFault}
use Rattle.ras_database.specs.DatabaseFaults.{IsDatabaseFault}
use Rattle.ras_database.proofs.Judging as database
use Rattle.ras_evidence.specs.declared.value.Entry.{Entry}
use Rattle.ras_violation.proofs.Judged.{HasRefusal, judged_run}
use Rattle.ras_spent.specs.declared.spent_fault.EntryFault.{EntryFault}
use Rattle.ras_spent.specs.declared.spent_fault.EntryFault.TheVariants as fault
use Rattle.ras_spent.specs.Entries.{MeetsNoEntry, IsAway, StartsWell, IsGoodEntry, IsGoodSpent}
use Rattle.ras_spent.specs.EntryFaults.{IsPlaced, HasStart, IsFirstMetEntry, IsEntryFault, HasSpentFault}
use Rattle.ras_spent.proofs.GoodBelow.{AreGoodBelow, below_next, bad_entry, bad_spill, all_good}

abbrev NotNone : Type 0 → Type 0
NotNone P = ¬ (¬ P)

-- no entry's formula is met, or there is a first one
abbrev FirstOrNone : RawDb → State → List Entry → Type 0
FirstOrNone d s entries = MeetsNoEntry d s entries ⊎ ((number : ℕ) × IsFirstMetEntry d s entries number)

first_or_none : (d : RawDb) (s : State) (entries : List Entry) → NotNone (FirstOrNone d s entries)
first_or_none d s [] neither = neither (inl (λ k e lt. absurd (omega (arith, lt))))
first_or_none d s (e ∷ es) neither = first_or_none d s es go
  where
    not_here : ¬ Meets d s e.cube
    not_here met = neither (inr (zero, record { entry = e; known = refl; before = λ k x lt. absurd (omega (arith, lt)); here = met }))

    go : ¬ FirstOrNone d s es
    go (inl others) = neither (inl (All-cons (λ (x : Entry). ¬ Meets d s x.cube) e es not_here others))
    go (inr first) =
        neither
        (inr (
          suc first.0,
          record {
            entry = first.1.entry;
            known = first.1.known;
            before = All-cons (λ (x : Entry). ¬ Meets d s x.cube) e (take first.0 es) not_here first.1.before;
            here = first.1.here;
          },
        ))

module _ (system : SystemParts) where
  abbrev Verdict : List Entry → Entry → Type 0
  Verdict earlier e = IsGoodEntry system earlier e ⊎ ((f : EntryFault) × IsEntryFault system earlier e f)

  module _ (earlier : List Entry) (e : Entry) (neither : ¬ Verdict earlier e) where
    bad : (f : EntryFault) → ¬ IsEntryFault system earlier e f
    bad f h = neither (inr (f, h))

    module _ (starts : StartsWell system earlier e) where
      ended : ((last : State) × IsRun system e.db e.run.start e.run.choices last) ⊎ HasRefusal system e.db e.run.start e.run.choices → ⊥
      ended (inr refused) = bad (fault.Step refused.0) (starts, (refused.1, refused.2))
      ended (inl leads) =
          bad fault.EndNotUnsafe (starts, (leads.0, leads.1, λ met. neither (inl (record { starts = starts; leads = (leads.0, leads.1, met) }))))

    module _ (placed : IsPlaced system e) where
      started : HasStart system e → Meets e.db e.run.start e.cube → FirstOrNone e.db e.run.start earlier → ⊥
      started start own (inr first) = bad (fault.Earlier first.0) (start, own, first.1)
      started start own (inl new) =
          ended (record { formula = placed.formula; database = placed.database; state = start.state; own = own; new = new })
          (judged_run system e.db e.run.start e.run.choices)

      placed_well : ⊥
      placed_well =
          bad fault.StartNotFitting (
            placed,
            λ state.
                let start : HasStart system e = record { placed = placed; state = state } in
                bad fault.Outside (start, λ own. first_or_none e.db e.run.start earlier (started start own)),
          )

    found : IsAway system e.cube → IsDatabase system.shape.schema e.db ⊎ ((f : DbFault) × IsDatabaseFault system.shape.schema e.db f) → ⊥
    found away (inl is) = placed_well (record { formula = away; database = is })
    found away (inr f) = bad (fault.Database f.0) (away, f.1)

    none : ⊥
    none =
        bad fault.NotFitting
        (λ fits.
        found
        (record {
          fits = fits;
          away = λ met. bad fault.Initial (fits, met);
        })
        (database.judged system.shape.schema e.db))

  module _ (entries : List Entry) (spill : Entry) where
    abbrev Judged : ℕ → Type 0
    Judged n = AreGoodBelow system entries n ⊎ HasSpentFault system entries spill

    below : (n : ℕ) → n ≤ length entries → NotNone (Judged n)
    below zero le neither = neither (inl (λ k e lt known. absurd (omega (arith, lt))))
    below (suc n) le neither = below n (omega (arith, le)) go
      where
        e : Entry
        e = get_or entries n spill

        here : slice_get entries n ≡ Some e
        here = slice_get-get_or entries n spill (omega (arith, le))

        next : AreGoodBelow system entries n → ¬ Verdict (take n entries) e
        next good (inl one) = neither (inl (subst (AreGoodBelow system entries) (let s : n + 1 ≡ suc n = omega arith in s) (below_next system entries n e here good one)))
        next good (inr f) = neither (inr (record { entry = n; fault = f.0 }, bad_entry system entries spill n e f.0 here good f.1))

        go : ¬ Judged n
        go (inr f) = neither (inr f)
        go (inl good) = none (take n entries) e (next good)

    pub some_verdict : NotNone (IsGoodSpent system entries spill ⊎ HasSpentFault system entries spill)
    some_verdict neither = below (length entries) (omega arith) go
      where
        last : AreGoodBelow system entries (length entries) → ¬ Verdict entries spill
        last good (inl one) = neither (inl (all_good system entries spill good one))
        last good (inr f) = neither (inr (record { entry = length entries; fault = f.0 }, bad_spill system entries spill f.0 good f.1))

        go : ¬ Judged (length entries)
        go (inr f) = neither (inr f)
        go (inl good) = none entries spill (last good)
