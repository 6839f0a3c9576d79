-- Answers of a store that cannot come, and submissions that are there.
use Rattle.std.proofs.Common.{◌≡◌, ℕ, zero, suc, ◌<◌, Bool, true, List, [], ◌∷◌, ◌++◌, length, set, map, refl, sym, subst, arith, ⊎_elim}
use Rattle.std.specs.Prelude.{slice_get, Some, None}
use Rattle.std.proofs.lemmas.List.Elements.{Contains-push}
use Rattle.std.proofs.lemmas.Option.{slice_get_within}
use Rattle.ras_logic.specs.declared.problem.Problem.{Problem}
use Rattle.ras_system.specs.States.{Meets}
use Rattle.ras_steps.specs.declared.witness.Witness.{Witness}
use Rattle.ras_core.specs.declared.event.Event.TheVariants as event
use Rattle.ras_core.specs.CoreStates.{EntryParts, CoreParts, IsEntry, cubes_of, with_submission, admitted}
use Rattle.ras_core.specs.Sound.{IsSound}
use Rattle.ras_core.proofs.Journals.{journal-sound}
use Rattle.ras_core.proofs.Lists.{any-at, changed-same, changed-other, at-append, at-end}
use Rattle.ras_store.specs.declared.named.Named.{Named}
use Rattle.ras_store.specs.declared.site.Site.{Site}
use Rattle.ras_store.specs.declared.site.Site.TheVariants as site
use Rattle.ras_store.specs.declared.outcome.Admitted.{Admitted}
use Rattle.ras_store.specs.declared.outcome.Admitted.TheVariants as answer
use Rattle.ras_store.specs.declared.outcome.Skipped.TheVariants as skipped
use Rattle.ras_store.specs.Comparing.{MeetsNone}
use Rattle.ras_store.specs.Holding.{HasSpill, IsGoodSite, IsGoneSite, AreKept, IsFirstLost}
use Rattle.ras_store.specs.Lawful.{IsLawfulStore}
use Rattle.ras_store.specs.Outcomes.{IsSkipping, IsNoted, IsAdmission, IsFull, IsIn}
use Rattle.ras_store.specs.Sites.{origin_of, ComesFromSite}
use Rattle.ras_store.specs.Stores.{StoreParts, with_event, with_entry, with_spill}
use Rattle.ras_submit.specs.Submitting.{IsSubmission, IsSubmitted, IsEntered, IsSpilled}
use Rattle.ras_submit.proofs.Progress.{goes_on-refl, skip-goes_on, entry-goes_on, spill-goes_on}

-- answers that cannot come

not-gone : (s : StoreParts) (at : Site) (number : ℕ) → IsGoodSite s at → ¬ IsGoneSite s at number
not-gone s (site.Goal disjunct) number good gone = gone
not-gone s (site.Step ticket transition) number good gone = gone.gone good

not-lost : (s : CoreParts) (names : List Named) (number : ℕ) → AreKept s names → ¬ IsFirstLost s names number
not-lost s names number kept lost = lost.first.bad lost.lost (kept.each lost.place lost.lost lost.first.within)

pub not-refused : (old new : StoreParts) (at : Site) (cube : Problem) (reasons : List Named) (number : ℕ) → IsGoodSite old at → AreKept old.state reasons
    → ¬ IsSkipping old new at cube reasons (skipped.Gone number)
not-refused old new at cube reasons number good kept refused =
    ⊎_elim (λ (gone : IsGoneSite old at number). not-gone old at number good gone) (λ lost. not-lost old.state reasons number kept lost.1) refused.lost

-- submissions that are there

set-true : (marks : List Bool) (i : ℕ) → i < length marks → slice_get (set marks i true) i ≡ Some true
set-true [] i lt = absurd (omega (arith, lt))
set-true (m ∷ marks) zero lt = refl
set-true (m ∷ marks) (suc i) lt = set-true marks i (omega (arith, lt))

module _ (s : StoreParts) (lawful : IsLawfulStore s) where
  sound : IsSound s.system s.budget s.state
  sound = journal-sound s.system s.budget s.state.base s.journal s.state lawful.replays

  -- a skip of a cube from a good site
  skip-submission : (at : Site) (cube : Problem) (reasons : List ℕ) → ComesFromSite s.system at cube → IsGoodSite s at → IsSubmission (with_event s (event.Skip (origin_of at) cube reasons)) at cube
  skip-submission (site.Goal disjunct) cube reasons comes good =
      set-true s.state.submitted disjunct (let lt = slice_get_within s.system.goals disjunct cube comes in omega (arith, lt, sound.each_goal))
  skip-submission (site.Step ticket transition) cube reasons comes good =
      (with_submission cube good.entry, changed-same (with_submission cube) ticket.now.entry s.state.entries good.entry good.at.0, Contains-push good.entry.submissions cube)

  pub noted-submitted : (new : StoreParts) (at : Site) (cube : Problem) (reasons : List Named) → ComesFromSite s.system at cube → IsNoted s new at cube reasons → IsSubmitted s new at cube
  noted-submitted new at cube reasons comes noted =
      let numbers : List ℕ = map (λ (n : Named). n.number) reasons in
      subst (λ (t : StoreParts). IsSubmitted s t at cube) (sym noted.event)
      (record { goes_on = skip-goes_on s (origin_of at) cube numbers; submission = skip-submission at cube numbers comes noted.good })

  -- a new entry from a good site
  entry-submission : (at : Site) (cube : Problem) (w : Witness) → ComesFromSite s.system at cube → IsGoodSite s at → IsSubmission (with_entry s (origin_of at) cube w) at cube
  entry-submission (site.Goal disjunct) cube w comes good =
      set-true s.state.submitted disjunct (let lt = slice_get_within s.system.goals disjunct cube comes in omega (arith, lt, sound.each_goal))
  entry-submission (site.Step ticket transition) cube w comes good =
      let entries : List EntryParts = s.state.entries ++ admitted (origin_of (site.Step ticket transition)) cube ∷ [] in (
        with_submission cube good.entry,
        changed-same (with_submission cube) ticket.now.entry entries good.entry
            (at-append s.state.entries (admitted (origin_of (site.Step ticket transition)) cube ∷ []) ticket.now.entry good.entry good.at.0),
        Contains-push good.entry.submissions cube,
      )

  entry-at : (at : Site) (cube : Problem) (w : Witness) → IsGoodSite s at → IsEntry (with_entry s (origin_of at) cube w).state (length s.state.entries) (admitted (origin_of at) cube)
  entry-at (site.Goal disjunct) cube w good = at-end s.state.entries (admitted (origin_of (site.Goal disjunct)) cube)
  entry-at (site.Step ticket transition) cube w good =
      let e : EntryParts = admitted (origin_of (site.Step ticket transition)) cube in
      changed-other (with_submission cube) ticket.now.entry (length s.state.entries) (s.state.entries ++ e ∷ []) e
      (λ same. absurd (let lt = slice_get_within s.state.entries ticket.now.entry good.entry good.at.0 in omega (arith, lt, same)))
      (at-end s.state.entries e)

  pub in-entered : (new : StoreParts) (at : Site) (cube : Problem) (w : Witness) (number : ℕ) → ComesFromSite s.system at cube → IsGoodSite s at → IsIn s new at cube w number
      → IsEntered s new at cube number
  in-entered new at cube w number comes good is_in =
      subst (λ (t : StoreParts). IsEntered s t at cube number) (sym is_in.event)
      (record {
        submitted = record { goes_on = entry-goes_on s (origin_of at) cube w; submission = entry-submission at cube w comes good };
        entry = admitted (origin_of at) cube;
        kept = (
          subst (λ (n : ℕ). IsEntry (with_entry s (origin_of at) cube w).state n (admitted (origin_of at) cube)) (sym is_in.is) (entry-at at cube w good),
          refl,
        );
        cube_is = refl;
      })

pub full-spilled : (old new : StoreParts) (at : Site) (cube : Problem) (w : Witness) (budget : ℕ) → IsFull old new at cube w budget → IsSpilled old new
full-spilled old new at cube w budget full =
    ⊎_elim
    (λ (first : (old.state.spill ≡ None) × (new ≡ with_spill old (origin_of at) cube w)).
    subst (IsSpilled old) (sym first.1)
    (record { goes_on = spill-goes_on old (origin_of at) cube w; spill = record { found = record { cube = cube; origin = origin_of at }; is = refl } }))
    (λ (later : HasSpill old.state × (new ≡ old)). subst (IsSpilled old) (sym later.1) (record { goes_on = goes_on-refl old; spill = later.0 }))
    full.event

-- what a store answers of a cube that may come and of which the witness meets no entry
pub certain : (old new : StoreParts) (at : Site) (cube : Problem) (w : Witness) → old.state.hit ≡ None → IsGoodSite old at → MeetsNone w.db w.state (cubes_of old.state)
    → (a : Admitted) → IsAdmission old new at cube w a → ((number : ℕ) → a ≡ answer.In number → ⊥) → ((budget : ℕ) → a ≡ answer.Full budget → ⊥) → ⊥
certain old new at cube w no_hit good none answer.Stopped h not_in not_full = let is = h.hit.is in absurd (cc)
certain old new at cube w no_hit good none (answer.Gone number) h not_in not_full = not-gone old at number good h.gone
certain old new at cube w no_hit good none (answer.Overtaken number) h not_in not_full = none.none (any-at (Meets w.db w.state) (cubes_of old.state) number h.met.cube h.met.at h.met.meets)
certain old new at cube w no_hit good none (answer.Full budget) h not_in not_full = not_full budget refl
certain old new at cube w no_hit good none (answer.In number) h not_in not_full = not_in number refl
