-- Each event but a claim, a return and an end lets a store go on.
use Rattle.std.proofs.Common.{◌≡◌, ℕ, zero, suc, ◌<◌, ◌≤◌, Bool, true, List, [], ◌∷◌, ◌++◌, length, set, refl, sym, ◌∙◌, ap, subst, arith, ◌⊎◌, inl, inr, append_assoc}
use Rattle.std.specs.Prelude.{slice_get, Some}
use Rattle.std.proofs.lemmas.List.{append-nil}
use Rattle.std.proofs.lemmas.List.Elements.{Contains-append_left}
use Rattle.std.proofs.lemmas.Option.{slice_get_within, same_Some}
use Rattle.ras_logic.specs.declared.problem.Problem.{Problem}
use Rattle.ras_steps.specs.declared.witness.Witness.{Witness}
use Rattle.ras_core.specs.declared.origin.Origin.{Origin}
use Rattle.ras_core.specs.declared.origin.Origin.TheVariants.{Goal, Step}
use Rattle.ras_core.specs.declared.event.Event.{Event}
use Rattle.ras_core.specs.declared.event.Event.TheVariants as event
use Rattle.ras_core.specs.declared.work.Work.TheVariants.{Free}
use Rattle.ras_core.specs.CoreStates.{EntryParts, CoreParts, IsEntry, change, dropped, with_submission, admitted, admit, submit, changed}
use Rattle.ras_core.proofs.Lists.{at-append, each-append, length-change}
use Rattle.ras_store.specs.Stores.{StoreParts, with_event, with_entry, with_hit, with_spill}
use Rattle.ras_submit.specs.Progress.{IsLater, StateGoesOn, GoesOn}

-- entries

later-refl : (e : EntryParts) → IsLater e e
later-refl e = record { cube = refl; work = refl; kept = λ k. k; submissions = λ c among. among }

later-trans : (a b c : EntryParts) → IsLater a b → IsLater b c → IsLater a c
later-trans a b c f g = record {
  cube = g.cube ∙ f.cube;
  work = g.work ∙ f.work;
  kept = λ k. f.kept (g.kept k);
  submissions = λ q among. g.submissions q (f.submissions q among);
}

later-dropped : (e : EntryParts) → IsLater e (dropped e)
later-dropped e = record { cube = refl; work = refl; kept = λ k. absurd (cc); submissions = λ c among. among }

later-submission : (cube : Problem) (e : EntryParts) → IsLater e (with_submission cube e)
later-submission cube e = record { cube = refl; work = refl; kept = λ k. k; submissions = λ c among. Contains-append_left e.submissions (cube ∷ []) c among }

later-change : (f : EntryParts → EntryParts) → ((e : EntryParts) → IsLater e (f e)) → (i : ℕ) (es : List EntryParts) (k : ℕ) (e : EntryParts) → slice_get es k ≡ Some e
    → (g : EntryParts) × (slice_get (change f i es) k ≡ Some g) × IsLater e g
later-change f later i [] k e at = absurd (cc)
later-change f later zero (x ∷ es) zero e at = let same : x ≡ e = cc in (f e, ap (λ y. Some (f y)) same, later e)
later-change f later zero (x ∷ es) (suc k) e at = (e, at, later-refl e)
later-change f later (suc i) (x ∷ es) zero e at = (e, at, later-refl e)
later-change f later (suc i) (x ∷ es) (suc k) e at = later-change f later i es k e at

-- states

set-keeps : (marks : List Bool) (i k : ℕ) → slice_get marks k ≡ Some true → slice_get (set marks i true) k ≡ Some true
set-keeps [] i k at = absurd (cc)
set-keeps (m ∷ marks) zero zero at = refl
set-keeps (m ∷ marks) zero (suc k) at = at
set-keeps (m ∷ marks) (suc i) zero at = at
set-keeps (m ∷ marks) (suc i) (suc k) at = set-keeps marks i k at

state-refl : (s : CoreParts) → StateGoesOn s s
state-refl s = record {
  goals = λ g at. at;
  entries = λ n e at. (e, at, later-refl e);
  more = λ n f at le. absurd (let lt = slice_get_within s.entries n f at in omega (arith, lt, le));
}

state-change : (f : EntryParts → EntryParts) → ((e : EntryParts) → IsLater e (f e)) → (i : ℕ) (s : CoreParts) → StateGoesOn s (changed f i s)
state-change f later i s = record {
  goals = λ g at. at;
  entries = λ n e at. later-change f later i s.entries n e at;
  more = λ n e at le.
      absurd (let lt = slice_get_within (change f i s.entries) n e at in let same = length-change f i s.entries in omega (arith, lt, le, same));
}

state-submit : (origin : Origin) (cube : Problem) (s : CoreParts) → StateGoesOn s (submit origin cube s)
state-submit (Goal disjunct) cube s = record {
  goals = λ g at. set-keeps s.submitted disjunct g at;
  entries = (state-refl s).entries;
  more = (state-refl s).more;
}
state-submit (Step entry transition) cube s = state-change (with_submission cube) (later-submission cube) entry s

state-admit : (origin : Origin) (cube : Problem) (s : CoreParts) → StateGoesOn s (admit origin cube s)
state-admit origin cube s = record {
  goals = λ g at. at;
  entries = λ n e at. (e, at-append s.entries (admitted origin cube ∷ []) n e at, later-refl e);
  more = each-append (λ (n : ℕ) (f : EntryParts). length s.entries ≤ n → f.work ≡ Free) s.entries (admitted origin cube)
      (λ n f at le. absurd (let lt = slice_get_within s.entries n f at in omega (arith, lt, le))) (λ le. refl);
}

at-some : (es : List EntryParts) (n : ℕ) → n < length es → (e : EntryParts) × (slice_get es n ≡ Some e)
at-some [] n lt = absurd (omega (arith, lt))
at-some (e ∷ es) zero lt = (e, refl)
at-some (e ∷ es) (suc n) lt = at-some es n (omega (arith, lt))

state-trans : (a b c : CoreParts) → StateGoesOn a b → StateGoesOn b c → StateGoesOn a c
state-trans a b c f g = record {
  goals = λ j at. g.goals j (f.goals j at);
  entries = λ n e at. let x = f.entries n e at in let y = g.entries n x.0 x.1 in (y.0, y.1, later-trans e x.0 y.0 x.2 y.2);
  more = λ n h at le. more n h at le (grind arith);
}
  where
    more : (n : ℕ) (h : EntryParts) → IsEntry c n h → length a.entries ≤ n → (n < length b.entries) ⊎ (length b.entries ≤ n) → h.work ≡ Free
    more n h at le (inl lt) =
        let x = at-some b.entries n lt in
        let y = g.entries n x.0 x.1 in
        let same : y.0 ≡ h = same_Some y.0 h (sym y.1 ∙ at) in
        ap (λ (e : EntryParts). e.work) (sym same) ∙ y.2.work ∙ f.more n x.0 x.1 le
    more n h at le (inr ge) = g.more n h at ge

-- stores

pub goes_on-refl : (s : StoreParts) → GoesOn s s
goes_on-refl s = record { system = refl; budget = refl; events = []; journal = sym (append-nil s.journal); state = state-refl s.state; serials = λ n k at. at }

pub goes_on-trans : (a b c : StoreParts) → GoesOn a b → GoesOn b c → GoesOn a c
goes_on-trans a b c f g = record {
  system = g.system ∙ f.system;
  budget = g.budget ∙ f.budget;
  events = f.events ++ g.events;
  journal = g.journal ∙ ap (λ (j : List Event). j ++ g.events) f.journal ∙ append_assoc a.journal f.events g.events;
  state = state-trans a.state b.state c.state f.state g.state;
  serials = λ n k at. g.serials n k (f.serials n k at);
}

pub skip-goes_on : (s : StoreParts) (origin : Origin) (cube : Problem) (reasons : List ℕ) → GoesOn s (with_event s (event.Skip origin cube reasons))
skip-goes_on s origin cube reasons = record {
  system = refl;
  budget = refl;
  events = event.Skip origin cube reasons ∷ [];
  journal = refl;
  state = state-submit origin cube s.state;
  serials = λ n k at. at;
}

pub drop-goes_on : (s : StoreParts) (entry by : ℕ) → GoesOn s (with_event s (event.Drop entry by))
drop-goes_on s entry by = record {
  system = refl;
  budget = refl;
  events = event.Drop entry by ∷ [];
  journal = refl;
  state = state-change dropped later-dropped entry s.state;
  serials = λ n k at. at;
}

pub entry-goes_on : (s : StoreParts) (origin : Origin) (cube : Problem) (w : Witness) → GoesOn s (with_entry s origin cube w)
entry-goes_on s origin cube w = record {
  system = refl;
  budget = refl;
  events = event.Admit origin cube ∷ [];
  journal = refl;
  state = state-trans s.state (admit origin cube s.state) (submit origin cube (admit origin cube s.state)) (state-admit origin cube s.state) (state-submit origin cube (admit origin cube s.state));
  serials = λ n k at. at-append s.serials (0 ∷ []) n k at;
}

-- what a hit or a spill leaves beside itself
found-goes_on : (s : CoreParts) (e : CoreParts) → e.submitted ≡ s.submitted → e.entries ≡ s.entries → StateGoesOn s e
found-goes_on s e marks entries = record {
  goals = λ g at. subst (λ (ms : List Bool). slice_get ms g ≡ Some true) (sym marks) at;
  entries = λ n f at. (f, subst (λ (es : List EntryParts). slice_get es n ≡ Some f) (sym entries) at, later-refl f);
  more = λ n f at le. absurd (let lt = slice_get_within s.entries n f (subst (λ (es : List EntryParts). slice_get es n ≡ Some f) entries at) in omega (arith, lt, le));
}

pub hit-goes_on : (s : StoreParts) (origin : Origin) (cube : Problem) (w : Witness) → GoesOn s (with_hit s origin cube w)
hit-goes_on s origin cube w = record {
  system = refl;
  budget = refl;
  events = event.Hit origin cube ∷ [];
  journal = refl;
  state = found-goes_on s.state (with_hit s origin cube w).state refl refl;
  serials = λ n k at. at;
}

pub spill-goes_on : (s : StoreParts) (origin : Origin) (cube : Problem) (w : Witness) → GoesOn s (with_spill s origin cube w)
spill-goes_on s origin cube w = record {
  system = refl;
  budget = refl;
  events = event.Spill origin cube ∷ [];
  journal = refl;
  state = found-goes_on s.state (with_spill s origin cube w).state refl refl;
  serials = λ n k at. at;
}
