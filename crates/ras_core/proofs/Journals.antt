-- The state after a lawful journal is sound.
use Rattle.std.proofs.Common.{◌≡◌, ℕ, zero, suc, true, false, List, [], ◌∷◌, ◌++◌, length, replicate, refl, sym, ◌∙◌, ap, subst, arith}
use Rattle.std.specs.Prelude.{slice_get, Some}
use Rattle.std.proofs.lemmas.List.{length-replicate}
use Rattle.ras_logic.specs.declared.problem.Problem.{Problem}
use Rattle.ras_system.specs.Systems.{SystemParts}
use Rattle.ras_core.specs.declared.event.Event.{Event}
use Rattle.ras_core.specs.declared.event.Event.TheVariants as event
use Rattle.ras_core.specs.CoreStates.{CoreParts}
use Rattle.ras_core.specs.Events.{Allowed, after}
use Rattle.ras_core.specs.Journals.{IsBase, replay_from, IsLawfulFrom, first_state, Replays}
use Rattle.std.proofs.lemmas.List.Elements.{All-nil}
use Rattle.ras_core.specs.Admissible.{IsFormula, NoneIsInitial}
use Rattle.ras_core.specs.Sound.{IsSound}
use Rattle.ras_core.proofs.Keeping.{event-sound}

none_marked : (n j : ℕ) → slice_get (replicate n false) j ≡ Some true → ⊥
none_marked zero j h = absurd (cc)
none_marked (suc n) zero h = absurd (cc)
none_marked (suc n) (suc j) h = none_marked n j h

pub first-sound : (system : SystemParts) (budget : ℕ) (base : List Problem) → IsBase system base → IsSound system budget (first_state system base)
first-sound system budget base is = record {
  entries = λ i e h. absurd (cc);
  covered = λ i e h. absurd (cc);
  submissions = λ i e h. absurd (cc);
  goals = λ j g marked known. absurd (none_marked (length system.goals) j marked);
  worked_out = λ i e h. absurd (cc);
  hit = λ f h. absurd (cc);
  spill = λ f h. absurd (cc);
  few = omega arith;
  each_goal = length-replicate (length system.goals) false;
  base = is;
}

from-sound : (system : SystemParts) (budget : ℕ) (s : CoreParts) (journal : List Event) → IsSound system budget s → IsLawfulFrom system budget s journal → IsSound system budget (replay_from s journal)
from-sound system budget s [] sound lawful = sound
from-sound system budget s (e ∷ journal) sound lawful = from-sound system budget (after s e) journal (event-sound system budget s sound e lawful.0) lawful.1

pub journal-sound : (system : SystemParts) (budget : ℕ) (base : List Problem) (journal : List Event) (s : CoreParts) → Replays system budget base journal s → IsSound system budget s
journal-sound system budget base journal s r =
    subst (IsSound system budget) (sym r.state) (from-sound system budget (first_state system base) journal (first-sound system budget base r.is_base) r.lawful)

-- one event more

replay_snoc : (s : CoreParts) (journal : List Event) (e : Event) → replay_from s (journal ++ e ∷ []) ≡ after (replay_from s journal) e
replay_snoc s [] e = refl
replay_snoc s (x ∷ journal) e = replay_snoc (after s x) journal e

lawful_snoc : (system : SystemParts) (budget : ℕ) (s : CoreParts) (journal : List Event) (e : Event) → IsLawfulFrom system budget s journal → Allowed system budget (replay_from s journal) e
    → IsLawfulFrom system budget s (journal ++ e ∷ [])
lawful_snoc system budget s [] e lawful a = (a, tt)
lawful_snoc system budget s (x ∷ journal) e lawful a = (lawful.0, lawful_snoc system budget (after s x) journal e lawful.1 a)

pub replays-more : (system : SystemParts) (budget : ℕ) (base : List Problem) (journal : List Event) (s : CoreParts) (e : Event) → Replays system budget base journal s → Allowed system budget s e
    → Replays system budget base (journal ++ e ∷ []) (after s e)
replays-more system budget base journal s e r a = record {
  is_base = r.is_base;
  lawful = lawful_snoc system budget (first_state system base) journal e r.lawful (subst (λ (t : CoreParts). Allowed system budget t e) r.state a);
  state = ap (λ (t : CoreParts). after t e) r.state ∙ sym (replay_snoc (first_state system base) journal e);
}

pub replays-nothing : (system : SystemParts) (budget : ℕ) (base : List Problem) → IsBase system base → Replays system budget base [] (first_state system base)
replays-nothing system budget base is = record { is_base = is; lawful = tt; state = refl }

-- an event leaves the base as it is
after-base : (s : CoreParts) (e : Event) → (after s e).base ≡ s.base
after-base s event.Idle = refl
after-base s _ = refl

from-base : (s : CoreParts) (journal : List Event) → (replay_from s journal).base ≡ s.base
from-base s [] = refl
from-base s (e ∷ journal) = from-base (after s e) journal ∙ after-base s e

pub replays-base : (system : SystemParts) (budget : ℕ) (base : List Problem) (journal : List Event) (s : CoreParts) → Replays system budget base journal s → s.base ≡ base
replays-base system budget base journal s r = ap (λ (t : CoreParts). t.base) r.state ∙ from-base (first_state system base) journal

pub empty-base : (system : SystemParts) → IsBase system []
empty-base system = record {
  formulas = All-nil (IsFormula system);
  initial = All-nil (NoneIsInitial system);
  steps = λ d s c next is step m. absurd (omega (arith, m.2));
}
