-- What is known at a link of a chain that is followed, and at its end.
use Rattle.std.proofs.Common.{◌≡◌, ℕ, zero, suc, ◌+◌, ◌-◌, ◌<◌, ◌≤◌, List, [], ◌∷◌, ◌++◌, map, take, length, get_or, refl, sym, ◌∙◌, ap, subst, arith}
use Rattle.std.specs.Prelude.{slice_get, Option, Some, None}
use Rattle.std.proofs.lemmas.Option.{same_Some}
use Rattle.std.proofs.lemmas.List.{take_at, map-append}
use Rattle.ras_logic.specs.declared.raw_db.RawDb.{RawDb}
use Rattle.ras_logic.specs.declared.problem.Problem.{Problem}
use Rattle.ras_logic.specs.Databases.{Extends}
use Rattle.ras_logic.specs.Formulas.{Fits}
use Rattle.ras_system.specs.declared.state.State.{State}
use Rattle.ras_system.specs.declared.choice.Choice.{Choice}
use Rattle.ras_system.specs.Systems.{SystemParts, IsSystem}
use Rattle.ras_system.specs.States.{IsState}
use Rattle.ras_steps.specs.declared.witness.Witness.{Witness}
use Rattle.ras_extension.specs.Reaching.{IsStateOf, Leads}
use Rattle.ras_core.specs.declared.link.Link.{Link}
use Rattle.ras_core.specs.Chains.{LeadsOn, IsChain}
use Rattle.ras_concrete.specs.declared.following.Led.{Led}
use Rattle.ras_concrete.specs.Concretes.{IsLed, IsConcrete, ended_transitions}
use Rattle.ras_concrete.proofs.Chains.{leads-next, link-fits, last-goal, long, IsUnder, more-under}

known-at : (links : List Link) (k : ℕ) (d : Link) → k < length links → slice_get links k ≡ Some (get_or links k d)
known-at [] k d lt = absurd (omega (arith, lt))
known-at (x ∷ links) zero d lt = refl
known-at (x ∷ links) (suc k) d lt = known-at links k d (omega (arith, lt))

behind-last : (at : ℕ) → 1 ≤ at → suc (at - 1) ≡ at
behind-last at le = omega (arith, le)

module _ (system : SystemParts) (good : IsSystem system) (from : Problem) (links : List Link) (is : IsChain system from links) where
  -- the link before this one leads into it
  leads-here : (at : ℕ) (d e : Link) → 1 ≤ at → at < length links → LeadsOn system (get_or links (at - 1) d) (get_or links at e).cube
  leads-here at d e le lt =
      leads-next system good from links is (at - 1) (get_or links (at - 1) d) (get_or links at e) (known-at links (at - 1) d (omega (arith, le, lt)))
      (subst (λ (n : ℕ). slice_get links n ≡ Some (get_or links at e)) (sym (behind-last at le)) (known-at links at e lt))

  -- a link with one behind it has a transition
  pub never-ends : (at : ℕ) (d : Link) → 1 ≤ at → at < length links → (get_or links (at - 1) d).transition ≡ None → ⊥
  never-ends at d le lt none = let by = (leads-here at d d le lt).by in let no = none in cc

  pub next-fits : (at : ℕ) (e : Link) (cube : Problem) → at < length links → cube ≡ (get_or links at e).cube → Fits system.shape cube
  next-fits at e cube lt is_cube = subst (Fits system.shape) (sym is_cube) (link-fits system good from links is at (get_or links at e) (known-at links at e lt))

  module _ (w : Witness) (at : ℕ) (d : RawDb) (s start : State) (choices : List Choice) (under : IsUnder system links w (at - 1) d s start choices) (le : 1 ≤ at) where
    pub next-leads : (p e : Link) (transition : ℕ) (cube : Problem) → at < length links → (get_or links (at - 1) p).transition ≡ Some transition → cube ≡ (get_or links at e).cube
        → Leads system d s transition cube
    next-leads p e transition cube lt by is_cube =
        let on = leads-here at p e le lt in
        let number : on.transition ≡ transition = same_Some on.transition transition (sym on.by ∙ by) in
        let here : IsStateOf system (get_or links (at - 1) p).cube d s =
        record {
          state = record { database = under.database; state = under.state };
          meets = under.meets (get_or links (at - 1) p) (known-at links (at - 1) p (omega (arith, le, lt)));
        } in
        subst (λ (n : ℕ). Leads system d s n cube) number (subst (Leads system d s on.transition) (sym is_cube) (on.leads d s here))

    -- after one link more
    pub one-more : (compose : (larger middle smaller : RawDb) → Extends larger middle → Extends middle smaller → Extends larger smaller) (itself : (e : RawDb) → Extends e e)
        → IsState system.shape w.db w.state → (p e : Link) (transition : ℕ) (cube : Problem) (led : Led) (more : List Choice) → at < length links
        → (get_or links (at - 1) p).transition ≡ Some transition → cube ≡ (get_or links at e).cube → IsLed system d s transition cube led
        → more ≡ choices ++ led.choice ∷ [] → IsUnder system links w (at + 1 - 1) led.db led.next start more
    one-more compose itself fits p e transition cube led more lt by is_cube step push =
        let there : suc (at - 1) ≡ at + 1 - 1 = omega (arith, le) in
        subst (λ (n : ℕ). IsUnder system links w n led.db led.next start more) there
        (subst (IsUnder system links w (suc (at - 1)) led.db led.next start) (sym push)
        (more-under compose itself system good links w fits (at - 1) (get_or links (at - 1) p) (get_or links at e) transition d s start choices led
        (known-at links (at - 1) p (omega (arith, le, lt)))
        (subst (λ (n : ℕ). slice_get links n ≡ Some (get_or links at e)) (sym (behind-last at le)) (known-at links at e lt)) by under
        (subst (λ (c : Problem). IsLed system d s transition c led) is_cube step)))

    last-place : length links ≤ at → (1 ≤ length links → at ≤ length links) → at - 1 ≡ length is.front
    last-place end within = let some = long system good from links is in omega (arith, end, within, some, le)

    follows-all : length links ≤ at → (1 ≤ length links → at ≤ length links) → map (λ (l : Link). l.transition) links ≡ ended_transitions choices
    follows-all end within =
        let place = last-place end within in
        let front : take (at - 1) links ≡ is.front =
        ap (λ (n : ℕ). take n links) place ∙ ap (take (length is.front)) is.parts ∙ take_at is.front (is.goal ∷ []) (length is.front) refl in
        ap (map (λ (l : Link). l.transition)) is.parts ∙ map-append (λ (l : Link). l.transition) is.front (is.goal ∷ [])
        ∙ ap (λ (ts : List (Option ℕ)). ts ++ is.goal.transition ∷ []) (sym (ap (map (λ (l : Link). l.transition)) front) ∙ under.follows)
        ∙ ap (λ (t : Option ℕ). map (λ (c : Choice). Some c.transition) choices ++ t ∷ []) is.ends

    last-known : length links ≤ at → (1 ≤ length links → at ≤ length links) → slice_get links (length is.front) ≡ Some is.goal
    last-known end within = ap (λ (ls : List Link). slice_get ls (length is.front)) is.parts ∙ goal-there is.front
      where
        goal-there : (front : List Link) → slice_get (front ++ is.goal ∷ []) (length front) ≡ Some is.goal
        goal-there [] = refl
        goal-there (x ∷ front) = goal-there front

    -- at the end of the chain
    pub all-followed : length links ≤ at → (1 ≤ length links → at ≤ length links) → IsConcrete system links w (record { db = d; run = record { start = start; choices = choices } })
    all-followed end within =
        let known = last-known end within in
        record {
          database = under.database;
          extends = under.extends;
          start = under.begins;
          follows = follows-all end within;
          last = s;
          run = under.run;
          goal =
              last-goal system good from links is is.goal known d s
              (under.meets is.goal (subst (λ (n : ℕ). slice_get links n ≡ Some is.goal) (sym (last-place end within)) known));
        }
