-- The links of a chain by their numbers, and what is reached after some of them.
use Rattle.std.proofs.Common.{◌≡◌, ℕ, zero, suc, ◌+◌, ◌<◌, ◌≤◌, List, [], ◌∷◌, ◌++◌, map, take, drop, length, length-append, refl, sym, ◌∙◌, ap, subst, arith, ◌⊎◌, inl, inr}
use Rattle.std.specs.Prelude.{slice_get, Option, Some}
use Rattle.std.proofs.lemmas.Option.{same_Some, slice_get_within, get_or_from_slice_get}
use Rattle.std.proofs.lemmas.Bool.{cases_lt}
use Rattle.ras_logic.specs.declared.raw_db.RawDb.{RawDb}
use Rattle.ras_logic.specs.declared.problem.Problem.{Problem}
use Rattle.ras_logic.specs.Databases.{IsDatabase, Extends}
use Rattle.ras_logic.specs.Formulas.{Fits}
use Rattle.ras_logic.proofs.Elements.{from_known}
use Rattle.ras_system.specs.declared.state.State.{State}
use Rattle.ras_system.specs.declared.choice.Choice.{Choice}
use Rattle.ras_system.specs.Systems.{SystemParts, IsSystem}
use Rattle.ras_system.specs.States.{IsState, Meets, MeetsAny}
use Rattle.ras_system.specs.Runs.{IsRun}
use Rattle.ras_steps.specs.declared.witness.Witness.{Witness}
use Rattle.ras_steps.proofs.Replays.{run_and_step}
use Rattle.ras_extension.proofs.States.{runs-larger, state-larger, next-state}
use Rattle.ras_core.specs.declared.link.Link.{Link}
use Rattle.ras_core.specs.Chains.{first_cube, LeadsOn, LeadAlong, IsChain}
use Rattle.ras_concrete.specs.declared.following.Led.{Led}
use Rattle.ras_concrete.specs.Concretes.{IsLed}

-- the cube into which so many of the links lead
abbrev pub cube_after : List Link → Problem → ℕ → Problem
cube_after front cube k = first_cube (drop k front) cube

pub lead-at : (system : SystemParts) (front : List Link) (cube : Problem) → LeadAlong system front cube → (k : ℕ) (l : Link) → slice_get front k ≡ Some l
    → LeadsOn system l (cube_after front cube (suc k))
lead-at system [] cube along k l known = absurd (cc)
lead-at system (x ∷ front) cube along zero l known = subst (λ (y : Link). LeadsOn system y (first_cube front cube)) (same_Some x l known) along.0
lead-at system (x ∷ front) cube along (suc k) l known = lead-at system front cube along.1 k l known

-- the link of a number, in front of the goal or the goal itself
pub cube-at : (front : List Link) (goal : Link) (k : ℕ) (l : Link) → slice_get (front ++ goal ∷ []) k ≡ Some l → l.cube ≡ cube_after front goal.cube k
cube-at [] goal zero l known = ap (λ (x : Link). x.cube) (sym (same_Some goal l known))
cube-at [] goal (suc k) l known = absurd (cc)
cube-at (x ∷ front) goal zero l known = ap (λ (y : Link). y.cube) (sym (same_Some x l known))
cube-at (x ∷ front) goal (suc k) l known = cube-at front goal k l known

pub front-at : (front : List Link) (goal : Link) (k : ℕ) (l : Link) → suc k < length (front ++ goal ∷ []) → slice_get (front ++ goal ∷ []) k ≡ Some l → slice_get front k ≡ Some l
front-at [] goal k l lt known = absurd (omega (arith, lt))
front-at (x ∷ front) goal zero l lt known = known
front-at (x ∷ front) goal (suc k) l lt known = front-at front goal k l (omega (arith, lt)) known

pub cube-end : (front : List Link) (cube : Problem) → cube_after front cube (length front) ≡ cube
cube-end [] cube = refl
cube-end (x ∷ front) cube = cube-end front cube

abbrev transitions : List Link → List (Option ℕ)
transitions links = map (λ (l : Link). l.transition) links

abbrev taken : List Choice → List (Option ℕ)
taken choices = map (λ (c : Choice). Some c.transition) choices

-- one link more
take-more : (front : List Link) (k : ℕ) (l : Link) → slice_get front k ≡ Some l → transitions (take (suc k) front) ≡ transitions (take k front) ++ l.transition ∷ []
take-more [] k l known = absurd (cc)
take-more (x ∷ front) zero l known = ap (λ (y : Link). y.transition ∷ []) (same_Some x l known)
take-more (x ∷ front) (suc k) l known = ap (λ (rest : List (Option ℕ)). x.transition ∷ rest) (take-more front k l known)

taken-more : (choices : List Choice) (c : Choice) → taken (choices ++ c ∷ []) ≡ taken choices ++ Some c.transition ∷ []
taken-more [] c = refl
taken-more (x ∷ choices) c = ap (λ (rest : List (Option ℕ)). Some x.transition ∷ rest) (taken-more choices c)

-- the links of a chain
module _ (system : SystemParts) (good : IsSystem system) (from : Problem) (links : List Link) (is : IsChain system from links) where
  in_parts : (k : ℕ) (l : Link) → slice_get links k ≡ Some l → slice_get (is.front ++ is.goal ∷ []) k ≡ Some l
  in_parts k l known = subst (λ (ls : List Link). slice_get ls k ≡ Some l) is.parts known

  pub long : length links ≡ length is.front + 1
  long = ap (λ (ls : List Link). length ls) is.parts ∙ length-append is.front (is.goal ∷ [])

  -- a link that is not the last leads into the next
  pub leads-next : (k : ℕ) (l next : Link) → slice_get links k ≡ Some l → slice_get links (suc k) ≡ Some next → LeadsOn system l next.cube
  leads-next k l next known after =
      let lt : suc k < length (is.front ++ is.goal ∷ []) = subst (λ (ls : List Link). suc k < length ls) is.parts (slice_get_within links (suc k) next after) in
      subst (LeadsOn system l) (sym (cube-at is.front is.goal (suc k) next (in_parts (suc k) next after)))
      (lead-at system is.front is.goal.cube is.lead k l (front-at is.front is.goal k l lt (in_parts k l known)))

  goal_fits : Fits system.shape is.goal.cube
  goal_fits = from_known (Fits system.shape) system.goals good.goals is.disjunct is.goal.cube is.is_goal

  -- each cube fits
  pub link-fits : (k : ℕ) (l : Link) → slice_get links k ≡ Some l → Fits system.shape l.cube
  link-fits k l known = go (cases_lt k (length is.front))
    where
      go : (k < length is.front) ⊎ (length is.front ≤ k) → Fits system.shape l.cube
      go (inl lt) =
          (lead-at system is.front is.goal.cube is.lead k l
          (front-at is.front is.goal k l (let n = length-append is.front (is.goal ∷ []) in omega (arith, lt, n)) (in_parts k l known))).formula.fits
      go (inr le) =
          let below = slice_get_within links k l known in
          let last : k ≡ length is.front = omega (arith, le, below, long) in
          subst (Fits system.shape) (sym (cube-at is.front is.goal k l (in_parts k l known) ∙ ap (cube_after is.front is.goal.cube) last ∙ cube-end is.front is.goal.cube)) goal_fits

  -- the first link has the first cube
  pub first-link : (l : Link) → slice_get links 0 ≡ Some l → l.cube ≡ from
  first-link l known = cube-at is.front is.goal 0 l (in_parts 0 l known) ∙ is.begins

  -- the last one is a goal, and has no transition
  pub last-goal : (l : Link) → slice_get links (length is.front) ≡ Some l → (d : RawDb) (s : State) → Meets d s l.cube → MeetsAny d s system.goals
  last-goal l known d s met =
      let same : l.cube ≡ is.goal.cube = cube-at is.front is.goal (length is.front) l (in_parts (length is.front) l known) ∙ cube-end is.front is.goal.cube in (
        is.disjunct,
        is.goal.cube,
        slice_get_within system.goals is.disjunct is.goal.cube is.is_goal,
        get_or_from_slice_get system.goals is.disjunct is.goal.cube is.goal.cube is.is_goal,
        subst (Meets d s) same met,
      )

-- after so many links: a run along them from the witness's state, in a database that extends the witness's
pub record IsUnder (system : SystemParts) (links : List Link) (w : Witness) (k : ℕ) (d : RawDb) (s : State) (start : State) (choices : List Choice) : Type 0 where
  pub database : IsDatabase system.shape.schema d
  pub extends : Extends d w.db
  pub begins : start ≡ w.state
  pub run : IsRun system d start choices s
  pub state : IsState system.shape d s
  pub meets : (l : Link) → slice_get links k ≡ Some l → Meets d s l.cube
  pub follows : transitions (take k links) ≡ taken choices

module _ (compose : (larger middle smaller : RawDb) → Extends larger middle → Extends middle smaller → Extends larger smaller) (itself : (d : RawDb) → Extends d d)
    (system : SystemParts) (good : IsSystem system) (links : List Link) (w : Witness) (fits : IsState system.shape w.db w.state) where
  pub more-under : (k : ℕ) (l next : Link) (transition : ℕ) (d : RawDb) (s start : State) (choices : List Choice) (led : Led) → slice_get links k ≡ Some l
      → slice_get links (suc k) ≡ Some next → l.transition ≡ Some transition → IsUnder system links w k d s start choices → IsLed system d s transition next.cube led
      → IsUnder system links w (suc k) led.db led.next start (choices ++ led.choice ∷ [])
  more-under k l next transition d s start choices led known after by under step =
      let start_fits : IsState system.shape d start = subst (IsState system.shape d) (sym under.begins) (state-larger system.shape d w.db w.state under.extends fits) in
      record {
        database = step.database;
        extends = compose led.db d w.db step.extends under.extends;
        begins = under.begins;
        run = run_and_step system led.db start choices s led.choice led.next
            (runs-larger system good led.db d under.database step.extends start choices s start_fits under.run) step.step;
        state = next-state system good led.db led.db step.database (itself led.db) s led.choice led.next (state-larger system.shape led.db d s step.extends under.state) step.step;
        meets = λ x known_x. subst (λ (y : Link). Meets led.db led.next y.cube) (same_Some next x (sym after ∙ known_x)) step.meets;
        follows = take-more links k l known ∙ ap (λ (o : Option ℕ). transitions (take k links) ++ o ∷ []) (by ∙ ap (λ (n : ℕ). Some n) (sym step.by))
            ∙ ap (λ (ts : List (Option ℕ)). ts ++ Some led.choice.transition ∷ []) under.follows ∙ sym (taken-more choices led.choice);
      }
