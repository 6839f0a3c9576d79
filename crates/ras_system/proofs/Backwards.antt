use Rattle.std.proofs.Common.{List, [], ◌∷◌, sym, subst}
use Rattle.ras_logic.specs.declared.raw_db.RawDb.{RawDb}
use Rattle.ras_logic.specs.declared.problem.Problem.{Problem}
use Rattle.ras_logic.specs.Databases.{IsDatabase}
use Rattle.ras_system.specs.declared.state.State.{State}
use Rattle.ras_system.specs.declared.choice.Choice.{Choice}
use Rattle.ras_system.specs.Systems.{SystemParts}
use Rattle.ras_system.specs.States.{IsState, MeetsAny}
use Rattle.ras_system.specs.Systems.{IsSystem, IsTransition}
use Rattle.ras_logic.proofs.Clashes.{from_known}
use Rattle.ras_system.proofs.Kept.{state_after-state}
use Rattle.ras_system.specs.Steps.{IsStep}
use Rattle.ras_system.specs.Runs.{IsRun, IsSafe}
use Rattle.ras_system.specs.Invariants.{IsInvariant}

module _ (system : SystemParts) (good : IsSystem system) (d : RawDb) (db : IsDatabase system.shape.schema d) where
  -- a step from a state ends in a state
  step-state : (old : State) (c : Choice) (new : State) → IsState system.shape d old → IsStep system d old c new → IsState system.shape d new
  step-state old c new st step =
      let t = from_known (IsTransition system.shape) system.transitions good.transitions c.transition step.0 step.1 in
      subst (IsState system.shape d) (sym step.2.after) (state_after-state system.shape d db step.0 t old st c step.2.rows step.2.params)

  -- a run from a state ends in a state
  pub run-state : (first : State) (choices : List Choice) (last : State) → IsState system.shape d first → IsRun system d first choices last → IsState system.shape d last
  run-state first [] last s same = subst (IsState system.shape d) (sym same) s
  run-state first (c ∷ choices) last s r = run-state r.0 choices last (step-state first c r.0 s r.1) r.2

  -- a run to a state of an invariant begins at a state of it
  pub run-meets : (formulas : List Problem) (inv : IsInvariant system formulas) (first : State) (choices : List Choice) (last : State)
      → IsState system.shape d first → IsRun system d first choices last → MeetsAny d last formulas → MeetsAny d first formulas
  run-meets formulas inv first [] last s same m = subst (λ x. MeetsAny d x formulas) same m
  run-meets formulas inv first (c ∷ choices) last s r m =
      inv.steps d first c r.0 db s r.1 (run-meets formulas inv r.0 choices last (step-state first c r.0 s r.1) r.2 m)

-- a system with an invariant is safe
pub IsInvariant-safe : (system : SystemParts) (formulas : List Problem) → IsSystem system → IsInvariant system formulas → IsSafe system
IsInvariant-safe system formulas good inv d first choices last v =
    inv.initial d first v.database v.initial
    (run-meets system good d v.database formulas inv first choices last v.initial.state v.run
    (inv.goals d last v.database (run-state system good d v.database first choices last v.initial.state v.run) v.goal))
