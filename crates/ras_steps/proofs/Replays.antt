-- One step more of a run.
use Rattle.std.proofs.Common.{◌≡◌, ℕ, ◌+◌, ◌<◌, List, [], ◌∷◌, ◌++◌, length, take, get_or, refl, sym, ◌∙◌, ap, subst}
use Rattle.std.proofs.lemmas.List.{take_more}
use Rattle.ras_logic.specs.declared.raw_db.RawDb.{RawDb}
use Rattle.ras_system.specs.declared.state.State.{State}
use Rattle.ras_system.specs.declared.choice.Choice.{Choice}
use Rattle.ras_system.specs.Systems.{SystemParts}
use Rattle.ras_system.specs.Steps.{IsStep}
use Rattle.ras_system.specs.Runs.{IsRun}

module _ (system : SystemParts) (d : RawDb) where
  pub run_and_step : (start : State) (choices : List Choice) (mid : State) (c : Choice) (next : State) → IsRun system d start choices mid → IsStep system d mid c next
      → IsRun system d start (choices ++ c ∷ []) next
  run_and_step start [] mid c next run step = (next, subst (λ (s : State). IsStep system d s c next) run step, refl)
  run_and_step start (a ∷ choices) mid c next run step = (run.0, run.1, run_and_step run.0 choices mid c next run.2 step)

  pub run_more : (start : State) (choices : List Choice) (i : ℕ) (mid : State) (c : Choice) (next : State) → i < length choices → c ≡ get_or choices i c
      → IsRun system d start (take i choices) mid → IsStep system d mid c next → IsRun system d start (take (i + 1) choices) next
  run_more start choices i mid c next lt here run step =
      subst (λ (cs : List Choice). IsRun system d start cs next) (sym (take_more choices i c lt ∙ ap (λ (x : Choice). take i choices ++ x ∷ []) (sym here)))
      (run_and_step start (take i choices) mid c next run step)
