-- Why choices are no run: the first step that is refused.
use Rattle.std.specs.Prelude.{◌≡◌, ℕ, List, take, slice_get, Option, Some, None}
use Rattle.ras_logic.specs.declared.raw_db.RawDb.{RawDb}
use Rattle.ras_system.specs.declared.state.State.{State}
use Rattle.ras_system.specs.declared.choice.Choice.{Choice}
use Rattle.ras_system.specs.Systems.{SystemParts}
use Rattle.ras_system.specs.Runs.{IsRun}
use Rattle.ras_steps.specs.declared.step_fault.StepFault.{StepFault}
use Rattle.ras_steps.specs.declared.step_fault.StepFault.TheVariants.{Memory}
use Rattle.ras_steps.specs.declared.replay_fault.ReplayFault.{ReplayFault}
use Rattle.ras_steps.specs.StepFaults.{IsStepFault}

abbrev pub IsMemory : StepFault → Type 0
IsMemory (Memory e) = Unit {0}
IsMemory fault = ⊥

-- a choice whose step is refused so; where the choices end, memory for the answer is wanting
abbrev pub IsRefused : SystemParts → RawDb → State → Option Choice → StepFault → Type 0
IsRefused system d s (Some c) fault = IsStepFault system d s c fault
IsRefused system d s None fault = IsMemory fault

-- the choices before that number are a run, and the step by the choice of that number is refused
pub record IsReplayFault (system : SystemParts) (d : RawDb) (start : State) (choices : List Choice) (f : ReplayFault) : Type 0 where
  pub before : State
  pub run : IsRun system d start (take f.at choices) before
  pub refused : IsRefused system d before (slice_get choices f.at) f.fault
