-- What is written of a violation: a line for each state of the run in order, and a line for the first goal that the last one meets.
use Rattle.std.specs.Prelude.{◌≡◌, ℕ, ◌+◌, List, [], ◌∷◌, ◌++◌, flat_map, codes, length, take, slice_get, Some}
use Rattle.ras_text.specs.Pieces.{word, words, counted}
use Rattle.ras_logic.specs.declared.raw_db.RawDb.{RawDb}
use Rattle.ras_system.specs.declared.state.State.{State}
use Rattle.ras_system.specs.declared.choice.Choice.{Choice}
use Rattle.ras_system.specs.Systems.{SystemParts}
use Rattle.ras_system.specs.Runs.{IsRun}
use Rattle.ras_steps.specs.declared.run.Run.{Run}
use Rattle.ras_violation.specs.Violations.{IsFirstMet}

-- the rows of a relation: how many, and the cells of each
abbrev pub rows_text : List (List ℕ) → List ℕ
rows_text rows = codes " rows" ++ counted words rows

-- the line of a state and its number
abbrev pub state_line : ℕ → State → List ℕ
state_line number s = codes "state" ++ (word number ++ (codes " vars" ++ (counted word s.vars ++ (flat_map rows_text s.relations ++ codes "\n"))))

-- the lines of states, of which the first has this number
abbrev pub state_lines : ℕ → List State → List ℕ
state_lines n [] = []
state_lines n (s ∷ states) = state_line n s ++ state_lines (n + 1) states

-- the line of a goal and the rows by which it is met
abbrev pub goal_line : ℕ → List ℕ → List ℕ
goal_line goal rows = codes "meets" ++ (word goal ++ (codes " rows" ++ (counted word rows ++ codes "\n")))

-- the states of a run in order: each is the last one of as many of the first steps as its number says
pub record AreStates (system : SystemParts) (d : RawDb) (start : State) (choices : List Choice) (states : List State) : Type 0 where
  pub as_many : length states ≡ length choices + 1
  pub each : (k : ℕ) (s : State) → slice_get states k ≡ Some s → IsRun system d start (take k choices) s

-- the states of a run, of which this is the last, were written behind what was there before
pub record AreWritten (system : SystemParts) (d : RawDb) (start : State) (choices : List Choice) (last : State) (before after : List ℕ) : Type 0 where
  pub states : List State
  pub in_order : AreStates system d start choices states
  pub ends : slice_get states (length choices) ≡ Some last
  pub text : after ≡ before ++ state_lines 0 states

-- the line of the first goal that the state meets was written behind what was there before
pub record IsGoalWritten (system : SystemParts) (d : RawDb) (last : State) (before after : List ℕ) : Type 0 where
  pub goal : ℕ
  pub rows : List ℕ
  pub met : IsFirstMet d last system.goals goal rows
  pub text : after ≡ before ++ goal_line goal rows

-- the text of a violation
pub record IsReplayText (system : SystemParts) (d : RawDb) (run : Run) (text : List ℕ) : Type 0 where
  pub states : List State
  pub in_order : AreStates system d run.start run.choices states
  pub last : State
  pub ends : slice_get states (length run.choices) ≡ Some last
  pub goal : ℕ
  pub rows : List ℕ
  pub met : IsFirstMet d last system.goals goal rows
  pub reads : text ≡ state_lines 0 states ++ goal_line goal rows
