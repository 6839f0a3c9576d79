-- The rows by which a state meets a cube, and the first of them in lexicographic order.
use Rattle.std.specs.Prelude.{◌≡◌, ℕ, ◌<◌, List, [], length, get_or, take}
use Rattle.ras_logic.specs.declared.raw_db.RawDb.{RawDb}
use Rattle.ras_logic.specs.declared.problem.Problem.{Problem}
use Rattle.ras_logic.specs.Truth.{AllHold}
use Rattle.ras_system.specs.declared.state.State.{State}
use Rattle.ras_system.specs.States.{AreRows, values_at}

-- pairwise different rows, under which every literal holds
pub record MeetsBy (d : RawDb) (s : State) (p : Problem) (chosen : List ℕ) : Type 0 where
  pub rows : AreRows s p.rows chosen
  pub literals : AllHold d (values_at s p.rows chosen []) p.literals

-- lexicographic order: at the first place at which the two differ, this one has the smaller number
pub record ComesBefore (these those : List ℕ) : Type 0 where
  pub place : ℕ
  pub within : place < length these
  pub same : take place these ≡ take place those
  pub smaller : get_or these place 0 < get_or those place 0

-- the first such rows
pub record IsFirstChoice (d : RawDb) (s : State) (p : Problem) (chosen : List ℕ) : Type 0 where
  pub meets : MeetsBy d s p chosen
  pub first : (other : List ℕ) → MeetsBy d s p other → ComesBefore other chosen → ⊥

-- numbers of rows, and for how many there is room
pub record Buffer : Type 0 where
  pub rows : List ℕ
  pub room : ℕ
