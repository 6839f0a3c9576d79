-- What a visitor of obligations has visited, and why it visits no more. What it means to have visited a list is the visitor's own.
use Rattle.std.specs.Prelude.{◌≡◌, List, ◌++◌, ⊤}
use Rattle.ras_system.specs.Obligations.{Obligation}
use Rattle.ras_obligations.specs.declared.halt.Halt.{Halt}
use Rattle.ras_obligations.specs.declared.halt.Halt.TheVariants.{Stopped, Memory}

-- it keeps what it was given, and where it had visited some obligations, it has visited these too
pub record Visits {V G : Type 0} (given : V → G) (visited : V → List Obligation → Type 0) (more : List Obligation) (old new : V) : Type 0 where
  pub same : given new ≡ given old
  pub longer : (os : List Obligation) → visited old os → visited new (os ++ more)

-- it keeps what it was given, and where it had visited some obligations, something bars them with these
pub record Bars {V G : Type 0} (given : V → G) (visited barred : V → List Obligation → Type 0) (more : List Obligation) (old new : V) : Type 0 where
  pub same : given new ≡ given old
  pub stops : (os : List Obligation) → visited old os → barred new (os ++ more)

-- where the visitor stopped, and not for want of memory
abbrev pub OnStopped : Halt → Type 0 → Type 0
OnStopped Stopped P = P
OnStopped (Memory e) P = ⊤
