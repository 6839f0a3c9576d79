-- What the kept entries say of a cube.
use Rattle.std.specs.Prelude.{◌≡◌, ℕ, List, slice_get, Some}
use Rattle.std.specs.List.{AllZip}
use Rattle.ras_logic.specs.declared.problem.Problem.{Problem}
use Rattle.ras_logic.specs.declared.tree.Node.{Node}
use Rattle.ras_logic.specs.Refutations.{Closes}
use Rattle.ras_core.specs.CoreStates.{cubes_of}
use Rattle.ras_reasons.specs.Naming.{AreNamed}
use Rattle.ras_store.specs.declared.named.Named.{Named}
use Rattle.ras_store.specs.Comparing.{MeetsNone}
use Rattle.ras_store.specs.Holding.{AreKept, named_cubes, kept_from}
use Rattle.ras_store.specs.Sites.{AllMeetAny, IsWitness}
use Rattle.ras_store.specs.Stores.{StoreParts}
use Rattle.ras_ask.specs.declared.asking.Asked.{Asked}
use Rattle.ras_ask.specs.declared.asking.Asked.TheVariants as asked

-- the names at these places
abbrev pub ArePlaces : List Named → List ℕ → List Named → Type 0
ArePlaces names places picked = AllZip (λ (k : ℕ) (n : Named). slice_get names k ≡ Some n) places picked

-- the kept entries that are named by a tree which closes the cube by all of them, in order
pub record AreNamedByTree (s : StoreParts) (cube : Problem) (reasons : List Named) : Type 0 where
  pub nodes : List Node
  pub closes : Closes s.system.shape.schema cube (named_cubes (kept_from 0 s.state.entries)) nodes
  pub places : List ℕ
  pub named : AreNamed nodes places
  pub reasons_are : ArePlaces (kept_from 0 s.state.entries) places reasons

-- its states are among those of these kept entries, or this one of its states meets no entry
abbrev pub IsAsked : StoreParts → Problem → Asked → Type 0
IsAsked s cube (asked.Covered reasons) = AreKept s.state reasons.items × AllMeetAny s.system cube (named_cubes reasons.items) × AreNamedByTree s cube reasons.items
IsAsked s cube (asked.New witness) = IsWitness s.system cube witness × MeetsNone witness.db witness.state (cubes_of s.state)
