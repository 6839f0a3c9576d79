-- The kinds of event that end a search.
use Rattle.ras_core.specs.declared.event.Event.{Event}
use Rattle.ras_core.specs.declared.event.Event.TheVariants as event

abbrev pub IsHit : Event → Type 0
IsHit (event.Hit origin cube) = Unit {0}
IsHit _ = ⊥

abbrev pub IsSpill : Event → Type 0
IsSpill (event.Spill origin cube) = Unit {0}
IsSpill _ = ⊥

abbrev pub IsIdle : Event → Type 0
IsIdle event.Idle = Unit {0}
IsIdle _ = ⊥
