-- A table that has a slot for each target that there can be: 64 variables, and the cells of 8 rows of 32 columns.
use Rattle.std.specs.Prelude.{ℕ, ◌+◌, ◌*◌, ◌<◌}
use Rattle.ras_system.specs.declared.update.Target.{Target}
use Rattle.ras_system.specs.declared.update.Target.TheVariants.{Var, Cell}

abbrev pub HasSlot : Target → Type 0
HasSlot (Var v) = v.n < 64
HasSlot (Cell row column) = (row < 8) × (column < 32)

abbrev pub slot_of : Target → ℕ
slot_of (Var v) = v.n
slot_of (Cell row column) = 64 + 32 * row + column
