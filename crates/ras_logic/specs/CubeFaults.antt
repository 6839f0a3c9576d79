-- The first fault of literals that make no cube.
use Rattle.std.specs.Prelude.{List}
use Rattle.ras_logic.specs.declared.literal.Literal.{Literal}
use Rattle.ras_logic.specs.declared.cube_fault.CubeFault.{CubeFault}
use Rattle.ras_logic.specs.declared.cube_fault.CubeFault.TheVariants.{Param}
use Rattle.ras_logic.specs.Places.{IsFirstBad}
use Rattle.ras_logic.specs.Formulas.{HasNoParam}

-- the first literal that names a data parameter
abbrev pub IsCubeFault : List Literal → CubeFault → Type 0
IsCubeFault literals (Param literal) = IsFirstBad HasNoParam literals literal
