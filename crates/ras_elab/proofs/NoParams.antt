-- Literals without data parameters make a cube.
use Rattle.std.proofs.Common.{List, [], ◌∷◌, arith, refl}
use Rattle.std.specs.Prelude.{All, Result, Ok, Err, IfErr}
use Rattle.std.specs.Result.{IsOk}
use Rattle.ras_logic.specs.declared.literal.Literal.{Literal}
use Rattle.ras_logic.specs.declared.cube_fault.CubeFault.{CubeFault}
use Rattle.ras_logic.specs.declared.cube_fault.CubeFault.TheVariants.{Param}
use Rattle.ras_logic.specs.CubeFaults.{IsCubeFault}
use Rattle.ras_logic.specs.Formulas.{HasNoParam}

pub cube_never : (ls : List Literal) (f : CubeFault) → All HasNoParam ls → IsCubeFault ls f → ⊥
cube_never [] (Param k) all h = absurd (omega (arith, h.within))
cube_never (l ∷ ls) (Param k) all h = h.bad l (all k l h.within)

pub made_cube : {A : Type 0} (ls : List Literal) (r : Result A CubeFault) → All HasNoParam ls → IfErr r (IsCubeFault ls) → IsOk r
made_cube ls (Ok a) all h = refl
made_cube ls (Err f) all h = absurd (cube_never ls f all h)
