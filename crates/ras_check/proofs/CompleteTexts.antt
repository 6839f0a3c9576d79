-- What is read as an evidence is complete, and its formulas are cubes.
use Rattle.std.proofs.Common.{zero, suc, List, [], ◌∷◌, arith}
use Rattle.std.specs.Prelude.{All}
use Rattle.std.specs.List.{AllByRecursion}
use Rattle.ras_logic.specs.declared.term.Base.{Base}
use Rattle.ras_logic.specs.declared.term.Base.TheVariants.{Var, Cell, Constant, Undef, Param}
use Rattle.ras_logic.specs.declared.literal.Literal.{Literal}
use Rattle.ras_logic.specs.declared.literal.Literal.TheVariants.{Equal}
use Rattle.ras_logic.specs.declared.problem.Problem.{Problem}
use Rattle.ras_logic.specs.Formulas.{IsNoParam, HasNoParam, IsCube}
use Rattle.ras_logic.specs.Trees.{IsWhole}
use Rattle.ras_lines.specs.Trees.{IsWrittenTree}
use Rattle.ras_lines.specs.Words.{IsSmallBase, IsSmallLiteral, IsSmallCube}
use Rattle.ras_evidence.specs.declared.value.Evidence.{Evidence}
use Rattle.ras_evidence.specs.declared.value.Evidence.TheVariants.{Safe, Unsafe, Unknown}
use Rattle.ras_evidence.specs.EvidenceTexts.{IsWritable}
use Rattle.ras_check.specs.Judging.{IsComplete, HasCubes}

module _ {X : Type 0} (P Q : X → Type 0) (each : (x : X) → P x → Q x) where
  all_of : (xs : List X) → AllByRecursion P xs → All Q xs
  all_of [] h k d lt = absurd (omega (arith, lt))
  all_of (x ∷ xs) h zero d lt = each x h.0
  all_of (x ∷ xs) h (suc k) d lt = all_of xs h.1 k d (omega (arith, lt))

no_param : (b : Base) → IsSmallBase b → IsNoParam b
no_param (Var v) h = tt
no_param (Cell row column) h = tt
no_param (Constant c) h = tt
no_param (Undef s) h = tt
no_param (Param p) h = absurd h

no_param_in : (l : Literal) → IsSmallLiteral l → HasNoParam l
no_param_in (Equal left right same) h = (no_param left.base h.0.base, no_param right.base h.1.base)

small_cube : (p : Problem) → IsSmallCube p → IsCube p
small_cube p h = record { none = h.params; unnamed = all_of IsSmallLiteral HasNoParam no_param_in p.literals h.literals.each }

pub writable_complete : (e : Evidence) → IsWritable e → IsComplete e
writable_complete (Safe formulas trees) h = all_of IsWrittenTree IsWhole (λ t written. written.whole) trees h.1.each
writable_complete (Unsafe db run) h = tt
writable_complete (Unknown entries spill) h = h.0.0

pub writable_cubes : (e : Evidence) → IsWritable e → HasCubes e
writable_cubes (Safe formulas trees) h = all_of IsSmallCube IsCube small_cube formulas h.0.each
writable_cubes (Unsafe db run) h = tt
writable_cubes (Unknown entries spill) h = tt
