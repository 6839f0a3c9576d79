-- What is known of a formula under chosen rows of a premise.
use Rattle.std.specs.Prelude.{ℕ, List, true, false, ⊤, All, Contains}
use Rattle.ras_logic.specs.declared.term.Base.{Base}
use Rattle.ras_logic.specs.declared.term.Base.TheVariants.{Cell}
use Rattle.ras_logic.specs.declared.literal.Literal.{Literal}
use Rattle.ras_logic.specs.declared.literal.Literal.TheVariants.{Equal}
use Rattle.ras_logic.specs.declared.problem.Problem.{Problem}
use Rattle.ras_logic.specs.Shapes.{ShapeParts}
use Rattle.ras_logic.specs.Formulas.{replace}
use Rattle.ras_logic.specs.Refutations.{chosen_row}
use Rattle.ras_known.specs.Knowledge.{IsTruth}
use Rattle.ras_entail.specs.declared.judging.Standing.{Standing}
use Rattle.ras_entail.specs.declared.judging.Standing.TheVariants as standing

-- the base is no cell of a named row
abbrev pub IsNoCell : Base → Type 0
IsNoCell (Cell row column) = ⊥
IsNoCell _ = Unit {0}

-- the literal names no row
abbrev pub NamesNoRow : Literal → Type 0
NamesNoRow (Equal left right same) = IsNoCell left.base × IsNoCell right.base

-- some literal of the formula names no row, and fails wherever the premise holds
pub record HasFailing (shape : ShapeParts) (premise formula : Problem) : Type 0 where
  pub literal : Literal
  pub among : Contains formula.literals literal
  pub no_row : NamesNoRow literal
  pub fails : IsTruth shape premise literal false

-- under these rows some literal of the formula fails wherever the premise holds, or each holds there
abbrev pub StandsAs : ShapeParts → Problem → Problem → List ℕ → Standing → Type 0
StandsAs shape premise formula rows standing.Fails =
    (l : Literal) × Contains formula.literals l × IsTruth shape premise (replace (chosen_row rows) l) false
StandsAs shape premise formula rows standing.Holds = All (λ (l : Literal). IsTruth shape premise (replace (chosen_row rows) l) true) formula.literals
StandsAs shape premise formula rows standing.Open = ⊤
