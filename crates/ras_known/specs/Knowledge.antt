-- What the closure of a premise tells of terms and literals.
use Rattle.std.specs.Prelude.{◌≡◌, ◌≢◌, ℕ, Bool, Some, All}
use Rattle.ras_logic.specs.declared.ids.SortId.{SortId}
use Rattle.ras_logic.specs.declared.raw_db.RawDb.{RawDb}
use Rattle.ras_logic.specs.declared.values.Values.{Values}
use Rattle.ras_logic.specs.declared.term.Term.{Term}
use Rattle.ras_logic.specs.declared.literal.Literal.{Literal}
use Rattle.ras_logic.specs.declared.problem.Problem.{Problem}
use Rattle.ras_logic.specs.Shapes.{ShapeParts}
use Rattle.ras_logic.specs.Databases.{IsDatabase}
use Rattle.ras_logic.specs.Terms.{sort_of}
use Rattle.ras_logic.specs.Formulas.{Fits}
use Rattle.ras_logic.specs.Literals.{left_of, right_of}
use Rattle.ras_logic.specs.Truth.{Satisfies, value, holds}
use Rattle.ras_closure.specs.Numbered.{IsAt}
use Rattle.ras_closure.specs.Classes.{class}
use Rattle.ras_closure.specs.Closures.{ClosureParts}
use Rattle.ras_closure.specs.Closings.{IsClosureOf}
use Rattle.ras_known.specs.declared.known.Sides.{Sides}
use Rattle.ras_known.specs.declared.known.Known.{Known}

-- the term is one of the closure's, and has this class
pub record IsInClass (c : ClosureParts) (t : Term) (i : ℕ) : Type 0 where
  pub number : ℕ
  pub known : IsAt c.table.terms number t
  pub of_class : class c.classes number ≡ i

-- the classes of both sides of a literal
pub record AreClassesOf (c : ClosureParts) (l : Literal) (sides : Sides) : Type 0 where
  pub left : IsInClass c (left_of l) sides.left
  pub right : IsInClass c (right_of l) sides.right

-- the terms have different values wherever the premise holds
abbrev pub DifferWherever : ShapeParts → Problem → Term → Term → Type 0
DifferWherever shape premise s t = (d : RawDb) (v : Values) → IsDatabase shape.schema d → Satisfies shape d v premise → value d v s ≢ value d v t

-- terms of these two classes have different values wherever the premise holds
abbrev pub AreApart : ShapeParts → Problem → ClosureParts → Sides → Type 0
AreApart shape premise c sides = (s t : Term) → IsInClass c s sides.left → IsInClass c t sides.right → DifferWherever shape premise s t

-- the same of terms that have one sort
abbrev pub AreKeptApart : ShapeParts → Problem → ClosureParts → Sides → Type 0
AreKeptApart shape premise c sides =
    (s t : Term) (sort : SortId) → sort_of shape premise.rows premise.params s ≡ Some sort → sort_of shape premise.rows premise.params t ≡ Some sort
    → IsInClass c s sides.left → IsInClass c t sides.right → DifferWherever shape premise s t

-- wherever the premise holds, this tells whether the literal does
abbrev pub IsTruth : ShapeParts → Problem → Literal → Bool → Type 0
IsTruth shape premise l is = (d : RawDb) (v : Values) → IsDatabase shape.schema d → Satisfies shape d v premise → holds d v l ≡ is

-- the premise fits the shape, the closure is that of its literals, and these keep the listed classes apart
pub record IsKnown (k : Known) : Type 0 where
  pub fits : Fits k.shape.now k.premise.now
  pub closure : IsClosureOf k.shape.now k.premise.now k.closure.now
  pub apart : All (AreApart k.shape.now k.premise.now k.closure.now) k.apart.now
