-- What a term stands for and when a literal holds, in a database and under values.
use Rattle.std.specs.Prelude.{◌≡◌, ℕ, Bool, true, false, not, List, [], ◌∷◌, length, get_or, slice_get, nat_eq, IsTrue, All, Some}
use Rattle.ras_logic.specs.declared.ids.SortId.{SortId}
use Rattle.ras_logic.specs.declared.ids.FunId.{FunId}
use Rattle.ras_logic.specs.declared.ids.RelId.{RelId}
use Rattle.ras_logic.specs.declared.raw_db.RawDb.{RawDb}
use Rattle.ras_logic.specs.declared.values.Values.{Values}
use Rattle.ras_logic.specs.declared.term.Base.{Base}
use Rattle.ras_logic.specs.declared.term.Base.TheVariants.{Var, Cell, Constant, Undef, Param}
use Rattle.ras_logic.specs.declared.term.Term.{Term}
use Rattle.ras_logic.specs.declared.literal.Literal.{Literal}
use Rattle.ras_logic.specs.declared.literal.Literal.TheVariants.{Equal}
use Rattle.ras_logic.specs.declared.problem.Problem.{Problem}
use Rattle.ras_logic.specs.Shapes.{ShapeParts}
use Rattle.ras_logic.specs.Databases.{image, constant_of, IsElement}

abbrev pub value_of_base : RawDb → Values → Base → ℕ
value_of_base d v (Var x) = get_or v.vars x.n 0
value_of_base d v (Cell row column) = get_or (get_or v.rows row []) column 0
value_of_base d v (Constant c) = constant_of d c.n
value_of_base d v (Undef s) = 0
value_of_base d v (Param p) = get_or v.params p 0

abbrev pub image_along : RawDb → List FunId → ℕ → ℕ
image_along d [] x = x
image_along d (f ∷ path) x = image_along d path (image d f.n x)

-- the element of the term's base, then the image under each function of the path in order
abbrev pub value : RawDb → Values → Term → ℕ
value d v t = image_along d t.path (value_of_base d v t.base)

-- whether the values of both sides are equal, or different, as the literal says
abbrev pub holds : RawDb → Values → Literal → Bool
holds d v (Equal left right true) = nat_eq (value d v left) (value d v right)
holds d v (Equal left right false) = not (nat_eq (value d v left) (value d v right))

abbrev pub AllHold : RawDb → Values → List Literal → Type 0
AllHold d v literals = All (λ l. IsTrue (holds d v l)) literals

-- the numbers are elements of these sorts, one for each
pub record AreElements (d : RawDb) (sorts : List SortId) (numbers : List ℕ) : Type 0 where
  pub as_many : length numbers ≡ length sorts
  pub each : (k : ℕ) (s : SortId) → slice_get sorts k ≡ Some s → IsElement d s (get_or numbers k 0)

-- the cells of a row of a relation
abbrev pub IsRow : ShapeParts → RawDb → RelId → List ℕ → Type 0
IsRow shape d r cells = AreElements d (get_or shape.relations r.n []) cells

-- values for the variables, the named rows and the data parameters
pub record AreValues (shape : ShapeParts) (d : RawDb) (rows : List RelId) (params : List SortId) (v : Values) : Type 0 where
  pub vars : AreElements d shape.vars v.vars
  pub as_many_rows : length v.rows ≡ length rows
  pub each_row : (k : ℕ) (r : RelId) → slice_get rows k ≡ Some r → IsRow shape d r (get_or v.rows k [])
  pub param_values : AreElements d params v.params

-- the values are those of the problem's rows and data parameters, and every literal holds
pub record Satisfies (shape : ShapeParts) (d : RawDb) (v : Values) (p : Problem) : Type 0 where
  pub values : AreValues shape d p.rows p.params v
  pub literals : AllHold d v p.literals
