-- The elements of variables, cells and data parameters.
use Rattle.std.specs.Prelude.{◌≡◌, ℕ, ◌<◌, ◌⊎◌, List, [], length, get_or, slice_get, Some}
use Rattle.ras_logic.specs.declared.term.Base.{Base}
use Rattle.ras_logic.specs.declared.term.Term.{Term}
use Rattle.ras_logic.specs.declared.term.Base.TheVariants.{Var, Cell, Param}
use Rattle.ras_logic.specs.declared.ids.RelId.{RelId}
use Rattle.ras_logic.specs.declared.ids.SortId.{SortId}
use Rattle.ras_logic.specs.declared.values.Values.{Values}
use Rattle.ras_logic.specs.Terms.{base_term}
use Rattle.ras_logic.specs.Shapes.{ShapeParts}
use Rattle.ras_closure.specs.declared.values.Bases.{Bases}
use Rattle.ras_closure.specs.declared.values.Bases.TheVariants.{Vars, Cells, Params}
use Rattle.ras_closure.specs.Numbered.{IsAt}
use Rattle.ras_closure.specs.Elements.{number}

-- the element of a base: that of its term, or undef where it is no term of the list
abbrev pub IsElementOf : List Term → (ℕ → ℕ) → Base → ℕ → Type 0
IsElementOf terms number b x = ((i : ℕ) × IsAt terms i (base_term b) × (x ≡ number i)) ⊎ (((i : ℕ) → IsAt terms i (base_term b) → ⊥) × (x ≡ 0))

-- the elements of the first bases of one kind
pub record AreElementsOf (terms : List Term) (number : ℕ → ℕ) (base : ℕ → Base) (count : ℕ) (elements : List ℕ) : Type 0 where
  pub as_many : length elements ≡ count
  pub each : (k : ℕ) → k < count → IsElementOf terms number (base k) (get_or elements k 0)

-- the elements of the first bases of one kind, as far as the terms below n give them
pub record AreElementsTo (terms : List Term) (numbers : List ℕ) (base : ℕ → Base) (count n : ℕ) (elements : List ℕ) : Type 0 where
  pub as_many : length elements ≡ count
  pub each : (k : ℕ) → k < count → ((i : ℕ) × (i < n) × IsAt terms i (base_term (base k)) × (get_or elements k 0 ≡ number numbers i))
      ⊎ (((i : ℕ) → i < n → IsAt terms i (base_term (base k)) → ⊥) × (get_or elements k 0 ≡ 0))

-- the variable of that index
abbrev pub variable : ℕ → Base
variable k = Var (record { n = k })

-- the base of that index, of those of one kind
abbrev pub base_of : Bases → ℕ → Base
base_of Vars k = variable k
base_of (Cells row) k = Cell row k
base_of Params k = Param k

-- the first rows, with the elements of their cells
pub record AreRowsWith (shape : ShapeParts) (rows : List RelId) (terms : List Term) (number : ℕ → ℕ) (cells : List (List ℕ)) : Type 0 where
  pub each : (k : ℕ) (r : RelId) → k < length cells → slice_get rows k ≡ Some r
      → AreElementsOf terms number (Cell k) (length (get_or shape.relations r.n [])) (get_or cells k [])

-- the values of the variables, the named rows and the data parameters
pub record AreModelValues (shape : ShapeParts) (rows : List RelId) (params : List SortId) (terms : List Term) (number : ℕ → ℕ) (v : Values) : Type 0 where
  pub vars : AreElementsOf terms number variable (length shape.vars) v.vars
  pub as_many_rows : length v.rows ≡ length rows
  pub rows_with : AreRowsWith shape rows terms number v.rows
  pub param_values : AreElementsOf terms number Param (length params) v.params
