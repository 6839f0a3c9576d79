-- Refutation by cases: a tree that shows that whatever satisfies a premise meets one of some formulas.
use Rattle.std.specs.Prelude.{◌≡◌, ℕ, ◌<◌, List, [], ◌∷◌, ◌++◌, map, length, get_or, slice_get, Some, ⊤}
use Rattle.std.specs.List.{AllZip}
use Rattle.ras_logic.specs.declared.ids.RelId.{RelId}
use Rattle.ras_logic.specs.declared.term.Base.{Base}
use Rattle.ras_logic.specs.declared.term.Base.TheVariants.{Cell}
use Rattle.ras_logic.specs.declared.term.Term.{Term}
use Rattle.ras_logic.specs.declared.literal.Literal.{Literal}
use Rattle.ras_logic.specs.declared.problem.Problem.{Problem}
use Rattle.ras_logic.specs.declared.raw_db.RawDb.{RawDb}
use Rattle.ras_logic.specs.declared.values.Values.{Values}
use Rattle.ras_logic.specs.declared.tree.Node.{Node}
use Rattle.ras_logic.specs.declared.tree.Node.TheVariants.{Leaf, Split}
use Rattle.ras_logic.specs.Schemas.{SchemaParts}
use Rattle.ras_logic.specs.Terms.{base_term}
use Rattle.ras_logic.specs.Formulas.{negated, replace}
use Rattle.ras_logic.specs.Truth.{AllHold}
use Rattle.ras_logic.specs.Clashes.{FactsClash}

-- the chosen rows of the premise: as many as the formula's, each of its relation, all different
pub record AreRowsOf (premise formula : List RelId) (chosen : List ℕ) : Type 0 where
  pub relations : AllZip (λ (r : RelId) (k : ℕ). slice_get premise k ≡ Some r) formula chosen
  pub different : (i j : ℕ) → i < length chosen → j < length chosen → get_or chosen i 0 ≡ get_or chosen j 0 → i ≡ j

-- the formula's rows replaced by the chosen ones
abbrev pub chosen_row : List ℕ → Base → Term
chosen_row chosen (Cell row column) = base_term (Cell (get_or chosen row 0) column)
chosen_row chosen b = base_term b

-- the facts of each child: those of the node, and the negation of one literal
abbrev pub children_facts : List Literal → List ℕ → List Literal → List (List Literal)
children_facts facts chosen literals = map (λ (l : Literal). negated (replace (chosen_row chosen) l) ∷ facts) literals

-- The nodes are trees in preorder, one for each of these lists of facts: at a leaf the facts clash, and a split has one
-- child for each literal of its formula.
abbrev pub CloseAll : SchemaParts → List Problem → List RelId → List (List Literal) → List Node → Type 0
CloseAll schema formulas rows [] [] = ⊤
CloseAll schema formulas rows [] (node ∷ nodes) = ⊥
CloseAll schema formulas rows (facts ∷ pending) [] = ⊥
CloseAll schema formulas rows (facts ∷ pending) (Leaf ∷ nodes) = FactsClash schema facts × CloseAll schema formulas rows pending nodes
CloseAll schema formulas rows (facts ∷ pending) (Split formula chosen children ∷ nodes) =
    (f : Problem) × (slice_get formulas formula ≡ Some f) × AreRowsOf rows f.rows chosen × (children ≡ length f.literals)
    × CloseAll schema formulas rows (children_facts facts chosen f.literals ++ pending) nodes

-- the nodes are one tree that refutes the premise by cases on the formulas
abbrev pub Closes : SchemaParts → Problem → List Problem → List Node → Type 0
Closes schema premise formulas nodes = CloseAll schema formulas premise.rows (premise.literals ∷ []) nodes

-- some formula holds of some rows of the premise
pub record HoldsOfSome (d : RawDb) (v : Values) (rows : List RelId) (formulas : List Problem) : Type 0 where
  pub number : ℕ
  pub formula : Problem
  pub known : slice_get formulas number ≡ Some formula
  pub chosen : List ℕ
  pub rows_of : AreRowsOf rows formula.rows chosen
  pub literals : AllHold d v (map (replace (chosen_row chosen)) formula.literals)
