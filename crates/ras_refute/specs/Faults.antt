-- The first node of a tree that is wrong.
use Rattle.std.specs.Prelude.{◌≡◌, ◌≢◌, ℕ, ◌+◌, ◌⊎◌, List, [], ◌∷◌, ◌++◌, length, slice_get, Some, None, ⊤}
use Rattle.ras_logic.specs.declared.ids.RelId.{RelId}
use Rattle.ras_logic.specs.declared.literal.Literal.{Literal}
use Rattle.ras_logic.specs.declared.problem.Problem.{Problem}
use Rattle.ras_logic.specs.declared.tree.Node.{Node}
use Rattle.ras_logic.specs.declared.tree.Node.TheVariants.{Leaf, Split}
use Rattle.ras_logic.specs.Schemas.{SchemaParts}
use Rattle.ras_logic.specs.Clashes.{FactsClash}
use Rattle.ras_logic.specs.Refutations.{AreRowsOf, children_facts}
use Rattle.ras_refute.specs.declared.tree_fault.TreeKind.{TreeKind}
use Rattle.ras_refute.specs.declared.tree_fault.TreeKind.TheVariants as kind
use Rattle.ras_refute.specs.declared.tree_fault.TreeFault.{TreeFault}
use Rattle.ras_refute.specs.declared.tree_fault.CloseError.{CloseError}
use Rattle.ras_refute.specs.declared.tree_fault.CloseError.TheVariants.{Fault, Memory}

-- the split is by this formula of the list, under rows of it, with one child for each literal
pub record IsSplitBy (formulas : List Problem) (rows : List RelId) (number : ℕ) (chosen : List ℕ) (children : ℕ) (formula : Problem) : Type 0 where
  pub known : slice_get formulas number ≡ Some formula
  pub rows_of : AreRowsOf rows formula.rows chosen
  pub one_each : children ≡ length formula.literals

-- what is wrong with a split: its formula is not in the list, or its rows are not the formula's, or it has a wrong number of children
abbrev pub IsSplitFault : List Problem → List RelId → ℕ → List ℕ → ℕ → TreeKind → Type 0
IsSplitFault formulas rows number chosen children kind.NoFormula = slice_get formulas number ≡ None
IsSplitFault formulas rows number chosen children kind.Rows = (f : Problem) × (slice_get formulas number ≡ Some f) × ¬ AreRowsOf rows f.rows chosen
IsSplitFault formulas rows number chosen children kind.Children =
    (f : Problem) × (slice_get formulas number ≡ Some f) × AreRowsOf rows f.rows chosen × (children ≢ length f.literals)
IsSplitFault formulas rows number chosen children kind.NoClash = ⊥

-- what is wrong with a node with these facts
abbrev pub IsNodeFault : SchemaParts → List Problem → List RelId → List Literal → Node → TreeKind → Type 0
IsNodeFault schema formulas rows facts Leaf kind.NoClash = ¬ FactsClash schema facts
IsNodeFault schema formulas rows facts Leaf _ = ⊥
IsNodeFault schema formulas rows facts (Split number chosen children) k = IsSplitFault formulas rows number chosen children k

-- The nodes are good, and their trees' facts are as many more lists: none below a leaf, and below a split one for each
-- literal of its formula.
abbrev pub IsGood : SchemaParts → List Problem → List RelId → List Literal → Node → List (List Literal) → Type 0
IsGood schema formulas rows facts Leaf more = FactsClash schema facts × (more ≡ [])
IsGood schema formulas rows facts (Split number chosen children) more =
    (f : Problem) × IsSplitBy formulas rows number chosen children f × (more ≡ children_facts facts chosen f.literals)

-- The first fault of trees in preorder, one for each of these lists of facts, whose nodes are counted from a number: it
-- is the first node's, or that node is good and it is that of the nodes that follow.
abbrev pub IsFirstFault : SchemaParts → List Problem → List RelId → ℕ → List (List Literal) → List Node → TreeFault → Type 0
IsFirstFault schema formulas rows number [] nodes fault = ⊥
IsFirstFault schema formulas rows number (facts ∷ pending) [] fault = ⊥
IsFirstFault schema formulas rows number (facts ∷ pending) (node ∷ nodes) fault =
    ((fault.node ≡ number) × IsNodeFault schema formulas rows facts node fault.kind)
    ⊎ ((more : List (List Literal)) × IsGood schema formulas rows facts node more × IsFirstFault schema formulas rows (number + 1) (more ++ pending) nodes fault)

-- the first fault of a tree that is to refute the premise by cases on the formulas
abbrev pub IsTreeFault : SchemaParts → Problem → List Problem → List Node → TreeFault → Type 0
IsTreeFault schema premise formulas nodes fault = IsFirstFault schema formulas premise.rows 0 (premise.literals ∷ []) nodes fault

-- where the error is a fault of the tree
abbrev pub OnFault : CloseError → (TreeFault → Type 0) → Type 0
OnFault (Fault fault) P = P fault
OnFault (Memory e) P = ⊤
