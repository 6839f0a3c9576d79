-- How far a walk over the nodes of a tree has come.
use Rattle.std.specs.Prelude.{◌≡◌, ◌<◌, ◌≤◌, ◌^◌, List, [], ◌∷◌, ◌++◌, length, take, drop, reverse, slice_get, Some, All, ⊤}
use Rattle.ras_logic.specs.declared.ids.RelId.{RelId}
use Rattle.ras_logic.specs.declared.literal.Literal.{Literal}
use Rattle.ras_logic.specs.declared.problem.Problem.{Problem}
use Rattle.ras_logic.specs.declared.tree.Node.{Node}
use Rattle.ras_logic.specs.Schemas.{SchemaParts}
use Rattle.ras_logic.specs.Formulas.{negated, replace}
use Rattle.ras_logic.specs.Refutations.{chosen_row, children_facts}
use Rattle.ras_refute.specs.declared.cases.Cases.{Cases}
use Rattle.ras_refute.specs.Faults.{IsGood}

-- the facts of the cases of a split that are left
abbrev pub left_of_split : List Literal → Cases → List (List Literal)
left_of_split facts c = children_facts (reverse (take c.above facts)) c.rows.now (drop c.next c.literals.now)

-- the facts of all cases that are left, those of the last split first
abbrev pub waiting : List Literal → List Cases → List (List Literal)
waiting facts [] = []
waiting facts (c ∷ splits) = left_of_split facts c ++ waiting (take c.above facts) splits

-- each split has a case left, and stands below the facts of the splits before it
abbrev pub AreOpen : List Literal → List Cases → Type 0
AreOpen facts [] = ⊤
AreOpen facts (c ∷ splits) = (c.above ≤ length facts) × (c.next < length c.literals.now) × All (λ k. k < 2 ^ 16) c.rows.now × AreOpen (take c.above facts) splits

-- the facts of the next case of a split: those above the split, and the negation of the case's literal
pub record EntersCase (c : Cases) (old new : List Literal) : Type 0 where
  pub literal : Literal
  pub known : slice_get c.literals.now c.next ≡ Some literal
  pub facts : new ≡ take c.above old ++ negated (replace (chosen_row c.rows.now) literal) ∷ []

-- The walk stands before trees with these lists of facts: the first is the facts so far, the last of them first, and the
-- others are those of the splits that are open, the last of them first.
abbrev pub StandsBefore : List (List Literal) → List Literal → List Cases → Type 0
StandsBefore [] facts splits = splits ≡ []
StandsBefore (here ∷ pending) facts splits = (here ≡ reverse facts) × (pending ≡ waiting facts (reverse splits)) × AreOpen facts (reverse splits)

-- the walk has passed a good node
pub record Passes (schema : SchemaParts) (formulas : List Problem) (rows : List RelId) (node : Node) (facts : List Literal) (splits : List Cases)
    (facts_after : List Literal) (splits_after : List Cases) : Type 0 where
  pub more : List (List Literal)
  pub good : IsGood schema formulas rows (reverse facts) node more
  pub stands : StandsBefore (more ++ waiting facts (reverse splits)) facts_after splits_after
