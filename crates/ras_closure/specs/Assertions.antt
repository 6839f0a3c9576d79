-- What was asserted of the terms.
use Rattle.std.specs.Prelude.{◌≡◌, ℕ, ◌+◌, ◌*◌, ◌<◌, ◌⊎◌, Bool, true, false, List, get_or}
use Rattle.ras_logic.specs.declared.term.Term.{Term}
use Rattle.ras_logic.specs.declared.literal.Literal.{Literal}
use Rattle.ras_logic.specs.declared.literal.Literal.TheVariants.{Equal}
use Rattle.ras_logic.specs.Formulas.{LiteralFits}
use Rattle.ras_closure.specs.Numbered.{IsAt, TableParts}

-- the tables over pairs of terms, row by row: whether they were asserted the same, and whether apart
pub record MarkParts : Type 0 where
  pub width : ℕ
  pub same : List Bool
  pub apart : List Bool

-- the table of what was asserted the same, or that of what was asserted apart
abbrev pub marks_of : MarkParts → Bool → List Bool
marks_of marks true = marks.same
marks_of marks false = marks.apart

-- whether the pair was asserted the same, or apart
abbrev pub is_marked : MarkParts → Bool → ℕ → ℕ → Bool
is_marked marks same i j = get_or (marks_of marks same) (i * marks.width + j) false

-- the literal was asserted
abbrev pub IsAsserted : List Term → MarkParts → Literal → Type 0
IsAsserted terms marks (Equal s t same) = (i : ℕ) × (j : ℕ) × IsAt terms i s × IsAt terms j t × (is_marked marks same i j ≡ true)

-- one more pair was asserted the same, or apart
pub record AddsMark (old new : MarkParts) (same : Bool) (i j : ℕ) : Type 0 where
  pub width : new.width ≡ old.width
  pub here : is_marked new same i j ≡ true
  pub kept : (b : Bool) (k l : ℕ) → is_marked old b k l ≡ true → is_marked new b k l ≡ true
  pub only : (b : Bool) (k l : ℕ) → k < old.width → l < old.width → is_marked new b k l ≡ true
      → (is_marked old b k l ≡ true) ⊎ ((b ≡ same) × (k ≡ i) × (l ≡ j))

-- what was asserted fits the shape
abbrev pub FactsFit : TableParts → MarkParts → Type 0
FactsFit t marks = (l : Literal) → IsAsserted t.terms marks l → LiteralFits t.shape t.problem.rows t.problem.params l
