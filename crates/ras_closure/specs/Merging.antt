-- When two classes may become one, and what speaks against it.
use Rattle.std.specs.Prelude.{◌≡◌, ℕ, ◌<◌, ◌≤◌, ◌⊎◌, true, false, List}
use Rattle.ras_closure.specs.declared.clash.Clash.{Clash}
use Rattle.ras_closure.specs.Numbered.{TableParts, rigid_count}
use Rattle.ras_closure.specs.Assertions.{MarkParts, is_marked}
use Rattle.ras_closure.specs.Classes.{class}

-- a term of one class and one of the other were asserted apart
pub record AreDisequal (marks : MarkParts) (classes : List ℕ) (a b i j : ℕ) : Type 0 where
  pub marked : is_marked marks false i j ≡ true
  pub left : i < marks.width
  pub right : j < marks.width
  pub ends : ((class classes i ≡ a) × (class classes j ≡ b)) ⊎ ((class classes i ≡ b) × (class classes j ≡ a))

-- the two were not asserted apart, in either order
pub record IsUnmarked (marks : MarkParts) (i j : ℕ) : Type 0 where
  pub forth : is_marked marks false i j ≡ true → ⊥
  pub back : is_marked marks false j i ≡ true → ⊥

-- the term was asserted apart from none of the class, of those below the number
abbrev pub HasNoDisequality : MarkParts → List ℕ → ℕ → ℕ → ℕ → Type 0
HasNoDisequality marks classes i b n = (j : ℕ) → j < n → class classes j ≡ b → IsUnmarked marks i j

-- no term of the one class, of those below the number, was asserted apart from one of the other class
abbrev pub HaveNoDisequality : MarkParts → List ℕ → ℕ → ℕ → ℕ → Type 0
HaveNoDisequality marks classes a b n = (i : ℕ) → i < n → class classes i ≡ a → HasNoDisequality marks classes i b marks.width

-- the classes may become one
pub record MayMerge (t : TableParts) (marks : MarkParts) (classes : List ℕ) (to from : ℕ) : Type 0 where
  pub above : rigid_count t ≤ from
  pub no_disequality : HaveNoDisequality marks classes to from marks.width

-- two undefs or constants, or terms of the two classes that were asserted apart
abbrev pub AreConflicting : TableParts → MarkParts → List ℕ → ℕ → ℕ → Clash → Type 0
AreConflicting t marks classes to from q =
    ((from < rigid_count t) × (q.left.n ≡ to) × (q.right.n ≡ from)) ⊎ AreDisequal marks classes to from q.left.n q.right.n
