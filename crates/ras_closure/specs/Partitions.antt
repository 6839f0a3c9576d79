-- Classes of terms on the way to the least that are closed: too few terms may be in one class, and never too many.
use Rattle.std.specs.Prelude.{◌≡◌, ℕ, ◌<◌, ◌≤◌, List, length}
use Rattle.ras_logic.specs.declared.term.Term.{Term}
use Rattle.ras_logic.specs.Clashes.{Together}
use Rattle.ras_closure.specs.Numbered.{IsAt, TableParts}
use Rattle.ras_closure.specs.Assertions.{MarkParts, IsAsserted}
use Rattle.ras_closure.specs.Classes.{class, AreSound, Coarsens}
use Rattle.ras_closure.specs.Rules.{IsSaturated}

-- each term has a class that is the number of a term
pub record AreBelow (t : TableParts) (classes : List ℕ) : Type 0 where
  pub as_many : length classes ≡ length t.terms
  pub below : (i : ℕ) → i < length t.terms → class classes i < length t.terms

-- A class has the number of its first term, and terms of one class are together.
pub record ArePartial (t : TableParts) (marks : MarkParts) (classes : List ℕ) : Type 0 where
  pub as_many : length classes ≡ length t.terms
  pub low : (i : ℕ) → i < length t.terms → class classes i ≤ i
  pub own : (i : ℕ) → i < length t.terms → class classes (class classes i) ≡ class classes i
  pub sound : AreSound t.shape.schema t.problem.literals (IsAsserted t.terms marks) t.terms classes

-- the terms of these numbers must be the same
abbrev pub AreTogether : TableParts → MarkParts → ℕ → ℕ → Type 0
AreTogether t marks i j = (s u : Term) → IsAt t.terms i s → IsAt t.terms j u → Together t.shape.schema t.problem.literals (IsAsserted t.terms marks) s u

-- classes on the way, and marks for each pair of the table's terms
pub record AreClassesOf (t : TableParts) (marks : MarkParts) (classes : List ℕ) : Type 0 where
  pub width : marks.width ≡ length t.terms
  pub partial : ArePartial t marks classes

-- two terms of the table that must be the same
pub record MustBeSame (t : TableParts) (marks : MarkParts) (i j : ℕ) : Type 0 where
  pub left : i < length t.terms
  pub right : j < length t.terms
  pub together : AreTogether t marks i j

-- the end of a saturation: no rule asks for more, and what was in one class still is
pub record IsRest (t : TableParts) (marks : MarkParts) (old new : List ℕ) : Type 0 where
  pub partial : ArePartial t marks new
  pub saturated : IsSaturated t new
  pub coarser : Coarsens old new
