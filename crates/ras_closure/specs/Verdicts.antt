-- What speaks against the classes: terms that must be the same, and cannot be.
use Rattle.std.specs.Prelude.{◌≡◌, ◌≢◌, ℕ, ◌<◌, ◌⊎◌, true, false, List, length, Option, Some, None}
use Rattle.ras_closure.specs.declared.clash.Clash.{Clash}
use Rattle.ras_closure.specs.Numbered.{TableParts, rigid_count}
use Rattle.ras_closure.specs.Assertions.{MarkParts, is_marked}
use Rattle.ras_closure.specs.Classes.{class}
use Rattle.ras_closure.specs.Partitions.{AreTogether}

-- Two terms that must be the same, and were asserted apart or are different ones of the undefs and constants.
pub record AreClashing (t : TableParts) (marks : MarkParts) (i j : ℕ) : Type 0 where
  pub left : i < length t.terms
  pub right : j < length t.terms
  pub together : AreTogether t marks i j
  pub reason : (is_marked marks false i j ≡ true) ⊎ ((i < rigid_count t) × (j < rigid_count t) × (i ≢ j))

-- undef and the constants have classes of their own, and terms that were asserted apart are in two classes
pub record AreUnbroken (t : TableParts) (marks : MarkParts) (classes : List ℕ) : Type 0 where
  pub rigid : (k : ℕ) → k < rigid_count t → class classes k ≡ k
  pub apart : (i j : ℕ) → i < marks.width → j < marks.width → is_marked marks false i j ≡ true → class classes i ≢ class classes j

-- without a clash the classes are unbroken, and a clash names two terms that clash
pub record IsVerdict (t : TableParts) (marks : MarkParts) (classes : List ℕ) (clash : Option Clash) : Type 0 where
  pub unbroken : clash ≡ None → AreUnbroken t marks classes
  pub clashing : (q : Clash) → clash ≡ Some q → AreClashing t marks q.left.n q.right.n
