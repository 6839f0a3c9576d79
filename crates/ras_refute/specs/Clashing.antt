-- When facts clash in the classes of a table.
use Rattle.std.specs.Prelude.{◌≡◌, ◌≢◌, ℕ, ◌<◌, false, List, length, get_or, slice_get, Option, Some, None}
use Rattle.ras_logic.specs.declared.term.Base.TheVariants.{Constant, Undef}
use Rattle.ras_logic.specs.declared.literal.Literal.{Literal}
use Rattle.ras_refute.specs.declared.entry.Entry.{Entry}
use Rattle.ras_refute.specs.declared.entry.Entry.TheVariants.{Root}
use Rattle.ras_refute.specs.declared.entry.Rigid.{Rigid}
use Rattle.ras_refute.specs.declared.entry.Rigid.TheVariants as rigid
use Rattle.ras_refute.specs.declared.entry.Pair.{Pair}
use Rattle.ras_refute.specs.Classes.{class, IsViolated}

-- what an entry is in each database, where it is an undef or a constant
abbrev pub rigid_of : Entry → Option Rigid
rigid_of (Root (Constant c)) = Some (rigid.Constant c)
rigid_of (Root (Undef s)) = Some rigid.Undef
rigid_of _ = None

-- the entry with that number is an undef or a constant
pub record IsRigid (es : List Entry) (i : ℕ) (r : Rigid) : Type 0 where
  pub entry : Entry
  pub is : slice_get es i ≡ Some entry
  pub rigid : rigid_of entry ≡ Some r

-- both sides of a fact that says not same are in one class
abbrev pub HasViolated : List Literal → List Pair → List ℕ → Type 0
HasViolated facts sides classes = (pair : Pair) × IsViolated facts sides classes false pair

-- two distinct constants, or a constant and undef, are in one class
pub record HasDistinct (es : List Entry) (classes : List ℕ) : Type 0 where
  pub i : ℕ
  pub j : ℕ
  pub left : Rigid
  pub right : Rigid
  pub left_is : IsRigid es i left
  pub right_is : IsRigid es j right
  pub differ : left ≢ right
  pub together : class classes i ≡ class classes j

-- each entry has a class, and classes have the numbers of entries
pub record AreBounded (es : List Entry) (classes : List ℕ) : Type 0 where
  pub as_many : length classes ≡ length es
  pub low : (i : ℕ) → i < length es → class classes i < length es

-- for each class of an undef or a constant below that number this one is noted, and nothing else
pub record AreNamed (es : List Entry) (classes : List ℕ) (named : List (Option Rigid)) (n : ℕ) : Type 0 where
  pub long : length named ≡ length es
  pub noted : (j : ℕ) (r : Rigid) → j < n → IsRigid es j r → get_or named (class classes j) None ≡ Some r
  pub known : (k : ℕ) (r : Rigid) → get_or named k None ≡ Some r → (j : ℕ) × IsRigid es j r × (class classes j ≡ k)
