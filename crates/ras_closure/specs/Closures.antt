-- What a closure is: the terms of a problem, what was asserted of them, their classes, and the clash if there is one.
use Rattle.std.specs.Prelude.{◌≡◌, ◌≢◌, ℕ, ◌<◌, ◌⊎◌, ◌↔◌, Bool, false, List, length, Option, Some, None, Result, Err, OnOk, IfErr, IsTrue}
use Rattle.ras_logic.specs.declared.literal.Literal.{Literal}
use Rattle.ras_logic.specs.declared.term.Term.{Term}
use Rattle.ras_logic.specs.declared.ids.SortId.{SortId}
use Rattle.ras_logic.specs.declared.literal.Literal.TheVariants.{Equal}
use Rattle.ras_logic.specs.declared.raw_db.RawDb.{RawDb}
use Rattle.ras_logic.specs.declared.values.Values.{Values}
use Rattle.ras_logic.specs.declared.ids.ConstId.{ConstId}
use Rattle.ras_logic.specs.Clashes.{Together, Clash as TheyClash}
use Rattle.ras_logic.specs.Terms.{constant_term, undef_term}
use Rattle.ras_logic.specs.Truth.{holds, AreValues}
use Rattle.ras_logic.specs.Databases.{IsDatabase}
use Rattle.ras_closure.specs.declared.clash.Clash.{Clash}
use Rattle.ras_closure.specs.declared.term_no.TermNo.{TermNo}
use Rattle.ras_closure.specs.Numbered.{IsAt, IsSortOf, TableParts}
use Rattle.ras_closure.specs.Assertions.{MarkParts, IsAsserted, FactsFit}
use Rattle.ras_closure.specs.Classes.{AreClosed}
use Rattle.ras_closure.specs.Partitions.{ArePartial}
use Rattle.ras_closure.specs.Verdicts.{IsVerdict}

-- the terms, the assertions, for each term its class, and the clash if there is one
pub record ClosureParts : Type 0 where
  pub table : TableParts
  pub marks : MarkParts
  pub classes : List ℕ
  pub clash : Option Clash

-- the literal was asserted
abbrev pub IsFactOf : ClosureParts → Literal → Type 0
IsFactOf c = IsAsserted c.table.terms c.marks

-- what was asserted puts the two terms together
abbrev pub AreTogetherIn : ClosureParts → Term → Term → Type 0
AreTogetherIn c = Together c.table.shape.schema c.table.problem.literals (IsFactOf c)

-- what was asserted clashes
abbrev pub FactsClashIn : ClosureParts → Type 0
FactsClashIn c = TheyClash c.table.shape.schema c.table.problem.literals (IsFactOf c)

-- the number of a term
abbrev pub IsNo : ClosureParts → TermNo → Type 0
IsNo c t = t.n < length c.table.terms

-- the terms of these numbers have one sort
pub record AreOfOneSort (c : ClosureParts) (i j : TermNo) : Type 0 where
  pub both : (s t : Term) → IsAt c.table.terms i.n s → IsAt c.table.terms j.n t → (sort : SortId) × IsSortOf c.table s sort × IsSortOf c.table t sort

-- The classes are those of what was asserted, which fits; without a clash they are unbroken, and a clash names two terms
-- that clash.
pub record IsClosure (c : ClosureParts) : Type 0 where
  pub width : c.marks.width ≡ length c.table.terms
  pub facts_fit : FactsFit c.table c.marks
  pub partial : ArePartial c.table c.marks c.classes
  pub closed : AreClosed c.table.shape.schema (IsFactOf c) c.table.terms c.classes
  pub verdict : IsVerdict c.table c.marks c.classes c.clash

-- the literal says of the terms of these numbers that they are the same, or that they are not
abbrev pub IsLiteralOf : ClosureParts → Bool → TermNo → TermNo → Literal → Type 0
IsLiteralOf c same i j l = (s : Term) × (t : Term) × IsAt c.table.terms i.n s × IsAt c.table.terms j.n t × (l ≡ Equal s t same)

-- one more fact
pub record AddsFact (old new : ClosureParts) (same : Bool) (i j : TermNo) : Type 0 where
  pub table : new.table ≡ old.table
  pub facts : (l : Literal) → IsFactOf new l ↔ (IsFactOf old l ⊎ IsLiteralOf old same i j l)

-- An assertion's answer. A closure that has a clash answers it and stays as it is. Else there is one more fact, and the
-- closure then has the clash that is answered, if one is.
pub record Asserts {T : Type 0} (old new : ClosureParts) (same : Bool) (left right : TermNo) (result : Result T Clash) : Type 0 where
  pub spent : (q : Clash) → old.clash ≡ Some q → (result ≡ Err q) × (new ≡ old)
  pub added : old.clash ≡ None → AddsFact old new same left right
  pub ok : OnOk result (new.clash ≡ None)
  pub clash : IfErr result (λ q. new.clash ≡ Some q)

-- every fact holds
abbrev pub EachHolds : RawDb → Values → (Literal → Type 0) → Type 0
EachHolds d v IsFact = (l : Literal) → IsFact l → IsTrue (holds d v l)

-- no database and values satisfy what was asserted
abbrev pub HasNoModel : ClosureParts → Type 0
HasNoModel c = (d : RawDb) (v : Values) → IsDatabase c.table.shape.schema d
    → AreValues c.table.shape d c.table.problem.rows c.table.problem.params v → EachHolds d v (IsFactOf c) → ⊥

-- why two terms can't be the same: they were asserted apart, or are two constants, or a constant and undef
pub data Conflict (IsFact : Literal → Type 0) : Term → Term → Type 0 where
  asserted_apart : (s t : Term) → IsFact (Equal s t false) → Conflict IsFact s t
  constants : (a b : ConstId) → a ≢ b → Conflict IsFact (constant_term a) (constant_term b)
  constant_and_undef : (a : ConstId) (s : SortId) → Conflict IsFact (constant_term a) (undef_term s)
  undef_and_constant : (s : SortId) (a : ConstId) → Conflict IsFact (undef_term s) (constant_term a)

-- two terms that must be the same, and can't be
pub record NamesConflict (c : ClosureParts) (q : Clash) : Type 0 where
  pub s : Term
  pub t : Term
  pub left : IsAt c.table.terms q.left.n s
  pub right : IsAt c.table.terms q.right.n t
  pub together : AreTogetherIn c s t
  pub conflict : Conflict (IsFactOf c) s t
