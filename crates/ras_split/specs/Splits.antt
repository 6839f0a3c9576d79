-- How the facts of a closure are split into cases: each term that nothing stands for is undef, or is not.
use Rattle.std.specs.Prelude.{◌≡◌, ◌≢◌, ℕ, ◌<◌, ◌⊎◌, true, false, List, length, slice_get, Some, None}
use Rattle.ras_logic.specs.declared.ids.SortId.{SortId}
use Rattle.ras_logic.specs.declared.term.Term.{Term}
use Rattle.ras_logic.specs.declared.literal.Literal.{Literal}
use Rattle.ras_logic.specs.declared.literal.Literal.TheVariants.{Equal}
use Rattle.ras_logic.specs.declared.raw_db.RawDb.{RawDb}
use Rattle.ras_logic.specs.declared.values.Values.{Values}
use Rattle.ras_logic.specs.Databases.{IsDatabase}
use Rattle.ras_logic.specs.Truth.{AreValues, value}
use Rattle.ras_logic.specs.Terms.{undef_term}
use Rattle.ras_closure.specs.declared.term_no.TermNo.{TermNo}
use Rattle.ras_logic.specs.declared.ids.FunId.{FunId}
use Rattle.ras_logic.specs.declared.function.FunDecl.{FunDecl}
use Rattle.ras_closure.specs.Numbered.{IsAt, IsSortOf, IsImageLink}
use Rattle.ras_closure.specs.Closures.{ClosureParts, IsFactOf, EachHolds, IsNo, AreOfOneSort}
use Rattle.ras_split.specs.Among.{IsAmong}
use Rattle.ras_split.specs.Standing.{CaseParts, IsKept}

-- a database and values of the problem in which what was asserted holds
pub record IsModel (c : ClosureParts) (d : RawDb) (v : Values) : Type 0 where
  pub database : IsDatabase c.table.shape.schema d
  pub values : AreValues c.table.shape d c.table.problem.rows c.table.problem.params v
  pub facts : EachHolds d v (IsFactOf c)

-- the term was asserted not to be undef
pub record IsDefined (c : ClosureParts) (t : Term) : Type 0 where
  pub sort : SortId
  pub is_sort : IsSortOf c.table t sort
  pub fact : IsFactOf c (Equal t (undef_term sort) false)

-- none of the terms is its image under a total function
abbrev pub HasNoTotalImage : ClosureParts → ℕ → Type 0
HasNoTotalImage c i = (k : ℕ) (f : FunId) (decl : FunDecl) → IsImageLink c.table.links k i f → slice_get c.table.shape.schema.functions f.n ≡ Some decl → decl.total ≡ true → ⊥

-- something stands for the term of that number, or it was asserted not to be undef, or it has no image under a total function
abbrev pub IsSettled : ClosureParts → ℕ → Type 0
IsSettled c i = ((t : Term) → IsAt c.table.terms i t → IsKept c t ⊎ IsDefined c t) ⊎ HasNoTotalImage c i

-- the same terms with the same facts and maybe more, without a clash
pub record HasMore (old new : ClosureParts) : Type 0 where
  pub table : new.table ≡ old.table
  pub no_clash : new.clash ≡ None
  pub facts : (l : Literal) → IsFactOf old l → IsFactOf new l

-- the facts of one of the cases hold
pub record HoldsIn (d : RawDb) (v : Values) (cases : List CaseParts) : Type 0 where
  pub one : CaseParts
  pub among : IsAmong cases one
  pub facts : EachHolds d v (IsFactOf one.closure)

-- a case in which the term of that number is settled
pub record IsSplit (old new : ClosureParts) (i : ℕ) : Type 0 where
  pub more : HasMore old new
  pub settled : IsSettled new i

-- Cases were added, in each of which the term of that number is settled, and one of which holds where the closure's facts hold
-- and `When` does.
pub record AddsCases (c : ClosureParts) (i : ℕ) (When : RawDb → Values → Type 0) (old new : List CaseParts) : Type 0 where
  pub kept : (e : CaseParts) → IsAmong old e → IsAmong new e
  pub each : (e : CaseParts) → IsAmong new e → IsAmong old e ⊎ IsSplit c e.closure i
  pub complete : (d : RawDb) (v : Values) → IsModel c d v → When d v → HoldsIn d v new

-- the value of the term of that number is undef
abbrev pub IsUndefAt : ClosureParts → ℕ → RawDb → Values → Type 0
IsUndefAt c i d v = (t : Term) → IsAt c.table.terms i t → value d v t ≡ 0

-- the value of the term of that number is not undef
abbrev pub IsDefinedAt : ClosureParts → ℕ → RawDb → Values → Type 0
IsDefinedAt c i d v = (t : Term) → IsAt c.table.terms i t → value d v t ≢ 0

-- of any database and values
abbrev pub Always : RawDb → Values → Type 0
Always d v = Unit {0}

-- without a clash, with a term of that number
pub record IsOpen (i : ℕ) (c : ClosureParts) : Type 0 where
  pub no_clash : c.clash ≡ None
  pub within : i < length c.table.terms

-- the number of the undef of the term's sort
pub record IsUndefOf (c : ClosureParts) (i u : TermNo) : Type 0 where
  pub is_no : IsNo c u
  pub one_sort : AreOfOneSort c i u
  pub sorted : (t : Term) → IsAt c.table.terms i.n t → (sort : SortId) × IsSortOf c.table t sort × IsAt c.table.terms u.n (undef_term sort)

-- one of the old cases with the term of that number settled
pub record IsSplitOf (old : List CaseParts) (i : ℕ) (e : ClosureParts) : Type 0 where
  pub from : CaseParts
  pub among : IsAmong old from
  pub split : IsSplit from.closure e i

-- every case is one of the old ones with the term of that number settled, and some holds wherever an old one does
pub record AreSplits (old : List CaseParts) (i : ℕ) (new : List CaseParts) : Type 0 where
  pub each : (e : CaseParts) → IsAmong new e → IsSplitOf old i e.closure
  pub complete : (c : CaseParts) → IsAmong old c → (d : RawDb) (v : Values) → IsModel c.closure d v → HoldsIn d v new

-- the first terms are settled
pub record IsCaseTo (first : ClosureParts) (n : ℕ) (c : ClosureParts) : Type 0 where
  pub more : HasMore first c
  pub settled : (i : ℕ) → i < n → IsSettled c i

-- cases of a closure with the first terms settled, of which one holds wherever the closure's facts do
pub record AreCasesTo (first : ClosureParts) (n : ℕ) (cases : List CaseParts) : Type 0 where
  pub each : (c : CaseParts) → IsAmong cases c → IsCaseTo first n c.closure
  pub complete : (d : RawDb) (v : Values) → IsModel first d v → HoldsIn d v cases

-- the cases of a closure, with every term settled
abbrev pub AreCases : ClosureParts → List CaseParts → Type 0
AreCases first cases = AreCasesTo first (length first.table.terms) cases
