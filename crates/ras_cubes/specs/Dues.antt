-- The literals of the cube of a case: what stands for the terms is as the facts say, as far as they say it.
use Rattle.std.specs.Prelude.{◌≡◌, ℕ, ◌<◌, ◌⊎◌, true, false, List, [], slice_get, Option, Some, None}
use Rattle.ras_logic.specs.declared.ids.FunId.{FunId}
use Rattle.ras_logic.specs.declared.function.FunDecl.{FunDecl}
use Rattle.ras_logic.specs.declared.term.Term.{Term}
use Rattle.ras_logic.specs.declared.literal.Literal.{Literal}
use Rattle.ras_logic.specs.declared.literal.Literal.TheVariants.{Equal}
use Rattle.ras_logic.specs.declared.problem.Problem.{Problem}
use Rattle.ras_logic.specs.Terms.{undef_term}
use Rattle.ras_closure.specs.Numbered.{IsAt, IsImageLink, IsTable}
use Rattle.ras_closure.specs.Closures.{ClosureParts, IsClosure}
use Rattle.ras_logic.specs.Clashes.{IsTerm}
use Rattle.ras_split.specs.Among.{IsAmong}
use Rattle.ras_logic.specs.Literals.{left_of, right_of}
use Rattle.ras_logic.specs.Shapes.{ShapeParts}
use Rattle.ras_cubes.specs.Reduced.{IsReducedCube}
use Rattle.ras_split.specs.Standing.{CaseParts, standing, IsOwn, AreAllStanding}

-- what stands for a term by how it is made is the same as what stands for its class
pub record IsTermDue (c : ClosureParts) (terms : List (Option Term)) (i : ℕ) (l : Literal) : Type 0 where
  pub own : Term
  pub by : Term
  pub is_own : IsOwn c terms i own
  pub stands : standing c terms i ≡ Some by
  pub is : l ≡ Equal own by true

-- what stands for the image of a term under a total function is not undef, where nothing stands for the term
pub record IsImageDue (c : ClosureParts) (terms : List (Option Term)) (k : ℕ) (l : Literal) : Type 0 where
  pub of : ℕ
  pub f : FunId
  pub decl : FunDecl
  pub by : Term
  pub link : IsImageLink c.table.links k of f
  pub known : slice_get c.table.shape.schema.functions f.n ≡ Some decl
  pub total : decl.total ≡ true
  pub none : standing c terms of ≡ None
  pub stands : standing c terms k ≡ Some by
  pub is : l ≡ Equal by (undef_term decl.target) false

-- what stands for the two sides of a literal that says not same is not the same
pub record IsFactDueOf (c : ClosureParts) (terms : List (Option Term)) (fact l : Literal) : Type 0 where
  pub s : Term
  pub t : Term
  pub i : ℕ
  pub j : ℕ
  pub q : Term
  pub r : Term
  pub sides : fact ≡ Equal s t false
  pub left : IsAt c.table.terms i s
  pub right : IsAt c.table.terms j t
  pub left_by : standing c terms i ≡ Some q
  pub right_by : standing c terms j ≡ Some r
  pub is : l ≡ Equal q r false

-- the same of the problem's literal of that number
pub record IsFactDue (c : ClosureParts) (terms : List (Option Term)) (n : ℕ) (l : Literal) : Type 0 where
  pub fact : Literal
  pub known : slice_get c.table.problem.literals n ≡ Some fact
  pub due : IsFactDueOf c terms fact l

-- both sides are terms of the closure
pub record SidesAreTerms (c : ClosureParts) (l : Literal) : Type 0 where
  pub left : IsTerm c.table.shape.schema c.table.problem.literals (left_of l)
  pub right : IsTerm c.table.shape.schema c.table.problem.literals (right_of l)

-- one of these of the first n
abbrev pub IsDueTo : (ℕ → Literal → Type 0) → ℕ → Literal → Type 0
IsDueTo IsDueAt n l = (k : ℕ) × (k < n) × IsDueAt k l

-- both sides are one term
abbrev pub IsTrivial : Literal → Type 0
IsTrivial l = (t : Term) × (l ≡ Equal t t true)

-- literals that are due were added, all but trivial ones
pub record AddsDue (IsDue : Literal → Type 0) (old new : List Literal) : Type 0 where
  pub kept : (l : Literal) → IsAmong old l → IsAmong new l
  pub only : (l : Literal) → IsAmong new l → IsAmong old l ⊎ IsDue l
  pub all : (l : Literal) → IsDue l → IsAmong new l ⊎ IsTrivial l

-- a literal of the cube of a case
abbrev pub IsDue : ClosureParts → List (Option Term) → Literal → Type 0
IsDue c terms l = ((i : ℕ) × IsTermDue c terms i l) ⊎ ((k : ℕ) × IsImageDue c terms k l) ⊎ ((n : ℕ) × IsFactDue c terms n l)

-- the cube of a case
pub record IsCubeOf (c : ClosureParts) (terms : List (Option Term)) (cube : Problem) : Type 0 where
  pub rows : cube.rows ≡ c.table.problem.rows
  pub params : cube.params ≡ []
  pub only : (l : Literal) → IsAmong cube.literals l → IsDue c terms l
  pub all : (l : Literal) → IsDue c terms l → IsAmong cube.literals l ⊎ IsTrivial l

-- the cube of a case, by the terms that stand for its own
pub record IsCubeOfCase (c : CaseParts) (p : Problem) : Type 0 where
  pub table : IsTable c.closure.table
  pub closure : IsClosure c.closure
  pub standing : AreAllStanding c.closure c.terms
  pub cube : IsCubeOf c.closure c.terms p

-- a cube of a case, reduced
pub record IsCubeFor (shape : ShapeParts) (c : CaseParts) (p : Problem) : Type 0 where
  pub full : Problem
  pub of : IsCubeOfCase c full
  pub reduced : IsReducedCube shape full p
