-- Cubes without what follows from the rest.
use Rattle.std.specs.Prelude.{◌≡◌, ℕ, ◌≤◌, ◌⊎◌, IsTrue, List, [], slice_get, Some}
use Rattle.ras_logic.specs.declared.problem.Problem.{Problem}
use Rattle.ras_logic.specs.declared.literal.Literal.{Literal}
use Rattle.ras_logic.specs.declared.raw_db.RawDb.{RawDb}
use Rattle.ras_logic.specs.declared.values.Values.{Values}
use Rattle.ras_logic.specs.Shapes.{ShapeParts}
use Rattle.ras_logic.specs.Databases.{IsDatabase}
use Rattle.ras_logic.specs.Truth.{AreValues, holds}
use Rattle.ras_split.specs.Among.{IsAmong}

-- nothing is there twice
abbrev pub IsOnce : {X : Type 0} → List X → Type 0
IsOnce {X} xs = (j k : ℕ) (x : X) → slice_get xs j ≡ Some x → slice_get xs k ≡ Some x → j ≡ k

-- the literal is one of the list from that place on
abbrev pub IsFrom : List Literal → ℕ → Literal → Type 0
IsFrom literals from l = (k : ℕ) × (from ≤ k) × (slice_get literals k ≡ Some l)

-- the literal was kept, or comes at that place or later
abbrev pub IsLeft : List Literal → List Literal → ℕ → Literal → Type 0
IsLeft kept literals from l = IsAmong kept l ⊎ IsFrom literals from l

-- the literal holds wherever these do
abbrev pub Follows : ShapeParts → Problem → (Literal → Type 0) → Literal → Type 0
Follows shape p Others l = (d : RawDb) (v : Values) → IsDatabase shape.schema d → AreValues shape d p.rows p.params v
    → ((m : Literal) → Others m → IsTrue (holds d v m)) → IsTrue (holds d v l)

-- literals of the problem that hold only where all of them do, and none twice
pub record IsReduced (shape : ShapeParts) (p : Problem) (literals : List Literal) : Type 0 where
  pub only : (l : Literal) → IsAmong literals l → IsAmong p.literals l
  pub same : (l : Literal) → IsAmong p.literals l → Follows shape p (IsAmong literals) l
  pub once : IsOnce literals

-- on the way: of the first n literals, some are kept
pub record IsReducedTo (shape : ShapeParts) (p : Problem) (n : ℕ) (kept : List Literal) : Type 0 where
  pub only : (l : Literal) → IsAmong kept l → IsAmong p.literals l
  pub same : (l : Literal) → IsAmong p.literals l → Follows shape p (IsLeft kept p.literals n) l
  pub once : IsOnce kept

-- a cube of the same rows with such literals
pub record IsReducedCube (shape : ShapeParts) (full p : Problem) : Type 0 where
  pub rows : p.rows ≡ full.rows
  pub params : p.params ≡ []
  pub reduced : IsReduced shape full p.literals
