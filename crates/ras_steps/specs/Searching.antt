-- How `meets` walks the choices of rows: row by row, the numbers in order, and no further where a literal fails.
use Rattle.std.specs.Prelude.{◌≡◌, ℕ, zero, suc, ◌+◌, ◌-◌, ◌*◌, ◌<◌, ◌≤◌, List, [], ◌∷◌, length, get_or, take, slice_get, Some, map, min, max, IsTrue, All}
use Rattle.ras_logic.specs.declared.ids.RelId.{RelId}
use Rattle.ras_logic.specs.declared.raw_db.RawDb.{RawDb}
use Rattle.ras_logic.specs.declared.term.Base.{Base}
use Rattle.ras_logic.specs.declared.term.Base.TheVariants.{Cell}
use Rattle.ras_logic.specs.declared.literal.Literal.{Literal}
use Rattle.ras_logic.specs.declared.literal.Literal.TheVariants.{Equal}
use Rattle.ras_logic.specs.declared.problem.Problem.{Problem}
use Rattle.ras_logic.specs.Truth.{holds}
use Rattle.ras_system.specs.declared.state.State.{State}
use Rattle.ras_system.specs.States.{rows_of, values_at}
use Rattle.ras_steps.specs.Choosing.{MeetsBy}

-- the cube of these rows and literals
abbrev pub cube_of : List RelId → List Literal → Problem
cube_of rows literals = record { rows = rows; params = []; literals = literals }

-- how many of the first rows a base needs
abbrev pub rows_to : Base → ℕ
rows_to (Cell row column) = row + 1
rows_to base = 0

-- the number of chosen rows at which a literal is judged: all that it names are among them, or no row is left
abbrev pub due_at : List RelId → Literal → ℕ
due_at rows (Equal left right same) = min (length rows) (max (rows_to left.base) (rows_to right.base))

-- the literals that are judged at as many rows as are chosen hold
abbrev pub DueHold : RawDb → State → List RelId → List Literal → List ℕ → Type 0
DueHold d s rows literals chosen = All (λ (l : Literal). due_at rows l ≡ length chosen → IsTrue (holds d (values_at s rows chosen []) l)) literals

-- the number at a place is that of no earlier row of the same relation
abbrev pub IsNew : List RelId → List ℕ → ℕ → Type 0
IsNew rows numbers k = (i : ℕ) (r : RelId) → i < k → slice_get rows i ≡ Some r → slice_get rows k ≡ Some r → get_or numbers i 0 ≡ get_or numbers k 0 → ⊥

-- the number at a place is new, and the literals that are judged with it hold
pub record Passes (d : RawDb) (s : State) (rows : List RelId) (literals : List Literal) (numbers : List ℕ) (k : ℕ) : Type 0 where
  pub new : IsNew rows numbers k
  pub due : DueHold d s rows literals (take (k + 1) numbers)

-- the numbers before a place are of different rows, and the literals that were judged hold
pub record IsPartial (d : RawDb) (s : State) (rows : List RelId) (literals : List Literal) (numbers : List ℕ) (k : ℕ) : Type 0 where
  pub inside : (j : ℕ) (r : RelId) → j < k → slice_get rows j ≡ Some r → get_or numbers j 0 < length (rows_of s r)
  pub different : (j : ℕ) → j < k → IsNew rows numbers j
  pub judged : All (λ (l : Literal). due_at rows l ≤ k → IsTrue (holds d (values_at s rows (take k numbers) []) l)) literals

-- the rows of a cube that come before the numbers, up to that place, make no literals hold
abbrev pub NoneBefore : RawDb → State → List RelId → List Literal → List ℕ → ℕ → Type 0
NoneBefore d s rows literals numbers k =
    (other : List ℕ) → MeetsBy d s (cube_of rows literals) other → (i : ℕ) → i ≤ k → i < length rows → take i other ≡ take i numbers → get_or numbers i 0 ≤ get_or other i 0

-- the walk stands at a place: the numbers before it are chosen, and the one at it is to be tried
pub record StandsAt (d : RawDb) (s : State) (rows : List RelId) (literals : List Literal) (numbers : List ℕ) (k : ℕ) : Type 0 where
  pub room : length rows ≤ length numbers
  pub within : k ≤ length rows
  pub so_far : IsPartial d s rows literals numbers k
  pub none_before : NoneBefore d s rows literals numbers k

-- how many rows there are for each row of the cube
abbrev pub widths : State → List RelId → List ℕ
widths s rows = map (λ (r : RelId). length (rows_of s r)) rows

-- at most how many turns a walk over all choices of these widths takes
abbrev pub turns : List ℕ → ℕ
turns [] = 1
turns (w ∷ ws) = w * (turns ws + 1) + 1

-- at most how many are left where the walk stands at a place
abbrev pub turns_left : List ℕ → List ℕ → ℕ → ℕ
turns_left [] numbers k = 0
turns_left (w ∷ ws) [] k = 0
turns_left (w ∷ ws) (x ∷ numbers) zero = (w - x) * (turns ws + 1)
turns_left (w ∷ ws) (x ∷ numbers) (suc k) = (w - (x + 1)) * (turns ws + 1) + turns_left ws numbers k
