-- The element of each term in a finite model: one for each class of its sort other than undef's.
use Rattle.std.specs.Prelude.{◌≡◌, ℕ, ◌<◌, ◌≤◌, List, length, get_or}
use Rattle.ras_logic.specs.declared.ids.SortId.{SortId}
use Rattle.ras_logic.specs.declared.term.Term.{Term}
use Rattle.ras_closure.specs.Numbered.{IsAt, IsSortOf, TableParts, rigid_count}
use Rattle.ras_closure.specs.Classes.{class}

-- terms of one class have one sort, and undef and the constants have classes of their own
pub record AreSorted (t : TableParts) (classes : List ℕ) : Type 0 where
  pub as_many : length classes ≡ length t.terms
  pub low : (i : ℕ) → i < length t.terms → class classes i ≤ i
  pub own : (i : ℕ) → i < length t.terms → class classes (class classes i) ≡ class classes i
  pub rigid : (k : ℕ) → k < rigid_count t → class classes k ≡ k
  pub sorted : (i j : ℕ) (s u : Term) (sort : SortId) → IsAt t.terms i s → IsAt t.terms j u → class classes i ≡ class classes j → IsSortOf t s sort → IsSortOf t u sort

-- the element of a term
abbrev pub number : List ℕ → ℕ → ℕ
number numbers i = get_or numbers i 0

-- how many elements the classes of a sort have
abbrev pub count : List ℕ → SortId → ℕ
count counts s = get_or counts s.n 0

-- a term below n of the sort has that element
pub record IsNamed (t : TableParts) (numbers : List ℕ) (n : ℕ) (sort : SortId) (x : ℕ) : Type 0 where
  pub i : ℕ
  pub s : Term
  pub below : i < n
  pub here : IsAt t.terms i s
  pub is_sort : IsSortOf t s sort
  pub element : number numbers i ≡ x

-- One element for each class of its sort other than undef's, of the terms below n: they are the numbers from 1 to the
-- sort's count.
pub record AreNumbered (t : TableParts) (classes numbers counts : List ℕ) (n : ℕ) : Type 0 where
  pub long : length numbers ≡ n
  pub sorts : length counts ≡ t.shape.schema.sorts
  pub few : (s : SortId) → count counts s ≤ n
  pub undef : (i : ℕ) → i < n → class classes i < t.shape.schema.sorts → number numbers i ≡ 0
  pub above : (i : ℕ) → i < n → t.shape.schema.sorts ≤ class classes i → 0 < number numbers i
  pub same : (i : ℕ) → i < n → number numbers i ≡ number numbers (class classes i)
  pub apart : (i j : ℕ) (s u : Term) (sort : SortId) → i < n → j < n → IsAt t.terms i s → IsAt t.terms j u → IsSortOf t s sort → IsSortOf t u sort
      → number numbers i ≡ number numbers j → class classes i ≡ class classes j
  pub within : (i : ℕ) (s : Term) (sort : SortId) → i < n → IsAt t.terms i s → IsSortOf t s sort → number numbers i ≤ count counts sort
  pub named : (sort : SortId) (x : ℕ) → 0 < x → x ≤ count counts sort → IsNamed t numbers n sort x

-- each term's element is one of its sort's
pub record HaveElements (t : TableParts) (numbers counts : List ℕ) : Type 0 where
  pub long : length numbers ≡ length t.terms
  pub sorts : length counts ≡ t.shape.schema.sorts
  pub few : (s : SortId) → count counts s < 4294967295
  pub within : (i : ℕ) (s : Term) (sort : SortId) → IsAt t.terms i s → IsSortOf t s sort → number numbers i ≤ count counts sort
