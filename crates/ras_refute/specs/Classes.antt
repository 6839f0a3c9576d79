-- Classes of the terms of a table, and what the facts and the rules ask of them.
use Rattle.std.specs.Prelude.{◌≡◌, ◌≢◌, ℕ, ◌<◌, ◌≤◌, ◌⊎◌, Bool, true, not, List, length, get_or, slice_get, Some, sum, map, nat_eq, Contains, if◌then◌else◌}
use Rattle.ras_logic.specs.declared.ids.FunId.{FunId}
use Rattle.ras_logic.specs.declared.function.FunDecl.{FunDecl}
use Rattle.ras_logic.specs.declared.term.Term.{Term}
use Rattle.ras_logic.specs.declared.literal.Literal.{Literal}
use Rattle.ras_logic.specs.Schemas.{SchemaParts}
use Rattle.ras_logic.specs.Clashes.{Together}
use Rattle.ras_refute.specs.declared.entry.Entry.{Entry}
use Rattle.ras_refute.specs.declared.entry.Entry.TheVariants.{Image}
use Rattle.ras_refute.specs.declared.entry.Pair.{Pair}
use Rattle.ras_refute.specs.declared.table.Table.{Table}
use Rattle.ras_logic.specs.Literals.{same_of}
use Rattle.ras_refute.specs.Tables.{IsAt, IsTableOf}

-- the number of a term's class
abbrev pub class : List ℕ → ℕ → ℕ
class classes i = get_or classes i 0

abbrev pub relabelled : ℕ → ℕ → List ℕ → List ℕ
relabelled from to classes = map (λ c. if nat_eq c from then to else c) classes

-- two terms of one class, or of the classes of a and b
abbrev pub AreJoined : List ℕ → ℕ → ℕ → ℕ → ℕ → Type 0
AreJoined classes a b i j =
    (class classes i ≡ class classes j)
    ⊎ (((class classes i ≡ class classes a) × (class classes j ≡ class classes b)) ⊎ ((class classes i ≡ class classes b) × (class classes j ≡ class classes a)))

-- no classes but those of a and b became one, and where these two differed, the sum of the class numbers fell
pub record Unites (old new : List ℕ) (a b : ℕ) : Type 0 where
  pub as_many : length new ≡ length old
  pub lower : (i : ℕ) → i < length old → class new i ≤ class old i
  pub smaller : class old a ≢ class old b → sum new < sum old
  pub only : (i j : ℕ) → i < length old → j < length old → class new i ≡ class new j → AreJoined old a b i j

abbrev pub IsImage : List Entry → ℕ → ℕ → FunId → Type 0
IsImage es i of f = slice_get es i ≡ Some (Image of f)

-- each fact of this kind, those that say the same or those that say not the same, has its sides in one class or in two as it says
abbrev pub RespectFacts : List Literal → List Pair → List ℕ → Bool → Type 0
RespectFacts facts sides classes same = (k : ℕ) (fact : Literal) (pair : Pair) → slice_get facts k ≡ Some fact → slice_get sides k ≡ Some pair → same_of fact ≡ same
    → nat_eq (class classes pair.left) (class classes pair.right) ≡ same

-- the sides of a fact of this kind, whose classes are not as it says
pub record IsViolated (facts : List Literal) (sides : List Pair) (classes : List ℕ) (same : Bool) (pair : Pair) : Type 0 where
  pub place : ℕ
  pub fact : Literal
  pub known : slice_get facts place ≡ Some fact
  pub numbers : slice_get sides place ≡ Some pair
  pub says : same_of fact ≡ same
  pub differ : nat_eq (class classes pair.left) (class classes pair.right) ≡ not same

-- the images by one function of terms of one class are in one class
abbrev pub RespectImages : List Entry → List ℕ → ℕ → ℕ → FunId → Type 0
RespectImages es classes i of f = (j of2 : ℕ) → IsImage es j of2 f → class classes of ≡ class classes of2 → class classes i ≡ class classes j

-- an image of undef is undef, and the argument of an undef image by a total function
pub record RespectUndef (schema : SchemaParts) (classes : List ℕ) (i of : ℕ) (f : FunId) : Type 0 where
  pub image : (d : FunDecl) → slice_get schema.functions f.n ≡ Some d → class classes of ≡ class classes d.source.n → class classes i ≡ class classes d.target.n
  pub argument : (d : FunDecl) → slice_get schema.functions f.n ≡ Some d → d.total ≡ true → class classes i ≡ class classes d.target.n → class classes of ≡ class classes d.source.n

-- no rule asks for more at the term of that number
abbrev pub RespectRulesAt : SchemaParts → List Entry → List ℕ → ℕ → Type 0
RespectRulesAt schema es classes i = (of : ℕ) (f : FunId) → IsImage es i of f → RespectUndef schema classes i of f × RespectImages es classes i of f

-- no fact and no rule asks for more
pub record AreClosed (schema : SchemaParts) (facts : List Literal) (t : Table) (classes : List ℕ) : Type 0 where
  pub stated : RespectFacts facts t.sides classes true
  pub rules : (i : ℕ) → i < length t.entries → RespectRulesAt schema t.entries classes i

-- the image by the same function of a term of the same class, in another class
pub record IsCongruentImage (es : List Entry) (classes : List ℕ) (i of : ℕ) (f : FunId) (j : ℕ) : Type 0 where
  pub argument : ℕ
  pub image : IsImage es j argument f
  pub arguments : class classes of ≡ class classes argument
  pub differ : class classes i ≢ class classes j

-- two terms that a fact or a rule puts together
pub data Due (schema : SchemaParts) (facts : List Literal) (t : Table) (classes : List ℕ) : ℕ → ℕ → Type 0 where
  by_fact : (k : ℕ) (fact : Literal) (pair : Pair) → slice_get facts k ≡ Some fact → slice_get t.sides k ≡ Some pair → same_of fact ≡ true
      → Due schema facts t classes pair.left pair.right
  by_images : (i j of of2 : ℕ) (f : FunId) → IsImage t.entries i of f → IsImage t.entries j of2 f → class classes of ≡ class classes of2 → Due schema facts t classes i j
  by_undef : (i of : ℕ) (f : FunId) (d : FunDecl) → IsImage t.entries i of f → slice_get schema.functions f.n ≡ Some d
      → class classes of ≡ class classes d.source.n → Due schema facts t classes i d.target.n
  by_total : (i of : ℕ) (f : FunId) (d : FunDecl) → IsImage t.entries i of f → slice_get schema.functions f.n ≡ Some d → d.total ≡ true
      → class classes i ≡ class classes d.target.n → Due schema facts t classes of d.source.n

-- two terms of different classes that a fact or a rule puts together
pub record IsDue (schema : SchemaParts) (facts : List Literal) (t : Table) (classes : List ℕ) (pair : Pair) : Type 0 where
  pub due : Due schema facts t classes pair.left pair.right
  pub differ : class classes pair.left ≢ class classes pair.right
  pub left : pair.left < length t.entries
  pub right : pair.right < length t.entries

-- terms of one class are together
abbrev pub AreSound : SchemaParts → List Literal → List Entry → List ℕ → Type 0
AreSound schema facts es classes = (i j : ℕ) (s u : Term) → IsAt es i s → IsAt es j u → class classes i ≡ class classes j → Together schema facts (Contains facts) s u

-- classes on the way, which put together only what must be
pub record ArePartial (schema : SchemaParts) (facts : List Literal) (t : Table) (classes : List ℕ) : Type 0 where
  pub table : IsTableOf schema facts t
  pub as_many : length classes ≡ length t.entries
  pub low : (i : ℕ) → i < length t.entries → class classes i ≤ i
  pub sound : AreSound schema facts t.entries classes

-- the classes of the least relation
pub record AreLeast (schema : SchemaParts) (facts : List Literal) (t : Table) (classes : List ℕ) : Type 0 where
  pub partial : ArePartial schema facts t classes
  pub closed : AreClosed schema facts t classes
