-- Tables of terms: what the entries stand for.
use Rattle.std.specs.Prelude.{◌≡◌, ℕ, ◌+◌, ◌<◌, ◌⊎◌, List, [], ◌∷◌, ◌++◌, length, get_or, slice_get, Some, Contains}
use Rattle.std.specs.List.{AllZip}
use Rattle.ras_logic.specs.declared.ids.FunId.{FunId}
use Rattle.ras_logic.specs.declared.ids.SortId.{SortId}
use Rattle.ras_logic.specs.declared.ids.ConstId.{ConstId}
use Rattle.ras_logic.specs.declared.term.Base.{Base}
use Rattle.ras_logic.specs.declared.term.Base.TheVariants.{Constant, Undef, Param}
use Rattle.ras_logic.specs.declared.term.Term.{Term}
use Rattle.ras_logic.specs.declared.literal.Literal.{Literal}
use Rattle.ras_logic.specs.declared.literal.Literal.TheVariants.{Equal}
use Rattle.ras_logic.specs.Schemas.{SchemaParts}
use Rattle.ras_logic.specs.Terms.{base_term, constant_term, undef_term, image_term}
use Rattle.ras_logic.specs.Clashes.{sides, IsPrefixOf, IsTerm}
use Rattle.ras_refute.specs.declared.entry.Entry.{Entry}
use Rattle.ras_refute.specs.declared.entry.Entry.TheVariants.{Root, Image}
use Rattle.ras_refute.specs.declared.entry.Pair.{Pair}
use Rattle.ras_refute.specs.declared.table.Table.{Table}

-- the term of an entry that stands after these terms
abbrev pub term_of : List Term → Entry → Term
term_of terms (Root b) = base_term b
term_of terms (Image of f) = image_term (get_or terms of (base_term (Param 0))) f

-- the terms of further entries, after these terms
abbrev pub terms_after : List Term → List Entry → List Term
terms_after terms [] = terms
terms_after terms (e ∷ es) = terms_after (terms ++ term_of terms e ∷ []) es

-- the terms of the entries
unfoldable pub terms_of : List Entry → List Term
terms_of es = terms_after [] es

-- the term with that number
abbrev pub IsAt : List Entry → ℕ → Term → Type 0
IsAt es i t = slice_get (terms_of es) i ≡ Some t

-- an image is one of a term of the table
abbrev pub EntryFits : List Entry → Entry → Type 0
EntryFits es (Root b) = Unit {0}
EntryFits es (Image of f) = of < length es

-- each image stands after its argument, and each term stands there once
pub record IsTable (es : List Entry) : Type 0 where
  pub earlier : (i of : ℕ) (f : FunId) → slice_get es i ≡ Some (Image of f) → of < i
  pub different : (i j : ℕ) (t : Term) → IsAt es i t → IsAt es j t → i ≡ j

-- what was at a place is still there
abbrev pub Grows : List Entry → List Entry → Type 0
Grows old new = (i : ℕ) (e : Entry) → slice_get old i ≡ Some e → slice_get new i ≡ Some e

-- entries were added, all of them of new terms of this kind
pub record Adds (IsNew : Term → Type 0) (old new : List Entry) : Type 0 where
  pub table : IsTable new
  pub grows : Grows old new
  pub kept : (i : ℕ) (t : Term) → IsAt old i t → IsAt new i t
  pub only : (i : ℕ) (t : Term) → IsAt new i t → IsAt old i t ⊎ IsNew t

-- the entry has that number, and no other was added
pub record AddsEntry (old new : List Entry) (e : Entry) (i : ℕ) : Type 0 where
  pub adds : Adds (λ (t : Term). t ≡ term_of (terms_of old) e) old new
  pub here : slice_get new i ≡ Some e

-- the term has that number, and only it and its prefixes were added
pub record AddsTerm (old new : List Entry) (t : Term) (i : ℕ) : Type 0 where
  pub adds : Adds (λ (p : Term). IsPrefixOf p t) old new
  pub here : IsAt new i t

-- the numbers are those of the literal's sides
abbrev pub AreSidesOf : List Entry → Literal → Pair → Type 0
AreSidesOf es (Equal left right same) pair = IsAt es pair.left left × IsAt es pair.right right

abbrev pub AreAllSides : List Entry → List Literal → List Pair → Type 0
AreAllSides es literals sides = AllZip (AreSidesOf es) literals sides

-- a side of one of the literals, or a prefix of one
abbrev pub IsPartOf : List Literal → Term → Type 0
IsPartOf literals p = (t : Term) × Contains (sides literals) t × IsPrefixOf p t

-- the sides of a literal have these numbers, and only they and their prefixes were added
pub record AddsFact (old new : List Entry) (literal : Literal) (pair : Pair) : Type 0 where
  pub adds : Adds (IsPartOf (literal ∷ [])) old new
  pub numbers : AreSidesOf new literal pair

-- the sides of the literals have these numbers, and only they and their prefixes were added
pub record AddsFacts (old new : List Entry) (literals : List Literal) (pairs : List Pair) : Type 0 where
  pub adds : Adds (IsPartOf literals) old new
  pub numbers : AreAllSides new literals pairs

-- every sort's undef has the number of the sort
abbrev pub HasUndefs : ℕ → List Entry → Type 0
HasUndefs sorts es = (s : SortId) → s.n < sorts → slice_get es s.n ≡ Some (Root (Undef s))

-- all that was added are the undefs of these sorts, and each has the number of its sort
pub record AddsUndefs (sorts : ℕ) (new : List Entry) : Type 0 where
  pub long : length new ≡ sorts
  pub adds : Adds (λ (t : Term). (s : SortId) × (s.n < sorts) × (t ≡ undef_term s)) [] new
  pub undefs : HasUndefs sorts new

-- each of the constants has a number behind the sorts'
abbrev pub HasConstants : ℕ → ℕ → List Entry → Type 0
HasConstants sorts count es = (c : ConstId) → c.n < count → slice_get es (sorts + c.n) ≡ Some (Root (Constant c))

-- all that was added are these constants, each in its order behind the undefs
pub record AddsConstants (sorts count : ℕ) (old new : List Entry) : Type 0 where
  pub long : length new ≡ sorts + count
  pub adds : Adds (λ (t : Term). (c : ConstId) × (c.n < count) × (t ≡ constant_term c)) old new
  pub constants : HasConstants sorts count new

-- every sort's undef and each constant of the schema has its number
pub record HasFixed (schema : SchemaParts) (es : List Entry) : Type 0 where
  pub undefs : HasUndefs schema.sorts es
  pub constants : HasConstants schema.sorts (length schema.constants) es

-- the number of an undef or a constant of the schema
abbrev pub IsFixedPlace : SchemaParts → Base → ℕ → Type 0
IsFixedPlace schema (Undef s) i = (s.n < schema.sorts) × (i ≡ s.n)
IsFixedPlace schema (Constant c) i = (c.n < length schema.constants) × (i ≡ schema.sorts + c.n)
IsFixedPlace schema _ i = ⊥

-- the terms of the facts and no others, and the numbers of the facts' sides
pub record IsTableOf (schema : SchemaParts) (facts : List Literal) (t : Table) : Type 0 where
  pub table : IsTable t.entries
  pub known : (i : ℕ) (u : Term) → IsAt t.entries i u → IsTerm schema facts u
  pub undefs : HasUndefs schema.sorts t.entries
  pub constants : HasConstants schema.sorts (length schema.constants) t.entries
  pub numbers : AreAllSides t.entries facts t.sides
