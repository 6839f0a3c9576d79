-- How the list of terms grows: the terms of a problem, each with its prefixes before it.
use Rattle.std.specs.Prelude.{◌≡◌, ℕ, ◌-◌, ◌<◌, ◌≤◌, List, [], length, take, get_or, slice_get, nat_lt, Some, if◌then◌else◌}
use Rattle.ras_logic.specs.declared.term.Term.{Term}
use Rattle.ras_logic.specs.declared.literal.Literal.{Literal}
use Rattle.ras_logic.specs.declared.literal.Literal.TheVariants.{Equal}
use Rattle.ras_logic.specs.Terms.{constant_term, undef_term, image_term}
use Rattle.ras_logic.specs.Schemas.{SchemaParts}
use Rattle.ras_logic.specs.Clashes.{IsTerm}
use Rattle.ras_closure.specs.declared.link.Link.{Link}
use Rattle.ras_closure.specs.declared.link.Link.TheVariants.{Base, Image}
use Rattle.ras_closure.specs.Numbered.{IsAt, AreLinks}

-- the first terms: every sort's undef, then the constants
abbrev pub fixed_term : ℕ → ℕ → Term
fixed_term sorts i = if nat_lt i sorts then undef_term (record { n = i }) else constant_term (record { n = i - sorts })

-- terms and their links on the way: all are terms of the literals, each once
pub record IsPart (schema : SchemaParts) (literals : List Literal) (terms : List Term) (links : List Link) : Type 0 where
  pub known : (i : ℕ) (t : Term) → IsAt terms i t → IsTerm schema literals t
  pub different : (i j : ℕ) (t : Term) → IsAt terms i t → IsAt terms j t → i ≡ j
  pub linked : AreLinks schema terms links
  pub few : length terms < 4294967295

-- what was at a place is still there
abbrev pub Grows : List Term → List Term → Type 0
Grows old new = (i : ℕ) (t : Term) → IsAt old i t → IsAt new i t

-- how the term is made of those of the list
abbrev pub LinkFits : SchemaParts → List Term → Term → Link → Type 0
LinkFits schema terms t Base = t.path ≡ []
LinkFits schema terms t (Image of f) = (f.n < length schema.functions) × ((s : Term) × IsAt terms of s × (t ≡ image_term s f))

-- the first part of a term, with so many functions
abbrev pub prefix_at : Term → ℕ → Term
prefix_at t k = record { base = t.base; path = take k t.path }

-- the prefixes up to that length are in the list
abbrev pub HasPrefixes : List Term → Term → ℕ → Type 0
HasPrefixes terms t n = (k : ℕ) → k ≤ n → (i : ℕ) × IsAt terms i (prefix_at t k)

-- both sides with all their prefixes are in the list
abbrev pub HasSides : List Term → Literal → Type 0
HasSides terms (Equal left right same) = HasPrefixes terms left (length left.path) × HasPrefixes terms right (length right.path)

-- each function of the path exists
abbrev pub HasFunctions : SchemaParts → Term → Type 0
HasFunctions schema t = (k : ℕ) → k < length t.path → (get_or t.path k (record { n = 0 })).n < length schema.functions

-- both sides are terms of the literals, with functions that exist
abbrev pub SidesKnown : SchemaParts → List Literal → Literal → Type 0
SidesKnown schema literals (Equal left right same) = IsTerm schema literals left × HasFunctions schema left × IsTerm schema literals right × HasFunctions schema right

-- the first terms so far
abbrev pub AreFixed : ℕ → List Term → ℕ → Type 0
AreFixed sorts terms n = (i : ℕ) → i < n → IsAt terms i (fixed_term sorts i)

-- the sides of the first literals are in the list
abbrev pub HaveSides : List Term → List Literal → ℕ → Type 0
HaveSides terms literals n = (k : ℕ) (l : Literal) → k < n → slice_get literals k ≡ Some l → HasSides terms l
