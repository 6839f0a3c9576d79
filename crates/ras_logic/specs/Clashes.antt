-- When facts cannot hold together: the least relation on terms that is closed under the facts and the rules for functions.
-- The literals that give the terms and the facts stand apart, since facts may be learned after the terms; the facts speak
-- of these terms.
use Rattle.std.specs.Prelude.{◌≡◌, ◌≢◌, ◌<◌, true, false, List, [], ◌∷◌, ◌++◌, length, slice_get, Some, Contains}
use Rattle.ras_logic.specs.declared.ids.FunId.{FunId}
use Rattle.ras_logic.specs.declared.ids.SortId.{SortId}
use Rattle.ras_logic.specs.declared.ids.ConstId.{ConstId}
use Rattle.ras_logic.specs.declared.function.FunDecl.{FunDecl}
use Rattle.ras_logic.specs.declared.term.Term.{Term}
use Rattle.ras_logic.specs.declared.literal.Literal.{Literal}
use Rattle.ras_logic.specs.declared.literal.Literal.TheVariants.{Equal}
use Rattle.ras_logic.specs.Schemas.{SchemaParts}
use Rattle.ras_logic.specs.Terms.{constant_term, undef_term, image_term}

-- both sides of each literal
abbrev pub sides : List Literal → List Term
sides [] = []
sides (Equal left right same ∷ literals) = left ∷ right ∷ sides literals

-- the same base with a path that is no longer
abbrev pub IsPrefixOf : Term → Term → Type 0
IsPrefixOf p t = (p.base ≡ t.base) × ((rest : List FunId) × (t.path ≡ p.path ++ rest))

-- the terms of the literals and their prefixes, every constant, and every sort's undef
pub data IsTerm (schema : SchemaParts) (literals : List Literal) : Term → Type 0 where
  of_literals : {p : Term} (t : Term) → Contains (sides literals) t → IsPrefixOf p t → IsTerm schema literals p
  a_constant : (c : ConstId) → c.n < length schema.constants → IsTerm schema literals (constant_term c)
  an_undef : (s : SortId) → s.n < schema.sorts → IsTerm schema literals (undef_term s)

-- The least relation on these terms that is an equivalence, has both sides of every fact that says same, and is closed
-- under the three rules for functions.
pub data Together (schema : SchemaParts) (literals : List Literal) (IsFact : Literal → Type 0) : Term → Term → Type 0 where
  reflexive : (t : Term) → IsTerm schema literals t → Together schema literals IsFact t t
  symmetric : (s t : Term) → Together schema literals IsFact s t → Together schema literals IsFact t s
  transitive : (r s t : Term) → Together schema literals IsFact r s → Together schema literals IsFact s t → Together schema literals IsFact r t
  stated : (s t : Term) → IsFact (Equal s t true) → Together schema literals IsFact s t
  same_images : (s t : Term) (f : FunId) → Together schema literals IsFact s t → IsTerm schema literals (image_term s f)
      → IsTerm schema literals (image_term t f) → Together schema literals IsFact (image_term s f) (image_term t f)
  image_of_undef : (t : Term) (f : FunId) (d : FunDecl) → slice_get schema.functions f.n ≡ Some d
      → Together schema literals IsFact t (undef_term d.source) → IsTerm schema literals (image_term t f)
      → Together schema literals IsFact (image_term t f) (undef_term d.target)
  only_undef : (t : Term) (f : FunId) (d : FunDecl) → slice_get schema.functions f.n ≡ Some d → d.total ≡ true
      → Together schema literals IsFact (image_term t f) (undef_term d.target) → Together schema literals IsFact t (undef_term d.source)

-- Both sides of a fact that says not same are together, or two constants are, or a constant and undef. Where the facts fit
-- a shape, terms that are together have one sort, so these two constants have too.
pub data Clash (schema : SchemaParts) (literals : List Literal) (IsFact : Literal → Type 0) : Type 0 where
  stated_apart : (s t : Term) → IsFact (Equal s t false) → Together schema literals IsFact s t → Clash schema literals IsFact
  two_constants : (c e : ConstId) → c ≢ e → Together schema literals IsFact (constant_term c) (constant_term e) → Clash schema literals IsFact
  constant_undef : (c : ConstId) (s : SortId) → Together schema literals IsFact (constant_term c) (undef_term s) → Clash schema literals IsFact

-- the facts clash, over the terms of the facts themselves
abbrev pub FactsClash : SchemaParts → List Literal → Type 0
FactsClash schema facts = Clash schema facts (Contains facts)
