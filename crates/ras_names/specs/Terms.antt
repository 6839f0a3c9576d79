-- What terms and literals denote, where some names may be used.
use Rattle.std.specs.Prelude.{◌≡◌, ℕ, List, slice_get, Some}
use Rattle.ras_logic.specs.declared.ids.SortId.{SortId}
use Rattle.ras_logic.specs.declared.ids.FunId.{FunId}
use Rattle.ras_logic.specs.declared.ids.RelId.{RelId}
use Rattle.ras_logic.specs.declared.term.Base.{Base}
use Rattle.ras_logic.specs.declared.term.Base.TheVariants.{Var, Cell, Constant, Undef, Param}
use Rattle.ras_logic.specs.declared.term.Term.{Term}
use Rattle.ras_logic.specs.declared.literal.Literal.{Literal}
use Rattle.ras_logic.specs.declared.literal.Literal.TheVariants.{Equal}
use Rattle.ras_logic.specs.Terms.{base_term, image_term, undef_term}
use Rattle.ras_syntax.specs.Grammar as grammar
use Rattle.ras_syntax.specs.Grammar.{Text}
use Rattle.ras_names.specs.declared.names.RelNames.{RelNames}
use Rattle.ras_names.specs.declared.names.Names.{Names}
use Rattle.ras_names.specs.Lists.{HasNumber, OneByOne}
use Rattle.ras_names.specs.FileParts.{literals}

-- what may be named at a place: the names of the file, the rows there with the relation of each, and the data parameters
pub record Scope : Type 0 where
  pub names : Names
  pub rows : List Text
  pub relations : List RelId
  pub params : List Text

-- a column of a relation, by its name
abbrev pub IsColumn : Names → RelId → Text → ℕ → Type 0
IsColumn names relation column n = (r : RelNames) × (slice_get names.relations relation.n ≡ Some r) × HasNumber r.columns column n

module _ (scope : Scope) where
  -- `row.column` is this column of this row
  abbrev pub IsCell : Text → Text → ℕ → ℕ → Type 0
  IsCell row column m n = HasNumber scope.rows row m × ((r : RelId) × (slice_get scope.relations m ≡ Some r) × IsColumn scope.names r column n)

  -- a name alone is that of a constant, of a variable or of a data parameter
  abbrev pub IsNamed : Text → Base → Type 0
  IsNamed name (Var v) = HasNumber scope.names.vars name v.n
  IsNamed name (Constant c) = HasNumber scope.names.constants name c.n
  IsNamed name (Param p) = HasNumber scope.params name p
  IsNamed name (Cell m n) = ⊥
  IsNamed name (Undef s) = ⊥

  -- the term inside, and then the function around it; `undef` is that of any sort
  abbrev pub TermDenotes : grammar.Term → Term → Type 0
  TermDenotes (grammar.call name inside) t =
      (u : Term) × (f : FunId) × TermDenotes inside u × HasNumber scope.names.functions name f.n × (t ≡ image_term u f)
  TermDenotes (grammar.cell row column) t = (m : ℕ) × (n : ℕ) × IsCell row column m n × (t ≡ base_term (Cell m n))
  TermDenotes (grammar.plain name) t = (b : Base) × IsNamed name b × (t ≡ base_term b)
  TermDenotes grammar.undef t = (s : SortId) × (t ≡ undef_term s)

-- the term is `undef` with no function around it
abbrev pub IsUndef : grammar.Term → Type 0
IsUndef grammar.undef = Unit {0}
IsUndef t = ⊥

module _ (scope : Scope) where
  -- each side its term; not both sides are `undef`
  abbrev pub LiteralDenotes : grammar.Literal → Literal → Type 0
  LiteralDenotes l (Equal left right same) =
      TermDenotes scope l.left left × TermDenotes scope l.right right × (same ≡ l.equal) × ¬ (IsUndef l.left × IsUndef l.right)

  abbrev pub ConjunctionDenotes : grammar.Conjunction → List Literal → Type 0
  ConjunctionDenotes c ls = OneByOne LiteralDenotes (literals c) ls
