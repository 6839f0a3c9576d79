-- The tokens to which the places of a file belong.
use Rattle.std.specs.Prelude.{◌≡◌, ℕ, Bool, true, false, List, [], ◌∷◌, ◌++◌, Option, Some, None, filter, flat_map, map}
use Rattle.ras_lexer.specs.declared.fixed.Fixed.{Fixed}
use Rattle.ras_lexer.specs.declared.fixed.Fixed.TheVariants as sign
use Rattle.ras_lexer.specs.declared.token.Word.{Word}
use Rattle.ras_lexer.specs.declared.token.Word.TheVariants as word
use Rattle.ras_lexer.specs.declared.token.Token.{Token}
use Rattle.ras_syntax.specs.Grammar as grammar
use Rattle.ras_syntax.specs.Places.{words}
use Rattle.ras_names.specs.Placed as placed
use Rattle.ras_names.specs.Placed.{columns, disjuncts, cases}
use Rattle.ras_names.specs.Unplaced.{file_of}

-- a fault can stand at the sign or word
abbrev pub has_place : Fixed → Bool
has_place sign.Undef = true
has_place sign.True = true
has_place sign.If = true
has_place sign.Equal = true
has_place sign.NotEqual = true
has_place sign.Assign = true
has_place f = false

-- or at the word, as at every name
abbrev pub is_placed : Word → Bool
is_placed (word.Name n) = true
is_placed (word.Fixed f) = has_place f

abbrev pub of_name : placed.Name → Token
of_name n = record { at = n.at; word = word.Name n.text }

abbrev pub sign_at : ℕ → Fixed → Token
sign_at place f = record { at = place; word = word.Fixed f }

abbrev pub of_declared : placed.Declared → List Token
of_declared d = of_name d.name ∷ of_name d.of ∷ []

abbrev pub of_function : placed.Function → List Token
of_function f = of_name f.name ∷ of_name f.source ∷ of_name f.target ∷ []

abbrev pub of_initial : Option placed.Initial → List Token
of_initial None = []
of_initial (Some i) = sign_at i.at sign.Equal ∷ of_name i.constant ∷ []

abbrev pub of_variable : placed.Variable → List Token
of_variable v = of_name v.name ∷ of_name v.sort ∷ of_initial v.initial

abbrev pub of_relation : placed.Relation → List Token
of_relation r = of_name r.name ∷ flat_map of_declared (columns r)

abbrev pub of_base : placed.Base → List Token
of_base (placed.undef place) = sign_at place sign.Undef ∷ []
of_base (placed.plain n) = of_name n ∷ []
of_base (placed.cell row column) = of_name row ∷ of_name column ∷ []

abbrev pub of_term : placed.Term → List Token
of_term t = map of_name t.functions ++ of_base t.base

abbrev pub of_literal : placed.Literal → List Token
of_literal l = of_term l.left ++ (sign_at l.at (grammar.comparison_sign l.equal) ∷ of_term l.right)

abbrev pub of_conjunction : placed.Conjunction → List Token
of_conjunction (placed.always place) = sign_at place sign.True ∷ []
of_conjunction (placed.all l ls) = flat_map of_literal (l ∷ ls)

abbrev pub of_guard : placed.Guard → List Token
of_guard g = flat_map of_conjunction (disjuncts g)

abbrev pub of_column : Option placed.Name → List Token
of_column None = []
of_column (Some n) = of_name n ∷ []

abbrev pub of_update : placed.Update → List Token
of_update u = of_name u.name ∷ (of_column u.column ++ (sign_at u.at sign.Assign ∷ of_term u.term))

abbrev pub of_assignment : placed.Assignment → List Token
of_assignment a = of_name a.row ∷ of_name a.column ∷ sign_at a.at sign.Assign ∷ of_term a.term

abbrev pub of_case : placed.Case → List Token
of_case c = sign_at c.at sign.If ∷ (of_conjunction c.condition ++ flat_map of_assignment c.assignments)

abbrev pub of_each : placed.Each → List Token
of_each e = of_name e.row ∷ of_name e.relation ∷ flat_map of_case (cases e)

abbrev pub of_step : placed.Step → List Token
of_step s = of_name s.name ∷ (flat_map of_declared s.rows ++ (flat_map of_declared s.params
    ++ (of_guard s.guard ++ (flat_map of_update s.updates ++ flat_map of_each s.eachs))))

abbrev pub of_goal : placed.Goal → List Token
of_goal g = flat_map of_declared g.rows ++ of_guard g.guard

abbrev pub of_file : placed.File → List Token
of_file f = of_name f.name ∷ (map of_name f.sorts ++ (flat_map of_function f.functions ++ (flat_map of_declared f.constants
    ++ (flat_map of_variable f.variables ++ (flat_map of_relation f.relations ++ (flat_map of_step f.steps ++ flat_map of_goal f.goals))))))

-- the file is that of the tokens: its words are theirs, and its places are those of the tokens that a fault can name
pub record IsFileOf (tokens : List Token) (file : placed.File) : Type 0 where
  pub spelled : words tokens ≡ grammar.file_words (file_of file)
  pub places : filter (λ (t : Token). is_placed t.word) tokens ≡ of_file file
