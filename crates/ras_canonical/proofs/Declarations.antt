-- The lines of declarations are read as they are written.
use Rattle.std.proofs.Common.{ℕ, List, [], ◌∷◌, ◌++◌, Bool, true, false, Some, None, Option, codes, refl}
use Rattle.ras_lexer.specs.declared.fixed.Fixed.TheVariants as fixed
use Rattle.ras_lexer.specs.declared.token.Word.{Word}
use Rattle.ras_lexer.specs.declared.token.Word.TheVariants as declared
use Rattle.ras_syntax.specs.Grammar as grammar
use Rattle.ras_syntax.specs.Grammar.{Text, one, named, totality_sign, initial_words, sort_words, function_words, constant_words, variable_words, column_words, relation_words, row_words, param_words}
use Rattle.ras_names.specs.Canonical.{line, inner_line, case_line, declared_text, totality_text, initial_text, column_text, sort_line, function_line, constant_line, variable_line, relation_line, row_line, param_line}
use Rattle.ras_canonical.proofs.Spelled.{Anything, NoName, Spells, name, sign, space, ended, spaced, and_then, apart, blank_behind, separated}

pub semicolon : Spells Anything (codes ";") (one fixed.Semicolon)
semicolon = sign fixed.Semicolon 59 refl refl

pub one_line : {a : List ℕ} {v : List Word} → Spells Anything a v → Spells Anything (line a) v
one_line s = blank_behind 10 refl s

two_blanks : Spells Anything (codes "  ") []
two_blanks = and_then (space 32 refl) (space 32 refl)

pub one_inner_line : {a : List ℕ} {v : List Word} → Spells Anything a v → Spells Anything (inner_line a) v
one_inner_line s = one_line (and_then two_blanks s)

pub one_case_line : {a : List ℕ} {v : List Word} → Spells Anything a v → Spells Anything (case_line a) v
one_case_line s = one_line (and_then (and_then two_blanks two_blanks) s)

pub declaration : (n of : Text) → Spells NoName (declared_text n of) (declared.Name n ∷ declared.Fixed fixed.Colon ∷ named of)
declaration n of = apart (name n) (and_then (spaced fixed.Colon) (name of)) (λ rest. refl)

-- with a semicolon behind it
pub declaration_ended : (n of : Text) → Spells Anything (declared_text n of ++ codes ";") (declared.Name n ∷ declared.Fixed fixed.Colon ∷ declared.Name of ∷ one fixed.Semicolon)
declaration_ended n of = apart (declaration n of) semicolon (λ rest. refl)

pub sort : (s : grammar.Sort) → Spells Anything (sort_line s) (sort_words s)
sort s = one_line (and_then (ended fixed.Sort) (apart (name s.name) semicolon (λ rest. refl)))

totality : (total : Bool) → Spells Anything (totality_text total) (one (totality_sign total))
totality true = ended fixed.Total
totality false = ended fixed.Nullable

pub function : (f : grammar.Function) → Spells Anything (function_line f) (function_words f)
function f =
    one_line (and_then (totality f.total) (apart (declaration f.name f.source) (and_then (spaced fixed.Arrow) (apart (name f.target) semicolon (λ rest. refl))) (λ rest. refl)))

pub constant : (c : grammar.Constant) → Spells Anything (constant_line c) (constant_words c)
constant c = one_line (and_then (ended fixed.Const) (declaration_ended c.name c.sort))

declared_variable : (n of : Text) (initial : Option Text) → Spells Anything (declared_text n of ++ (initial_text initial ++ codes ";")) (declared.Name n ∷ declared.Fixed fixed.Colon ∷ declared.Name of ∷ (initial_words initial ++ one fixed.Semicolon))
declared_variable n of None = declaration_ended n of
declared_variable n of (Some value) = apart (declaration n of) (apart (and_then (spaced fixed.Equal) (name value)) semicolon (λ rest. refl)) (λ rest. refl)

pub variable : (v : grammar.Variable) → Spells Anything (variable_line v) (variable_words v)
variable v = one_line (and_then (ended fixed.Var) (declared_variable v.name v.sort v.initial))

column : (c : grammar.Column) → Spells NoName (column_text c) (column_words c)
column c = declaration c.name c.sort

pub relation : (r : grammar.Relation) → Spells Anything (relation_line r) (relation_words r)
relation r =
    let close : Spells Anything (codes ");") (declared.Fixed fixed.CloseParen ∷ one fixed.Semicolon) = and_then (sign fixed.CloseParen 41 refl refl) semicolon in
    let front : Spells Anything (codes " (") (one fixed.OpenParen) = and_then (space 32 refl) (sign fixed.OpenParen 40 refl refl) in
    let all_columns = separated (codes ", ") (one fixed.Comma) (λ rest. refl) (ended fixed.Comma) column_text column_words column r.first r.others in
    one_line (and_then (ended fixed.Relation) (apart (name r.name) (and_then front (apart all_columns close (λ rest. refl))) (λ rest. refl)))

pub row : (r : grammar.Row) → Spells Anything (row_line r) (row_words r)
row r = one_inner_line (and_then (ended fixed.Row) (declaration_ended r.name r.relation))

pub param : (p : grammar.Param) → Spells Anything (param_line p) (param_words p)
param p = one_inner_line (and_then (ended fixed.Param) (declaration_ended p.name p.sort))
