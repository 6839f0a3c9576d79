-- The grammar: the words that each of its rules is spelled by. An alternative is a constructor, `{..}` a list, `[..]` an option.
use Rattle.std.specs.Prelude.{◌≡◌, ℕ, List, [], ◌∷◌, ◌++◌, Option, Some, None, Bool, true, false}
use Rattle.std.specs.List.{flat_map}
use Rattle.ras_lexer.specs.declared.fixed.Fixed.{Fixed}
use Rattle.ras_lexer.specs.declared.fixed.Fixed.TheVariants as sign
use Rattle.ras_lexer.specs.declared.token.Word.{Word}
use Rattle.ras_lexer.specs.declared.token.Word.TheVariants as word

-- a name, by its bytes
abbrev pub Text : Type 0
Text = List ℕ

abbrev pub one : Fixed → List Word
one f = word.Fixed f ∷ []

abbrev pub named : Text → List Word
named n = word.Name n ∷ []

-- sort = "sort" NAME ";"
pub record Sort : Type 0 where
  pub name : Text

abbrev pub sort_words : Sort → List Word
sort_words s = word.Fixed sign.Sort ∷ word.Name s.name ∷ one sign.Semicolon

-- function = ("total" | "nullable") NAME ":" NAME "->" NAME ";"
pub record Function : Type 0 where
  pub total : Bool
  pub name : Text
  pub source : Text
  pub target : Text

abbrev pub totality_sign : Bool → Fixed
totality_sign true = sign.Total
totality_sign false = sign.Nullable

abbrev pub function_words : Function → List Word
function_words f = word.Fixed (totality_sign f.total) ∷ word.Name f.name ∷ word.Fixed sign.Colon ∷ word.Name f.source ∷ word.Fixed sign.Arrow ∷ word.Name f.target ∷ one sign.Semicolon

-- constant = "const" NAME ":" NAME ";"
pub record Constant : Type 0 where
  pub name : Text
  pub sort : Text

abbrev pub constant_words : Constant → List Word
constant_words c = word.Fixed sign.Const ∷ word.Name c.name ∷ word.Fixed sign.Colon ∷ word.Name c.sort ∷ one sign.Semicolon

-- ["=" NAME]
abbrev pub initial_words : Option Text → List Word
initial_words None = []
initial_words (Some n) = word.Fixed sign.Equal ∷ named n

-- variable = "var" NAME ":" NAME ["=" NAME] ";"
pub record Variable : Type 0 where
  pub name : Text
  pub sort : Text
  pub initial : Option Text

abbrev pub variable_words : Variable → List Word
variable_words v = word.Fixed sign.Var ∷ word.Name v.name ∷ word.Fixed sign.Colon ∷ word.Name v.sort ∷ (initial_words v.initial ++ one sign.Semicolon)

-- column = NAME ":" NAME
pub record Column : Type 0 where
  pub name : Text
  pub sort : Text

abbrev pub column_words : Column → List Word
column_words c = word.Name c.name ∷ word.Fixed sign.Colon ∷ named c.sort

-- "," column
abbrev pub comma_words : Column → List Word
comma_words c = word.Fixed sign.Comma ∷ column_words c

-- relation = "relation" NAME "(" column {"," column} ")" ";"
pub record Relation : Type 0 where
  pub name : Text
  pub first : Column
  pub others : List Column

abbrev pub relation_words : Relation → List Word
relation_words r = word.Fixed sign.Relation ∷ word.Name r.name ∷ word.Fixed sign.OpenParen
    ∷ (column_words r.first ++ (flat_map comma_words r.others ++ (word.Fixed sign.CloseParen ∷ one sign.Semicolon)))

-- row = "row" NAME ":" NAME ";"
pub record Row : Type 0 where
  pub name : Text
  pub relation : Text

abbrev pub row_words : Row → List Word
row_words r = word.Fixed sign.Row ∷ word.Name r.name ∷ word.Fixed sign.Colon ∷ word.Name r.relation ∷ one sign.Semicolon

-- param = "param" NAME ":" NAME ";"
pub record Param : Type 0 where
  pub name : Text
  pub sort : Text

abbrev pub param_words : Param → List Word
param_words p = word.Fixed sign.Param ∷ word.Name p.name ∷ word.Fixed sign.Colon ∷ word.Name p.sort ∷ one sign.Semicolon

-- term = NAME "(" term ")" | NAME "." NAME | NAME | "undef"
pub data Term : Type 0 where
  call : Text → Term → Term
  cell : Text → Text → Term
  plain : Text → Term
  undef : Term

abbrev pub term_words : Term → List Word
term_words (call f t) = word.Name f ∷ word.Fixed sign.OpenParen ∷ (term_words t ++ one sign.CloseParen)
term_words (cell r c) = word.Name r ∷ word.Fixed sign.Dot ∷ named c
term_words (plain n) = named n
term_words undef = one sign.Undef

-- literal = term ("=" | "!=") term
pub record Literal : Type 0 where
  pub left : Term
  pub equal : Bool
  pub right : Term

abbrev pub comparison_sign : Bool → Fixed
comparison_sign true = sign.Equal
comparison_sign false = sign.NotEqual

abbrev pub literal_words : Literal → List Word
literal_words l = term_words l.left ++ (word.Fixed (comparison_sign l.equal) ∷ term_words l.right)

-- conjunction = "true" | literal {"and" literal}
pub data Conjunction : Type 0 where
  always : Conjunction
  all : Literal → List Literal → Conjunction

abbrev pub and_words : Literal → List Word
and_words l = word.Fixed sign.And ∷ literal_words l

abbrev pub conjunction_words : Conjunction → List Word
conjunction_words always = one sign.True
conjunction_words (all l ls) = literal_words l ++ flat_map and_words ls

-- guard = conjunction {"or" conjunction}
pub record Guard : Type 0 where
  pub first : Conjunction
  pub others : List Conjunction

abbrev pub or_words : Conjunction → List Word
or_words c = word.Fixed sign.Or ∷ conjunction_words c

abbrev pub guard_words : Guard → List Word
guard_words g = conjunction_words g.first ++ flat_map or_words g.others

-- ["." NAME]
abbrev pub dotted_words : Option Text → List Word
dotted_words None = []
dotted_words (Some n) = word.Fixed sign.Dot ∷ named n

-- update = (NAME | NAME "." NAME) ":=" term ";"
pub record Update : Type 0 where
  pub name : Text
  pub column : Option Text
  pub term : Term

abbrev pub update_words : Update → List Word
update_words u = word.Name u.name ∷ (dotted_words u.column ++ (word.Fixed sign.Assign ∷ (term_words u.term ++ one sign.Semicolon)))

-- NAME "." NAME ":=" term ";"
pub record Assignment : Type 0 where
  pub row : Text
  pub column : Text
  pub term : Term

abbrev pub assignment_words : Assignment → List Word
assignment_words a = word.Name a.row ∷ word.Fixed sign.Dot ∷ word.Name a.column ∷ word.Fixed sign.Assign ∷ (term_words a.term ++ one sign.Semicolon)

-- case = "if" conjunction "{" {NAME "." NAME ":=" term ";"} "}"
pub record Case : Type 0 where
  pub condition : Conjunction
  pub assignments : List Assignment

abbrev pub case_words : Case → List Word
case_words c = word.Fixed sign.If ∷ (conjunction_words c.condition ++ (word.Fixed sign.OpenBrace ∷ (flat_map assignment_words c.assignments ++ one sign.CloseBrace)))

-- each = "each" NAME ":" NAME "{" case {case} "}"
pub record Each : Type 0 where
  pub row : Text
  pub relation : Text
  pub first : Case
  pub others : List Case

abbrev pub each_words : Each → List Word
each_words e = word.Fixed sign.Each ∷ word.Name e.row ∷ word.Fixed sign.Colon ∷ word.Name e.relation ∷ word.Fixed sign.OpenBrace
    ∷ (case_words e.first ++ (flat_map case_words e.others ++ one sign.CloseBrace))

-- step = "step" NAME "{" {row} {param} "when" guard ";" {update} {each} "}"
pub record Step : Type 0 where
  pub name : Text
  pub rows : List Row
  pub params : List Param
  pub guard : Guard
  pub updates : List Update
  pub eachs : List Each

abbrev pub step_words : Step → List Word
step_words s = word.Fixed sign.Step ∷ word.Name s.name ∷ word.Fixed sign.OpenBrace
    ∷ (flat_map row_words s.rows ++ (flat_map param_words s.params
    ++ (word.Fixed sign.When ∷ (guard_words s.guard
    ++ (word.Fixed sign.Semicolon ∷ (flat_map update_words s.updates ++ (flat_map each_words s.eachs ++ one sign.CloseBrace)))))))

-- goal = "unsafe" "{" {row} "when" guard ";" "}"
pub record Goal : Type 0 where
  pub rows : List Row
  pub guard : Guard

abbrev pub goal_words : Goal → List Word
goal_words g = word.Fixed sign.Unsafe ∷ word.Fixed sign.OpenBrace
    ∷ (flat_map row_words g.rows ++ (word.Fixed sign.When ∷ (guard_words g.guard ++ (word.Fixed sign.Semicolon ∷ one sign.CloseBrace))))

-- file = "system" NAME ";" {sort} {function} {constant} {variable} {relation} {step} {goal}
pub record File : Type 0 where
  pub name : Text
  pub sorts : List Sort
  pub functions : List Function
  pub constants : List Constant
  pub variables : List Variable
  pub relations : List Relation
  pub steps : List Step
  pub goals : List Goal

abbrev pub file_words : File → List Word
file_words f = word.Fixed sign.System ∷ word.Name f.name ∷ word.Fixed sign.Semicolon
    ∷ (flat_map sort_words f.sorts ++ (flat_map function_words f.functions ++ (flat_map constant_words f.constants
    ++ (flat_map variable_words f.variables ++ (flat_map relation_words f.relations ++ (flat_map step_words f.steps ++ flat_map goal_words f.goals))))))

-- the words are a file of the grammar
abbrev pub IsFile : List Word → Type 0
IsFile ws = (f : File) × (ws ≡ file_words f)

-- some file of the grammar begins with the words
abbrev pub Begins : List Word → Type 0
Begins ws = (more : List Word) × IsFile (ws ++ more)
