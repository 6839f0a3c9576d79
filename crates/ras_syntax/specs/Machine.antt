-- A machine that reads word by word, with a stack of what is still to be read.
use Rattle.std.specs.Prelude.{ℕ, zero, suc, List, [], ◌∷◌, length, Option, Some, None, Bool, true, false, ◌==◌, if◌then◌else◌}
use Rattle.ras_lexer.specs.declared.fixed.Fixed.{Fixed}
use Rattle.ras_lexer.specs.declared.fixed.Fixed.TheVariants as sign
use Rattle.ras_lexer.specs.declared.token.Word.{Word}
use Rattle.ras_lexer.specs.declared.token.Word.TheVariants as word

abbrev pub index : Fixed → ℕ
index sign.System = 0
index sign.Sort = 1
index sign.Total = 2
index sign.Nullable = 3
index sign.Const = 4
index sign.Var = 5
index sign.Relation = 6
index sign.Step = 7
index sign.Row = 8
index sign.Param = 9
index sign.When = 10
index sign.Or = 11
index sign.And = 12
index sign.True = 13
index sign.Undef = 14
index sign.Each = 15
index sign.If = 16
index sign.Unsafe = 17
index sign.OpenBrace = 18
index sign.CloseBrace = 19
index sign.OpenParen = 20
index sign.CloseParen = 21
index sign.Semicolon = 22
index sign.Colon = 23
index sign.Comma = 24
index sign.Dot = 25
index sign.Equal = 26
index sign.NotEqual = 27
index sign.Assign = 28
index sign.Arrow = 29

abbrev pub same : Fixed → Word → Bool
same f (word.Name n) = false
same f (word.Fixed g) = index g == index f

abbrev pub is_name : Word → Bool
is_name (word.Name n) = true
is_name (word.Fixed g) = false

pub data Sym : Type 0 where
  fixed : Fixed → Sym
  name : Sym
  conjunction : Sym
  comparison : Sym
  term : Sym
  tail : Sym
  sorts : Sym
  functions : Sym
  constants : Sym
  variables : Sym
  initial : Sym
  relations : Sym
  columns : Sym
  steps : Sym
  rows : Sym
  params : Sym
  ands : Sym
  ors : Sym
  dotted : Sym
  updates : Sym
  eachs : Sym
  cases : Sym
  assignments : Sym
  goals : Sym

-- a term, whose first word this is
abbrev pub base : List Sym → Word → Option (List Sym)
base K w = if is_name w then Some (tail ∷ K) else (if same sign.Undef w then Some K else None)

-- what is still to be read after the word, or none where the word does not fit
abbrev pub step : List Sym → Word → Option (List Sym)
step [] w = None
step (fixed f ∷ K) w = if same f w then Some K else None
step (name ∷ K) w = if is_name w then Some K else None
step (conjunction ∷ K) w = if same sign.True w then Some K else base (comparison ∷ term ∷ ands ∷ K) w
step (comparison ∷ K) w = if same sign.Equal w then Some K else (if same sign.NotEqual w then Some K else None)
step (term ∷ K) w = base K w
step (tail ∷ K) w = if same sign.OpenParen w then Some (term ∷ fixed sign.CloseParen ∷ K) else (if same sign.Dot w then Some (name ∷ K) else step K w)
step (sorts ∷ K) w = if same sign.Sort w then Some (name ∷ fixed sign.Semicolon ∷ sorts ∷ K) else step K w
step (functions ∷ K) w = if same sign.Total w then Some (name ∷ fixed sign.Colon ∷ name ∷ fixed sign.Arrow ∷ name ∷ fixed sign.Semicolon ∷ functions ∷ K) else (if same sign.Nullable w then Some (name ∷ fixed sign.Colon ∷ name ∷ fixed sign.Arrow ∷ name ∷ fixed sign.Semicolon ∷ functions ∷ K) else step K w)
step (constants ∷ K) w = if same sign.Const w then Some (name ∷ fixed sign.Colon ∷ name ∷ fixed sign.Semicolon ∷ constants ∷ K) else step K w
step (variables ∷ K) w = if same sign.Var w then Some (name ∷ fixed sign.Colon ∷ name ∷ initial ∷ fixed sign.Semicolon ∷ variables ∷ K) else step K w
step (initial ∷ K) w = if same sign.Equal w then Some (name ∷ K) else step K w
step (relations ∷ K) w = if same sign.Relation w then Some (name ∷ fixed sign.OpenParen ∷ name ∷ fixed sign.Colon ∷ name ∷ columns ∷ fixed sign.CloseParen ∷ fixed sign.Semicolon ∷ relations ∷ K) else step K w
step (columns ∷ K) w = if same sign.Comma w then Some (name ∷ fixed sign.Colon ∷ name ∷ columns ∷ K) else step K w
step (steps ∷ K) w = if same sign.Step w then Some (name ∷ fixed sign.OpenBrace ∷ rows ∷ params ∷ fixed sign.When ∷ conjunction ∷ ors ∷ fixed sign.Semicolon ∷ updates ∷ eachs ∷ fixed sign.CloseBrace ∷ steps ∷ K) else step K w
step (rows ∷ K) w = if same sign.Row w then Some (name ∷ fixed sign.Colon ∷ name ∷ fixed sign.Semicolon ∷ rows ∷ K) else step K w
step (params ∷ K) w = if same sign.Param w then Some (name ∷ fixed sign.Colon ∷ name ∷ fixed sign.Semicolon ∷ params ∷ K) else step K w
step (ands ∷ K) w = if same sign.And w then Some (term ∷ comparison ∷ term ∷ ands ∷ K) else step K w
step (ors ∷ K) w = if same sign.Or w then Some (conjunction ∷ ors ∷ K) else step K w
step (dotted ∷ K) w = if same sign.Dot w then Some (name ∷ K) else step K w
step (updates ∷ K) w = if is_name w then Some (dotted ∷ fixed sign.Assign ∷ term ∷ fixed sign.Semicolon ∷ updates ∷ K) else step K w
step (eachs ∷ K) w = if same sign.Each w then Some (name ∷ fixed sign.Colon ∷ name ∷ fixed sign.OpenBrace ∷ fixed sign.If ∷ conjunction ∷ fixed sign.OpenBrace ∷ assignments ∷ fixed sign.CloseBrace ∷ cases ∷ fixed sign.CloseBrace ∷ eachs ∷ K) else step K w
step (cases ∷ K) w = if same sign.If w then Some (conjunction ∷ fixed sign.OpenBrace ∷ assignments ∷ fixed sign.CloseBrace ∷ cases ∷ K) else step K w
step (assignments ∷ K) w = if is_name w then Some (fixed sign.Dot ∷ name ∷ fixed sign.Assign ∷ term ∷ fixed sign.Semicolon ∷ assignments ∷ K) else step K w
step (goals ∷ K) w = if same sign.Unsafe w then Some (fixed sign.OpenBrace ∷ rows ∷ fixed sign.When ∷ conjunction ∷ ors ∷ fixed sign.Semicolon ∷ fixed sign.CloseBrace ∷ goals ∷ K) else step K w

-- nothing more has to come
abbrev pub ended : List Sym → Option ℕ
ended [] = None
ended (sorts ∷ K) = ended K
ended (functions ∷ K) = ended K
ended (constants ∷ K) = ended K
ended (variables ∷ K) = ended K
ended (initial ∷ K) = ended K
ended (relations ∷ K) = ended K
ended (columns ∷ K) = ended K
ended (steps ∷ K) = ended K
ended (rows ∷ K) = ended K
ended (params ∷ K) = ended K
ended (ands ∷ K) = ended K
ended (ors ∷ K) = ended K
ended (dotted ∷ K) = ended K
ended (updates ∷ K) = ended K
ended (eachs ∷ K) = ended K
ended (cases ∷ K) = ended K
ended (assignments ∷ K) = ended K
ended (goals ∷ K) = ended K
ended (tail ∷ K) = ended K
ended (_ ∷ K) = Some 0

abbrev pub then_on : Option (List Sym) → ℕ → (List Sym → Option ℕ) → Option ℕ
then_on None n f = Some n
then_on (Some K) n f = f K

-- how many words are left where the first fault is, the faulty one included; none where the words are whole
abbrev pub fault : List Sym → List Word → Option ℕ
fault K [] = ended K
fault K (w ∷ ws) = then_on (step K w) (suc (length ws)) (λ next. fault next ws)

abbrev pub start : List Sym
start = fixed sign.System ∷ name ∷ fixed sign.Semicolon ∷ sorts ∷ functions ∷ constants ∷ variables ∷ relations ∷ steps ∷ goals ∷ []

abbrev pub begins : Fixed → List Word → Bool
begins f [] = false
begins f (w ∷ ws) = same f w

abbrev pub begins_name : List Word → Bool
begins_name [] = false
begins_name (w ∷ ws) = is_name w

abbrev pub closes : ℕ → List Sym
closes zero = []
closes (suc n) = fixed sign.CloseParen ∷ closes n
