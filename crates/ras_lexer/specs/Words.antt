-- The words of a text, and how each is spelled.
use Rattle.std.specs.Prelude.{◌≡◌, ◌≢◌, ℕ, ◌≤◌, List, [], ◌∷◌, ◌++◌, Bool, false, ◌||◌, ◌&&◌, ◌==◌, IsTrue, length, codes}
use Rattle.std.specs.Char.{is_ascii_alphabetic, is_ascii_alphanumeric}
use Rattle.std.specs.List.{list_all}
use Rattle.ras_lexer.specs.declared.fixed.Fixed.{Fixed}
use Rattle.ras_lexer.specs.declared.fixed.Fixed.TheVariants as fixed
use Rattle.ras_lexer.specs.declared.token.Word.{Word}
use Rattle.ras_lexer.specs.declared.token.Word.TheVariants as word

abbrev pub fixed_bytes : Fixed → List ℕ
fixed_bytes fixed.System = codes "system"
fixed_bytes fixed.Sort = codes "sort"
fixed_bytes fixed.Total = codes "total"
fixed_bytes fixed.Nullable = codes "nullable"
fixed_bytes fixed.Const = codes "const"
fixed_bytes fixed.Var = codes "var"
fixed_bytes fixed.Relation = codes "relation"
fixed_bytes fixed.Step = codes "step"
fixed_bytes fixed.Row = codes "row"
fixed_bytes fixed.Param = codes "param"
fixed_bytes fixed.When = codes "when"
fixed_bytes fixed.Or = codes "or"
fixed_bytes fixed.And = codes "and"
fixed_bytes fixed.True = codes "true"
fixed_bytes fixed.Undef = codes "undef"
fixed_bytes fixed.Each = codes "each"
fixed_bytes fixed.If = codes "if"
fixed_bytes fixed.Unsafe = codes "unsafe"
fixed_bytes fixed.OpenBrace = codes "{"
fixed_bytes fixed.CloseBrace = codes "}"
fixed_bytes fixed.OpenParen = codes "("
fixed_bytes fixed.CloseParen = codes ")"
fixed_bytes fixed.Semicolon = codes ";"
fixed_bytes fixed.Colon = codes ":"
fixed_bytes fixed.Comma = codes ","
fixed_bytes fixed.Dot = codes "."
fixed_bytes fixed.Equal = codes "="
fixed_bytes fixed.NotEqual = codes "!="
fixed_bytes fixed.Assign = codes ":="
fixed_bytes fixed.Arrow = codes "->"

-- a letter or `_` (95)
abbrev pub begins_name : ℕ → Bool
begins_name b = is_ascii_alphabetic b || b == 95

-- a letter, a digit or `_`
abbrev pub is_in_name : ℕ → Bool
is_in_name b = is_ascii_alphanumeric b || b == 95

abbrev pub is_name : List ℕ → Bool
is_name [] = false
is_name (b ∷ bs) = begins_name b && list_all is_in_name bs

abbrev pub spelling : Word → List ℕ
spelling (word.Name name) = name
spelling (word.Fixed f) = fixed_bytes f

-- a name, of whatever length, is no reserved word
abbrev pub IsWord : Word → Type 0
IsWord (word.Name name) = IsTrue (is_name name) × ((f : Fixed) → fixed_bytes f ≢ name)
IsWord (word.Fixed f) = Unit {0}

-- no word that the bytes begin with is longer than w, behind which they go on with the rest
abbrev pub IsLongest : Word → List ℕ → Type 0
IsLongest w rest = (v : Word) (more : List ℕ) → IsWord v → spelling w ++ rest ≡ spelling v ++ more → length (spelling v) ≤ length (spelling w)

-- no word begins the bytes
abbrev pub NoWord : List ℕ → Type 0
NoWord bytes = (v : Word) (more : List ℕ) → IsWord v → bytes ≡ spelling v ++ more → ⊥
