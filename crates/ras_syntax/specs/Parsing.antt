-- The tree of tokens, or the first token with which no file goes on.
use Rattle.std.specs.Prelude.{◌≡◌, ℕ, zero, suc, ◌+◌, ◌<◌, ◌≤◌, List, [], ◌∷◌, length, take, Result, Ok, Err}
use Rattle.ras_lexer.specs.declared.token.Token.{Token}
use Rattle.ras_lexer.specs.declared.token.Word.{Word}
use Rattle.ras_syntax.specs.declared.fault.SyntaxError.{SyntaxError}
use Rattle.ras_syntax.specs.declared.fault.SyntaxError.TheVariants.{Fault, Memory}
use Rattle.ras_syntax.specs.declared.parsing.Tree.{Tree}
use Rattle.ras_syntax.specs.Grammar.{IsFile, Begins}
use Rattle.ras_syntax.specs.Places.{words}

-- Some file begins with the first k words, none with one more; where there are only k words, they are no file.
pub record IsFirstFault (ws : List Word) (k : ℕ) : Type 0 where
  pub within : k ≤ length ws
  pub before : Begins (take k ws)
  pub here : k < length ws → Begins (take (k + 1) ws) → ⊥
  pub no_file : IsFile ws → ⊥

-- the place of the k-th token, or else the length of the text
abbrev pub place : List Token → ℕ → ℕ → ℕ
place [] length k = length
place (t ∷ ts) length zero = t.at
place (t ∷ ts) length (suc k) = place ts length k

abbrev pub Parses : List Token → ℕ → Result Tree SyntaxError → Type 0
Parses tokens length (Ok tree) = (tree ≡ tokens) × IsFile (words tokens)
Parses tokens length (Err (Fault fault)) = (k : ℕ) × IsFirstFault (words tokens) k × (fault.at ≡ place tokens length k)
Parses tokens length (Err (Memory e)) = Unit {0}
