-- What is read of a text.
use Rattle.std.specs.Prelude.{ℕ, List, Result, Ok, Err}
use Rattle.std.specs.Global.{Vec}
use Rattle.ras_lexer.specs.declared.fault.LexError.{LexError}
use Rattle.ras_lexer.specs.declared.fault.LexError.TheVariants.{Fault, Memory}
use Rattle.ras_lexer.specs.declared.token.Token.{Token}
use Rattle.ras_lexer.specs.Pieces.{IsTokens, IsFirstFault}

abbrev pub Lexes : List ℕ → Result (Vec Token) LexError → Type 0
Lexes text (Ok tokens) = IsTokens text tokens.items
Lexes text (Err (Fault fault)) = IsFirstFault text fault
Lexes text (Err (Memory e)) = Unit {0}
