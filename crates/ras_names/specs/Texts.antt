-- What a specification text denotes.
use Rattle.std.specs.Prelude.{◌≡◌, ℕ, List}
use Rattle.ras_lexer.specs.declared.token.Token.{Token}
use Rattle.ras_lexer.specs.Pieces.{IsTokens}
use Rattle.ras_syntax.specs.Grammar as grammar
use Rattle.ras_syntax.specs.Places.{words}
use Rattle.ras_system.specs.Systems.{SystemParts}
use Rattle.ras_names.specs.declared.names.Names.{Names}
use Rattle.ras_names.specs.Files.{FileDenotes}

-- the words of the tokens are a file that denotes the system with the names
pub record TokensDenote (tokens : List Token) (system : SystemParts) (names : Names) : Type 0 where
  pub file : grammar.File
  pub spelled : words tokens ≡ grammar.file_words file
  pub denotes : FileDenotes file system names

-- the bytes are tokens, and these denote the system with the names
pub record Denotes (bytes : List ℕ) (system : SystemParts) (names : Names) : Type 0 where
  pub tokens : List Token
  pub read : IsTokens bytes tokens
  pub denote : TokensDenote tokens system names
