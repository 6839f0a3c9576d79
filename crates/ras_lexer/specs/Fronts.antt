-- What the scanner finds at the front of bytes.
use Rattle.std.specs.Prelude.{◌≡◌, ℕ, ◌<◌, ◌≤◌, List, [], ◌∷◌, ◌++◌, length, take, drop, Option, Some, None, Result, Ok, Err}
use Rattle.std.specs.Str.{IsUtf8, IsValidUpTo}
use Rattle.ras_lexer.specs.declared.fault.LexKind.{LexKind}
use Rattle.ras_lexer.specs.declared.fault.LexKind.TheVariants.{BadByte, LongName, BadUtf8}
use Rattle.ras_lexer.specs.declared.fixed.Fixed.{Fixed}
use Rattle.ras_lexer.specs.declared.token.Token.{Token}
use Rattle.ras_lexer.specs.declared.token.Word.{Word}
use Rattle.ras_lexer.specs.declared.token.Word.TheVariants as declared
use Rattle.ras_lexer.specs.declared.scanning.Front.{Front}
use Rattle.ras_lexer.specs.declared.scanning.Front.TheVariants as front
use Rattle.ras_lexer.specs.declared.scanning.Wrong.{Wrong}
use Rattle.ras_lexer.specs.Words.{spelling, NoWord}
use Rattle.ras_lexer.specs.Pieces.{Piece, word, piece_bytes, Stands, tokens_at, IsComment, IsLongestWord, Faulty}

-- the piece is the first n bytes
pub record IsFront (bytes : List ℕ) (p : Piece) (n : ℕ) : Type 0 where
  pub parts : bytes ≡ piece_bytes p ++ drop n bytes
  pub count : n ≡ length (piece_bytes p)
  pub stands : Stands p (drop n bytes)

-- the longest word is the first n bytes
pub record BeginsWith (bytes : List ℕ) (w : Word) (n : ℕ) : Type 0 where
  pub parts : bytes ≡ spelling w ++ drop n bytes
  pub count : n ≡ length (spelling w)
  pub longest : IsLongestWord w (drop n bytes)

abbrev pub SignOf : List ℕ → Option Fixed → Type 0
SignOf bytes None = NoWord bytes
SignOf bytes (Some f) = BeginsWith bytes (declared.Fixed f) (length (spelling (declared.Fixed f)))

abbrev pub WordOf : List ℕ → Result Word LexKind → Type 0
WordOf bytes (Ok w) = BeginsWith bytes w (length (spelling w)) × (length (spelling w) ≤ 64)
WordOf bytes (Err BadByte) = NoWord bytes
WordOf bytes (Err LongName) = (name : List ℕ) × BeginsWith bytes (declared.Name name) (length name) × (64 < length name)
WordOf bytes (Err BadUtf8) = ⊥

abbrev pub CommentOf : List ℕ → Result ℕ ℕ → Type 0
CommentOf bytes (Ok n) = IsComment (take n bytes) (drop n bytes) × IsUtf8 (take n bytes) × (n ≤ length bytes)
CommentOf bytes (Err m) = (n : ℕ) × IsComment (take n bytes) (drop n bytes) × IsValidUpTo (take n bytes) m × (n ≤ length bytes)

abbrev pub ScanOf : List ℕ → Result Front Wrong → Type 0
ScanOf bytes (Ok (front.Space n)) = (p : Piece) × IsFront bytes p n × ((place : ℕ) → tokens_at place (p ∷ []) ≡ [])
ScanOf bytes (Ok (front.Word w)) = IsFront bytes (word w) (length (spelling w))
ScanOf bytes (Err e) = Faulty e.kind bytes e.before

abbrev pub front_length : Front → ℕ
front_length (front.Space n) = n
front_length (front.Word w) = length (spelling w)

abbrev pub front_tokens : ℕ → Front → List Token
front_tokens place (front.Space n) = []
front_tokens place (front.Word w) = record { at = place; word = w } ∷ []
