-- A text as the pieces that it is made of, its tokens, and its first fault.
use Rattle.std.specs.Prelude.{◌≡◌, ◌≢◌, ℕ, ◌+◌, ◌<◌, ◌≤◌, List, [], ◌∷◌, ◌++◌, Bool, false, not, ◌||◌, ◌==◌, IsTrue, length, slice_range}
use Rattle.std.specs.List.{flat_map, list_all}
use Rattle.std.specs.Str.{IsUtf8, IsValidUpTo}
use Rattle.ras_lexer.specs.declared.fault.LexFault.{LexFault}
use Rattle.ras_lexer.specs.declared.fault.LexKind.{LexKind}
use Rattle.ras_lexer.specs.declared.fault.LexKind.TheVariants.{BadByte, LongName, BadUtf8}
use Rattle.ras_lexer.specs.declared.token.Word.{Word}
use Rattle.ras_lexer.specs.declared.token.Word.TheVariants.{Name}
use Rattle.ras_lexer.specs.declared.token.Token.{Token}
use Rattle.ras_lexer.specs.Words.{spelling, IsWord, IsLongest, NoWord}

-- a blank, tab, CR or LF
abbrev pub is_blank : ℕ → Bool
is_blank b = (b == 32 || b == 9) || (b == 13 || b == 10)

-- any byte but LF
abbrev pub is_in_comment : ℕ → Bool
is_in_comment b = not (b == 10)

-- LF or the end of the text comes next
abbrev pub EndsComment : List ℕ → Type 0
EndsComment [] = Unit {0}
EndsComment (b ∷ bs) = b ≡ 10

pub data Piece : Type 0 where
  blank : ℕ → Piece
  comment : List ℕ → Piece
  word : Word → Piece

-- a comment begins with `#` (35)
abbrev pub piece_bytes : Piece → List ℕ
piece_bytes (blank b) = b ∷ []
piece_bytes (comment text) = 35 ∷ text
piece_bytes (word w) = spelling w

-- the bytes are those of a comment behind its `#`, up to its end
pub record IsComment (text rest : List ℕ) : Type 0 where
  pub line : IsTrue (list_all is_in_comment text)
  pub ends : EndsComment rest

pub record IsLongestWord (w : Word) (rest : List ℕ) : Type 0 where
  pub word : IsWord w
  pub longest : IsLongest w rest

-- the piece may stand where the rest follows
abbrev pub Stands : Piece → List ℕ → Type 0
Stands (blank b) rest = IsTrue (is_blank b)
Stands (comment text) rest = IsComment text rest × IsUtf8 text
Stands (word w) rest = IsLongestWord w rest × (length (spelling w) ≤ 64)

abbrev pub pieces_bytes : List Piece → List ℕ
pieces_bytes ps = flat_map piece_bytes ps

abbrev pub AllStand : List Piece → List ℕ → Type 0
AllStand [] rest = Unit {0}
AllStand (p ∷ ps) rest = Stands p (pieces_bytes ps ++ rest) × AllStand ps rest

-- the words among the pieces, the first of which begins at the place
abbrev pub tokens_at : ℕ → List Piece → List Token
tokens_at place [] = []
tokens_at place (word w ∷ ps) = record { at = place; word = w } ∷ tokens_at (place + length (spelling w)) ps
tokens_at place (p ∷ ps) = tokens_at (place + length (piece_bytes p)) ps

-- the tokens are those of the text
pub record IsTokens (text : List ℕ) (tokens : List Token) : Type 0 where
  pub pieces : List Piece
  pub parts : text ≡ pieces_bytes pieces
  pub stand : AllStand pieces []
  pub words : tokens ≡ tokens_at 0 pieces

-- each token begins at the place or behind it, at or behind the end of the one before, and its word is written there
abbrev pub StandInOrder : List ℕ → ℕ → List Token → Type 0
StandInOrder text place [] = Unit {0}
StandInOrder text place (t ∷ ts) =
    let end = t.at + length (spelling t.word) in
    (place ≤ t.at) × (slice_range text t.at end ≡ spelling t.word) × StandInOrder text end ts

-- What stands where a fault is: the bytes there, and how many of them come before the fault's place.
abbrev pub Faulty : LexKind → List ℕ → ℕ → Type 0
Faulty BadByte bytes n = (b : ℕ) × (rest : List ℕ) × (bytes ≡ b ∷ rest) × (is_blank b ≡ false) × (b ≢ 35) × NoWord bytes × (n ≡ 0)
Faulty LongName bytes n = (name : List ℕ) × (rest : List ℕ) × (bytes ≡ name ++ rest) × IsLongestWord (Name name) rest × (64 < length name) × (n ≡ 0)
Faulty BadUtf8 bytes n = (text : List ℕ) × (rest : List ℕ) × (bytes ≡ 35 ∷ (text ++ rest)) × IsComment text rest × ((m : ℕ) × IsValidUpTo text m × (n ≡ m + 1))

-- the fault is the first of the text
pub record IsFirstFault (text : List ℕ) (fault : LexFault) : Type 0 where
  pub pieces : List Piece
  pub rest : List ℕ
  pub parts : text ≡ pieces_bytes pieces ++ rest
  pub stand : AllStand pieces rest
  pub before : ℕ
  pub faulty : Faulty fault.kind rest before
  pub place : fault.at ≡ length (pieces_bytes pieces) + before
