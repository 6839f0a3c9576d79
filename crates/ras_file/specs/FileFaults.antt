-- The first fault of a specification file: that of its bytes, of its tokens, or of its names and sorts.
use Rattle.std.specs.Prelude.{◌≡◌, ◌⊎◌, ℕ, List, length, slice_get, Some}
use Rattle.ras_lexer.specs.declared.token.Token.{Token}
use Rattle.ras_lexer.specs.declared.fault.LexKind.{LexKind}
use Rattle.ras_lexer.specs.declared.fault.LexKind.TheVariants as lexical
use Rattle.ras_lexer.specs.declared.fault.LexFault.{LexFault}
use Rattle.ras_lexer.specs.Pieces as lexer
use Rattle.ras_lexer.specs.Pieces.{IsTokens}
use Rattle.ras_syntax.specs.Places.{words}
use Rattle.ras_syntax.specs.Parsing as syntax
use Rattle.ras_syntax.specs.Parsing.{place}
use Rattle.ras_names.specs.declared.spec_fault.SpecKind.{SpecKind}
use Rattle.ras_names.specs.declared.spec_fault.SpecKind.TheVariants as names
use Rattle.ras_names.specs.declared.spec_fault.SpecFault.{SpecFault}
use Rattle.ras_names.specs.Placed as placed
use Rattle.ras_names.specs.PlacedTokens.{IsFileOf}
use Rattle.ras_names.specs.FileChecks.{first_fault}
use Rattle.ras_file.specs.declared.fault.FileKind.{FileKind}
use Rattle.ras_file.specs.declared.fault.FileKind.TheVariants.{BadByte, LongName, BadUtf8, Syntax, DuplicateName, UnknownName, WrongSort, Cycle, TooMany, TooWide, RepeatedTarget}
use Rattle.ras_file.specs.declared.fault.FileFault.{FileFault}
use Rattle.ras_file.specs.declared.fault.FileError.{FileError}
use Rattle.ras_file.specs.declared.fault.FileError.TheVariants.{Fault, Memory}

abbrev pub lexical_kind : LexKind → FileKind
lexical_kind lexical.BadByte = BadByte
lexical_kind lexical.LongName = LongName
lexical_kind lexical.BadUtf8 = BadUtf8

-- a cycle is told by the names of the sorts of the function that closes it
abbrev pub cycle_of : placed.Function → FileKind
cycle_of f = Cycle f.source.text f.target.text

abbrev pub IsNamesKind : placed.File → SpecKind → FileKind → Type 0
IsNamesKind file names.DuplicateName kind = kind ≡ DuplicateName
IsNamesKind file names.UnknownName kind = kind ≡ UnknownName
IsNamesKind file names.WrongSort kind = kind ≡ WrongSort
IsNamesKind file (names.Cycle c) kind = (f : placed.Function) × (slice_get file.functions c.n ≡ Some f) × (kind ≡ cycle_of f)
IsNamesKind file names.TooMany kind = kind ≡ TooMany
IsNamesKind file names.TooWide kind = kind ≡ TooWide
IsNamesKind file names.RepeatedTarget kind = kind ≡ RepeatedTarget

-- the bytes have no tokens
pub record IsLexical (bytes : List ℕ) (fault : FileFault) : Type 0 where
  pub first : LexFault
  pub is_first : lexer.IsFirstFault bytes first
  pub at : fault.at ≡ first.at
  pub kind : fault.kind ≡ lexical_kind first.kind

-- the tokens are no file of the grammar
pub record IsSyntactic (bytes : List ℕ) (fault : FileFault) : Type 0 where
  pub tokens : List Token
  pub read : IsTokens bytes tokens
  pub number : ℕ
  pub is_first : syntax.IsFirstFault (words tokens) number
  pub at : fault.at ≡ place tokens (length bytes) number
  pub kind : fault.kind ≡ Syntax

-- the tokens are a file, and this is its first fault of names and sorts
pub record IsNamesFault (tokens : List Token) (fault : FileFault) : Type 0 where
  pub file : placed.File
  pub of : IsFileOf tokens file
  pub first : SpecFault
  pub is_first : first_fault file ≡ Some first
  pub at : fault.at ≡ first.at
  pub kind : IsNamesKind file first.kind fault.kind

pub record IsOfNames (bytes : List ℕ) (fault : FileFault) : Type 0 where
  pub tokens : List Token
  pub read : IsTokens bytes tokens
  pub names : IsNamesFault tokens fault

abbrev pub IsFileFault : List ℕ → FileFault → Type 0
IsFileFault bytes fault = IsLexical bytes fault ⊎ (IsSyntactic bytes fault ⊎ IsOfNames bytes fault)

-- want of memory says nothing of the bytes
abbrev pub IsErrorOf : List ℕ → FileError → Type 0
IsErrorOf bytes (Fault f) = IsFileFault bytes f
IsErrorOf bytes (Memory e) = Unit {0}
