-- What a shelf tells of a name.
use Rattle.std.specs.Prelude.{◌≡◌, ◌≢◌, ℕ, ◌<◌, List, length, Option, None, Some}

-- nothing, that no file has the name, or the file's bytes
pub data Told : Type 0 where
  untold : Told
  missing : Told
  holds : List ℕ → Told

-- it tells of the name
abbrev pub IsTold : Told → Type 0
IsTold told = told ≢ untold

-- it tells of a file of more than this many bytes
abbrev pub HoldsMoreThan : Told → ℕ → Type 0
HoldsMoreThan told most = (content : List ℕ) × (told ≡ holds content) × (most < length content)

-- what a shelf that tells all tells of a name under which it holds this, if anything
abbrev pub told_of : Option (List ℕ) → Told
told_of None = missing
told_of (Some content) = holds content
