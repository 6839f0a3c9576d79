-- The words of the command line.
use Rattle.std.specs.Prelude.{◌≡◌, ◌⊎◌, ℕ, List, [], ◌∷◌, ◌++◌, map, All, codes, String, string_bytes}
use Rattle.ras_cli.specs.declared.words.Task.{Task}
use Rattle.ras_cli.specs.declared.words.Task.TheVariants as task
use Rattle.ras_cli.specs.declared.words.NamesInParts.{NamesInParts}
use Rattle.ras_cli.specs.declared.words.OneOrTwo.{OneOrTwo}
use Rattle.ras_cli.specs.declared.words.OneOrTwo.TheVariants.{One, Two}

-- the texts of the words
abbrev pub texts : {A : Type 0} → List (String A) → List (List ℕ)
texts words = map string_bytes words

-- A command, and the names of its files: a bundle or a specification, or a specification and an evidence.
pub data Request : Type 0 where
  check_bundle : List ℕ → Request
  print : List ℕ → Request
  check : List ℕ → List ℕ → Request
  replay : List ℕ → List ℕ → Request

abbrev pub request_of : Task → Request
request_of (task.CheckBundle bundle) = check_bundle bundle.now
request_of (task.Print file) = print file.now
request_of (task.Check file evidence) = check file.now evidence.now
request_of (task.Replay file evidence) = replay file.now evidence.now

abbrev pub command_word : Request → List ℕ
command_word (check_bundle bundle) = codes "check"
command_word (print file) = codes "print"
command_word (check file evidence) = codes "check"
command_word (replay file evidence) = codes "replay"

-- the names of its files, in order
abbrev pub files_of : Request → List (List ℕ)
files_of (check_bundle bundle) = bundle ∷ []
files_of (print file) = file ∷ []
files_of (check file evidence) = file ∷ evidence ∷ []
files_of (replay file evidence) = file ∷ evidence ∷ []

-- the word begins with `-` (45) and is not `-` alone
abbrev pub IsOption : List ℕ → Type 0
IsOption [] = ⊥
IsOption (byte ∷ []) = ⊥
IsOption (byte ∷ next ∷ bytes) = byte ≡ 45

abbrev pub IsName : List ℕ → Type 0
IsName word = ¬ IsOption word

-- The words name files: by words that are no options; behind `--` by any words.

pub record NamesBehindDashes (words names : List (List ℕ)) : Type 0 where
  pub front : List (List ℕ)
  pub back : List (List ℕ)
  pub split : words ≡ front ++ (codes "--" ∷ back)
  pub joined : names ≡ front ++ back
  pub no_options : All IsName front

abbrev pub NamesFiles : List (List ℕ) → List (List ℕ) → Type 0
NamesFiles words names = ((words ≡ names) × All IsName words) ⊎ NamesBehindDashes words names

-- the word is that of a command with these files
abbrev pub IsCommand : List ℕ → List (List ℕ) → Request → Type 0
IsCommand word names request = (word ≡ command_word request) × (names ≡ files_of request)

-- the words are a command and the names of its files
pub record Asks (words : List (List ℕ)) (request : Request) : Type 0 where
  pub behind : List (List ℕ)
  pub parts : words ≡ command_word request ∷ behind
  pub files : NamesFiles behind (files_of request)

-- the words are of the form of no command
abbrev pub IsNoCommand : List (List ℕ) → Type 0
IsNoCommand words = (request : Request) → ¬ Asks words request

-- What the parts of the reader give.

abbrev pub names_of : NamesInParts → List (List ℕ)
names_of n = texts n.front.now ++ texts n.back.now

abbrev pub named_by : OneOrTwo → List (List ℕ)
named_by (One file) = file.now ∷ []
named_by (Two file evidence) = file.now ∷ evidence.now ∷ []
