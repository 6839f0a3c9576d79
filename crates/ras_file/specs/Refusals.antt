-- The line of a file that is refused.
use Rattle.std.specs.Prelude.{ℕ, List, [], ◌∷◌, ◌++◌, codes}
use Rattle.std.specs.Fmt.{decimal}
use Rattle.ras_file.specs.declared.fault.FileKind.{FileKind}
use Rattle.ras_file.specs.declared.fault.FileKind.TheVariants.{BadByte, LongName, BadUtf8, Syntax, DuplicateName, UnknownName, WrongSort, Cycle, TooMany, TooWide, RepeatedTarget}
use Rattle.ras_file.specs.declared.fault.FileFault.{FileFault}

-- a blank, and the text
abbrev pub behind_blank : List ℕ → List ℕ
behind_blank text = codes " " ++ text

abbrev pub kind_word : FileKind → List ℕ
kind_word BadByte = codes "BAD_BYTE"
kind_word LongName = codes "LONG_NAME"
kind_word BadUtf8 = codes "BAD_UTF8"
kind_word Syntax = codes "SYNTAX"
kind_word DuplicateName = codes "DUPLICATE_NAME"
kind_word UnknownName = codes "UNKNOWN_NAME"
kind_word WrongSort = codes "WRONG_SORT"
kind_word (Cycle source target) = codes "CYCLE"
kind_word TooMany = codes "TOO_MANY"
kind_word TooWide = codes "TOO_WIDE"
kind_word RepeatedTarget = codes "REPEATED_TARGET"

-- the sorts of a cycle
abbrev pub kind_names : FileKind → List ℕ
kind_names (Cycle source target) = behind_blank source ++ behind_blank target
kind_names other = []

-- `REFUSED file AT P KIND`, where the names of the source and the target follow CYCLE
abbrev pub refusal_text : FileFault → List ℕ
refusal_text fault = codes "REFUSED file AT " ++ (decimal fault.at ++ (behind_blank (kind_word fault.kind) ++ (kind_names fault.kind ++ 10 ∷ [])))
