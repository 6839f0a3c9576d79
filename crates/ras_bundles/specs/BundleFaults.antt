-- The first line of a bundle in which something is wrong.
use Rattle.std.specs.Prelude.{◌≡◌, ℕ, List, ◌++◌, ◌⊎◌, Some}
use Rattle.ras_lines.specs.Faults.{AreLines, IsMisfit}
use Rattle.ras_system.specs.Systems.{SystemParts}
use Rattle.ras_evidence.specs.EvidenceFaults.{IsLineOf, IsTextFault}
use Rattle.ras_bundles.specs.declared.system_lines.SystemLines.{SystemLines}
use Rattle.ras_bundles.specs.declared.fault.BundleKind.{BundleKind}
use Rattle.ras_bundles.specs.declared.fault.BundleKind.TheVariants.{Text}
use Rattle.ras_bundles.specs.declared.fault.BundleError.{BundleError}
use Rattle.ras_bundles.specs.declared.fault.BundleError.TheVariants.{System, Evidence, Memory}
use Rattle.ras_bundles.specs.SystemTexts.{system_lines, IsWrittenSystem}
use Rattle.ras_bundles.specs.Numbers.{numbers_of}
use Rattle.ras_bundles.specs.Bundles.{IsPlainSystem}
use Rattle.ras_bundles.specs.Checks.{first_fault}

-- the numbers of the system part, and what stands behind it
abbrev pub IsNumbersFront : List (List ℕ) → SystemLines → List (List ℕ) → Type 0
IsNumbersFront lines numbers behind = (lines ≡ system_lines numbers ++ behind) × IsWrittenSystem numbers

abbrev pub BeginsWithNumbers : List (List ℕ) → Type 0
BeginsWithNumbers lines = (numbers : SystemLines) × (behind : List (List ℕ)) × IsNumbersFront lines numbers behind

-- the first line with which no system part goes on
abbrev pub IsTextLine : List (List ℕ) → ℕ → Type 0
IsTextLine lines n = (left : List (List ℕ)) × IsMisfit BeginsWithNumbers lines left × IsLineOf lines left n

-- the lines begin with a system part, and this is the first line of it in which something is wrong, and what
abbrev pub IsNumbersFault : List (List ℕ) → ℕ → BundleKind → Type 0
IsNumbersFault lines n kind = (numbers : SystemLines) × (behind : List (List ℕ)) × IsNumbersFront lines numbers behind × (first_fault numbers ≡ Some (n, kind))

-- What is wrong in bytes that are these lines and a rest that is not ended, and at which line.
abbrev pub IsFaultOf : List (List ℕ) → List ℕ → BundleError → Type 0
IsFaultOf lines rest (System n kind) = ((kind ≡ Text) × IsTextLine lines n) ⊎ IsNumbersFault lines n kind
IsFaultOf lines rest (Evidence f) =
    (system : SystemParts) × (behind left : List (List ℕ)) × IsPlainSystem system × IsNumbersFront lines (numbers_of system) behind
    × IsTextFault behind left rest f.kind × IsLineOf lines left f.line
IsFaultOf lines rest (Memory e) = Unit {0}

abbrev pub IsBundleFault : List ℕ → BundleError → Type 0
IsBundleFault bytes e = (lines : List (List ℕ)) (rest : List ℕ) → AreLines bytes lines rest → IsFaultOf lines rest e

-- an error that is not want of memory
abbrev pub IsFault : BundleError → Type 0
IsFault (Memory e) = ⊥
IsFault e = Unit {0}
