-- What is answered of lines of the system part.
use Rattle.std.specs.Prelude.{◌≡◌, ◌<◌, ◌^◌, ℕ, All, List, ◌++◌, Result, Ok, Err, Option, Some, None}
use Rattle.ras_evidence.specs.declared.reading.ReadError.{ReadError}
use Rattle.ras_evidence.specs.declared.reading.ReadError.TheVariants as read
use Rattle.ras_bundles.specs.declared.system_lines.FunctionLine.{FunctionLine}
use Rattle.ras_bundles.specs.declared.system_lines.VariableLine.{VariableLine}
use Rattle.ras_bundles.specs.declared.system_lines.UpdateLine.{UpdateLine}
use Rattle.ras_bundles.specs.declared.system_lines.TransitionLines.{TransitionLines}
use Rattle.ras_bundles.specs.declared.system_lines.SystemLines.{SystemLines}
use Rattle.ras_bundles.specs.declared.fault.BundleError.{BundleError}
use Rattle.ras_bundles.specs.declared.fault.BundleError.TheVariants.{System, Evidence, Memory}
use Rattle.ras_bundles.specs.Checks.{Check, first_from, first_fault}

-- Lines of which the first has the number n: nothing is wrong, and the number of the line behind them is answered; or their first
-- fault is answered.
abbrev pub Judges : List (List Check) → ℕ → Result ℕ BundleError → Type 0
Judges lines n (Ok next) = (more : List (List Check)) → first_from n (lines ++ more) ≡ first_from next more
Judges lines n (Err (System line kind)) = (more : List (List Check)) → first_from n (lines ++ more) ≡ Some (line, kind)
Judges lines n (Err (Evidence f)) = ⊥
Judges lines n (Err (Memory e)) = Unit {0}

-- both sorts of a function are small numbers
abbrev pub HasSmallSorts : FunctionLine → Type 0
HasSmallSorts f = (f.source < 64) × (f.target < 64)

-- The numbers are so small that names can hold them.

abbrev pub IsShort : ℕ → Type 0
IsShort n = n < 2 ^ 16

abbrev pub HasShortSorts : FunctionLine → Type 0
HasShortSorts f = IsShort f.source × IsShort f.target

abbrev pub HasShortSort : VariableLine → Type 0
HasShortSort v = IsShort v.sort

abbrev pub IsShortInitial : Option ℕ → Type 0
IsShortInitial None = Unit {0}
IsShortInitial (Some c) = IsShort c

abbrev pub HasShortInitial : VariableLine → Type 0
HasShortInitial v = IsShortInitial v.initial

abbrev pub HasShortTarget : UpdateLine → Type 0
HasShortTarget u = IsShort u.target

abbrev pub HasShortTargets : TransitionLines → Type 0
HasShortTargets t = All HasShortTarget t.updates

-- the first fault of the system part, or want of memory
abbrev pub AnswersFirstFault : SystemLines → BundleError → Type 0
AnswersFirstFault s (System line kind) = first_fault s ≡ Some (line, kind)
AnswersFirstFault s (Evidence f) = ⊥
AnswersFirstFault s (Memory e) = Unit {0}

-- the error of a reader of evidence, as one of a bundle
abbrev pub behind_error : ReadError → BundleError
behind_error (read.Fault f) = Evidence f
behind_error (read.Memory e) = Memory e
