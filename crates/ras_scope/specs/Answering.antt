-- What a reader answers: what it made, where all its checks pass, or the first fault.
use Rattle.std.specs.Prelude.{◌≡◌, Some, None, Result, MatchResult}
use Rattle.std.specs.Prelude.{List}
use Rattle.ras_scope.specs.declared.fault.SpecError.{SpecError}
use Rattle.ras_scope.specs.declared.fault.SpecError.TheVariants.{Fault, Memory}
use Rattle.ras_names.specs.Checks.{Check, first_of}

-- the error is the first fault of the checks; want of memory says nothing of them
abbrev pub Faults : List Check → SpecError → Type 0
Faults checks (Fault f) = first_of checks ≡ Some f
Faults checks (Memory e) = Unit {0}

-- none of the checks fails, or the first that does is the answer
abbrev pub Answers : {A : Type 0} → List Check → Result A SpecError → Type 0
Answers checks result = MatchResult result (λ a. first_of checks ≡ None) (Faults checks)
