-- Each kind of fault of names and sorts is told as a kind of fault of the file.
use Rattle.std.proofs.Common.{◌≡◌, ◌<◌, ℕ, zero, suc, List, [], ◌∷◌, length, refl, arith}
use Rattle.std.specs.Prelude.{Some, slice_get}
use Rattle.ras_logic.specs.declared.ids.FunId.{FunId}
use Rattle.ras_lexer.specs.declared.token.Token.{Token}
use Rattle.ras_lexer.specs.Pieces.{IsTokens}
use Rattle.ras_names.specs.declared.spec_fault.SpecKind.{SpecKind}
use Rattle.ras_names.specs.declared.spec_fault.SpecKind.TheVariants as names
use Rattle.ras_names.specs.declared.spec_fault.SpecFault.{SpecFault}
use Rattle.ras_names.specs.Placed as placed
use Rattle.ras_names.specs.Faults.{IsFirstFault}
use Rattle.ras_file.specs.declared.fault.FileKind.{FileKind}
use Rattle.ras_file.specs.declared.fault.FileKind.TheVariants.{DuplicateName, UnknownName, WrongSort, TooMany, TooWide, RepeatedTarget}
use Rattle.ras_file.specs.declared.fault.FileFault.{FileFault}
use Rattle.ras_file.specs.FileFaults.{cycle_of, IsNamesKind, IsNamesFault, IsOfNames}
use Rattle.ras_file.proofs.Cycles.{cycle_within}

has_element : {A : Type 0} (xs : List A) (n : ℕ) → n < length xs → (x : A) × (slice_get xs n ≡ Some x)
has_element [] n lt = absurd (omega (arith, lt))
has_element (x ∷ xs) zero lt = (x, refl)
has_element (x ∷ xs) (suc n) lt = has_element xs n (omega (arith, lt))

told : (file : placed.File) (kind : SpecKind) → ((f : FunId) → kind ≡ names.Cycle f → f.n < length file.functions) → (is : FileKind) × IsNamesKind file kind is
told file names.DuplicateName within = (DuplicateName, refl)
told file names.UnknownName within = (UnknownName, refl)
told file names.WrongSort within = (WrongSort, refl)
told file (names.Cycle f) within = let found = has_element file.functions f.n (within f refl) in (cycle_of found.0, (found.0, found.1, refl))
told file names.TooMany within = (TooMany, refl)
told file names.TooWide within = (TooWide, refl)
told file names.RepeatedTarget within = (RepeatedTarget, refl)

pub file_fault : (bytes : List ℕ) (tokens : List Token) (first : SpecFault) → IsTokens bytes tokens → IsFirstFault tokens first → (fault : FileFault) × IsOfNames bytes fault
file_fault bytes tokens first read h =
    let kind = told h.file first.kind (λ f e. cycle_within h.file first f h.first e) in
    let names : IsNamesFault tokens (record { at = first.at; kind = kind.0 }) = record { file = h.file; of = h.of; first = first; is_first = h.first; at = refl; kind = kind.1 } in
    (record { at = first.at; kind = kind.0 }, record { tokens = tokens; read = read; names = names })
