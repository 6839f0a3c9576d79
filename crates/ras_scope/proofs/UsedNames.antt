-- A name that is looked up: the check of its use passes where it is among the names.
use Rattle.std.proofs.Common.{◌≡◌, true, false, List, [], ◌∷◌, None, refl}
use Rattle.std.specs.Prelude.{Result, Err}
use Rattle.ras_syntax.specs.Grammar.{Text}
use Rattle.ras_names.specs.declared.spec_fault.SpecKind.TheVariants.{UnknownName}
use Rattle.ras_names.specs.Placed.{Name}
use Rattle.ras_names.specs.Checks.{first_of, used_check, is_among}
use Rattle.ras_scope.specs.declared.fault.SpecError.{SpecError}
use Rattle.ras_scope.specs.declared.fault.SpecError.TheVariants.{Fault}
use Rattle.ras_scope.specs.Answering.{Answers}

pub used_found : (names : List Text) (n : Name) → true ≡ is_among names n.text → first_of (used_check names n ∷ []) ≡ None
used_found names n h = rw (← h) refl

pub used_missing : {A : Type 0} (names : List Text) (n : Name) (r : Result A SpecError) → false ≡ is_among names n.text
    → r ≡ Err (Fault (record { at = n.at; kind = UnknownName })) → Answers (used_check names n ∷ []) r
used_missing names n r h is = rw (is, ← h) refl
