-- What is assigned: the checks of its parts, behind what is assigned above.
use Rattle.std.specs.Prelude.{◌≡◌, ℕ, not, Bool, false, ◌&&◌, List, [], ◌∷◌, ◌++◌, Option, None, nat_eq}
use Rattle.std.specs.List.{list_any}
use Rattle.ras_syntax.specs.Grammar.{Text}
use Rattle.ras_names.specs.declared.spec_fault.SpecKind.TheVariants.{WrongSort, RepeatedTarget}
use Rattle.ras_names.specs.Placed as placed
use Rattle.ras_names.specs.Checks.{Check, check, first_of}
use Rattle.ras_names.specs.TermChecks.{Scope, agree, term_sort, term_checks}
use Rattle.ras_names.specs.StepChecks.{is_same_target, target_checks, target_sort}
use Rattle.ras_system.specs.declared.update.Target.{Target}
use Rattle.ras_system.specs.declared.update.Target.TheVariants.{Var, Cell}

-- a term that is assigned to what has this sort, by a sign at a place
abbrev pub assigned_checks : Scope → ℕ → Option Text → placed.Term → List Check
assigned_checks seen place wanted t = term_checks seen t ++ check place WrongSort (not (agree wanted (term_sort seen t))) ∷ []

-- an update behind these
abbrev pub update_checks_behind : Scope → List placed.Update → placed.Update → List Check
update_checks_behind seen above u =
    target_checks seen u.name u.column
    ++ check u.name.at RepeatedTarget (list_any (is_same_target u) above)
    ∷ assigned_checks seen u.at (target_sort seen u.name u.column) u.term

-- two targets by their numbers
abbrev pub same_target : Target → Target → Bool
same_target (Var v) (Var w) = nat_eq v.n w.n
same_target (Cell m n) (Cell k l) = nat_eq m k && nat_eq n l
same_target (Var v) (Cell k l) = false
same_target (Cell m n) (Var w) = false

-- the names of the target of an update are known
abbrev pub IsKnownTarget : Scope → placed.Update → Type 0
IsKnownTarget seen u = first_of (target_checks seen u.name u.column) ≡ None
