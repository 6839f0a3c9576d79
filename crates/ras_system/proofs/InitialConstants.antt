-- The checks of the initial constants: a loop over two lists, up to the end of the shorter one, and then their lengths.
use Rattle.std.proofs.Common.{◌≡◌, ℕ, ◌<◌, ◌≤◌, List, [], ◌∷◌, length, get_or, nat_eq, sym, ◌∙◌, arith, eq-eqb}
use Rattle.std.specs.Prelude.{min, not, Option, Some, None}
use Rattle.std.specs.List.{zip}
use Rattle.std.proofs.lemmas.Slice.Zip.{get_or-zip, length-zip}
use Rattle.std.proofs.lemmas.List.{get_or_default}
use Rattle.ras_logic.specs.declared.ids.SortId.{SortId}
use Rattle.ras_logic.specs.declared.ids.ConstId.{ConstId}
use Rattle.ras_logic.specs.Schemas.{SchemaParts}
use Rattle.ras_logic.specs.Shapes.{ShapeParts}
use Rattle.ras_system.specs.declared.system_fault.SystemFault.{SystemFault}
use Rattle.ras_system.specs.declared.system_fault.SystemPlace.TheVariants.{Initial}
use Rattle.ras_system.specs.declared.system_fault.SystemKind.TheVariants.{Range}
use Rattle.ras_system.specs.SystemFaults.{Check, check, first_of, for_each, constant_checks, initial_checks}
use Rattle.ras_system.proofs.FirstFaults.{first_of-append_none, first_of-append_some}
use Rattle.ras_system.proofs.Marks.{differs}

module _ {A B : Type 0} (xs : List A) (ys : List B) (k both : ℕ) where
  pub zip_within : both ≡ min (length xs) (length ys) → k < both → k < length (zip xs ys)
  zip_within is lt = rw (length-zip xs ys) (omega arith)

  pub zip_ended : both ≡ min (length xs) (length ys) → both ≤ k → length (zip xs ys) ≤ k
  zip_ended is le = rw (length-zip xs ys) (omega arith)

  pub zip_item : (d : A) (e : B) → both ≡ min (length xs) (length ys) → k < both
      → (get_or xs k d, get_or ys k e) ≡ get_or (zip xs ys) k (get_or xs k d, get_or ys k e)
  zip_item d e is lt =
      let first : k < length xs = omega arith in
      let second : k < length ys = omega arith in
      sym (get_or-zip xs ys k (get_or xs k d, get_or ys k e) first second
      ∙ rw (get_or_default xs k (get_or xs k d) d first, get_or_default ys k (get_or ys k e) e second))

module _ (shape : ShapeParts) (constants : List (Option ConstId)) where
  of_variables : List Check
  of_variables = for_each (constant_checks shape.schema) (zip shape.vars constants)

  of_lengths : List Check
  of_lengths = check (Initial (min (length shape.vars) (length constants))) Range (not (nat_eq (length shape.vars) (length constants))) ∷ []

  module _ (schema : SchemaParts) (vars : List SortId) (same_schema : schema ≡ shape.schema) (same_vars : vars ≡ shape.vars) where
    pub initial_misfit : (f : SystemFault) → first_of (for_each (constant_checks schema) (zip vars constants)) ≡ Some f → first_of (initial_checks shape constants) ≡ Some f
    unfolding of_variables of_lengths
    initial_misfit f h = first_of-append_some of_variables of_lengths f (rw (same_schema, same_vars) at h)

    pub initial_lengths : first_of (for_each (constant_checks schema) (zip vars constants)) ≡ None → (length vars ≡ length constants → ⊥)
        → first_of (initial_checks shape constants) ≡ Some (record { place = Initial (min (length vars) (length constants)); kind = Range })
    unfolding of_variables of_lengths
    initial_lengths h other =
        first_of-append_none of_variables of_lengths (rw (same_schema, same_vars) at h)
        ∙ rw (← same_vars, differs (length vars) (length constants) other)

    pub initial_fits : first_of (for_each (constant_checks schema) (zip vars constants)) ≡ None → length vars ≡ length constants → first_of (initial_checks shape constants) ≡ None
    unfolding of_variables of_lengths
    initial_fits h same =
        first_of-append_none of_variables of_lengths (rw (same_schema, same_vars) at h)
        ∙ rw (← same_vars, eq-eqb (length vars) (length constants) same)
