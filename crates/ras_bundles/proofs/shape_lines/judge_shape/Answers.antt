use Rattle.std.proofs.Common.{ℕ, List, [], ◌∷◌, ◌++◌, length, refl, sym}
use Rattle.std.specs.Prelude.{Result, Ok, Err}
use Rattle.ras_bundles.specs.declared.system_lines.SystemLines.{SystemLines}
use Rattle.ras_bundles.specs.declared.fault.BundleError.{BundleError}
use Rattle.ras_bundles.specs.Checks.{Check, count_checks, function_checks, constant_checks, variable_checks, each, shape_checks}
use Rattle.ras_bundles.specs.Judging.{Judges}
use Rattle.ras_bundles.proofs.LineLaws.{judges-then, stopped, same_error, counted}
use Rattle.ras_bundles.proofs.shape_lines.judge_shape.Goals as goal

abbrev functions : SystemLines → List (List Check)
functions l = each (function_checks l) l.functions

abbrev function_part : SystemLines → List (List Check)
function_part l = count_checks 256 (length l.functions) ∷ functions l

abbrev variables : SystemLines → List (List Check)
variables l = each (λ _. variable_checks l) l.variables

abbrev variable_part : SystemLines → List (List Check)
variable_part l = count_checks 64 (length l.variables) ∷ variables l

abbrev constant_part : SystemLines → List (List Check)
constant_part l = constant_checks l ∷ variable_part l

abbrev sort_part : SystemLines → List (List Check)
sort_part l = count_checks 64 l.sorts ∷ (function_part l ++ constant_part l)

module _ (l : SystemLines) (n : ℕ) (first : Judges ([] ∷ []) 1 (Ok n)) where
  behind_first : (r : Result ℕ BundleError) → Judges (sort_part l) n r → Judges (shape_checks l) 1 r
  behind_first r h = judges-then ([] ∷ []) (sort_part l) 1 n r first h

  module _ (m : ℕ) (sorts : Judges (count_checks 64 l.sorts ∷ []) n (Ok m)) where
    behind_sorts : (r : Result ℕ BundleError) → Judges (function_part l ++ constant_part l) m r → Judges (shape_checks l) 1 r
    behind_sorts r h = behind_first r (judges-then (count_checks 64 l.sorts ∷ []) (function_part l ++ constant_part l) n m r sorts h)

    module _ (k : ℕ) (count : Judges (count_checks 256 (length l.functions) ∷ []) m (Ok k)) where
      in_functions : (e : BundleError) → Judges (functions l) k (Err e) → Judges (shape_checks l) 1 (Err e)
      in_functions e h = behind_sorts (Err e) (stopped (function_part l) (constant_part l) m e (judges-then (count_checks 256 (length l.functions) ∷ []) (functions l) m k (Err e) count h))

      module _ (i : ℕ) (all : Judges (functions l) k (Ok i)) where
        behind_functions : (r : Result ℕ BundleError) → Judges (constant_part l) i r → Judges (shape_checks l) 1 r
        behind_functions r h =
            behind_sorts r (judges-then (function_part l) (constant_part l) m i r (judges-then (count_checks 256 (length l.functions) ∷ []) (functions l) m k (Ok i) count all) h)

        behind_constants : (j : ℕ) (r : Result ℕ BundleError) → Judges (constant_checks l ∷ []) i (Ok j) → Judges (variable_part l) j r → Judges (shape_checks l) 1 r
        behind_constants j r constants h = behind_functions r (judges-then (constant_checks l ∷ []) (variable_part l) i j r constants h)

pub returns-in_err-next-clause-judges : goal.returns-in_err-next-clause-judges
returns-in_err-next-clause-judges c =
    let l = c.args.lines.now in
    let e = c.in_err-next.field-0.0 in
    same_error (Judges (shape_checks l) 1) e c.from_residual.result (stopped ([] ∷ []) (sort_part l) 1 e (c.in_err-next.ensures.judges [] refl)) c.from_residual.ensures.1

pub returns-in_err-next-2-clause-judges : goal.returns-in_err-next-2-clause-judges
returns-in_err-next-2-clause-judges c =
    let l = c.args.lines.now in
    let e = c.in_err-next-2.field-0.0 in
    same_error (Judges (shape_checks l) 1) e c.from_residual-in_err-next-2.result
    (behind_first l c.in_ok-next.next (c.in_ok-next.ensures.judges [] refl) (Err e)
    (stopped (count_checks 64 l.sorts ∷ []) (function_part l ++ constant_part l) c.in_ok-next.next e (c.in_err-next-2.ensures.judges (count_checks 64 l.sorts) (sym c.count_fault.ensures))))
    c.from_residual-in_err-next-2.ensures.1

pub returns-in_err-next-3-clause-judges : goal.returns-in_err-next-3-clause-judges
returns-in_err-next-3-clause-judges c =
    let l = c.args.lines.now in
    let e = c.in_err-next-3.field-0.0 in
    let count = count_checks 256 (length l.functions) in
    same_error (Judges (shape_checks l) 1) e c.from_residual-in_err-next-3.result
    (behind_sorts l c.in_ok-next.next (c.in_ok-next.ensures.judges [] refl) c.in_ok-next-2.next (c.in_ok-next-2.ensures.judges (count_checks 64 l.sorts) (sym c.count_fault.ensures)) (Err e)
    (stopped (function_part l) (constant_part l) c.in_ok-next-2.next e
    (stopped (count ∷ []) (functions l) c.in_ok-next-2.next e (c.in_err-next-3.ensures.judges count (counted 256 (length l.functions) c.len.result _ c.len.ensures.count c.count_fault-2.ensures)))))
    c.from_residual-in_err-next-3.ensures.1

pub returns-in_err-next-4-clause-judges : goal.returns-in_err-next-4-clause-judges
returns-in_err-next-4-clause-judges c =
    let l = c.args.lines.now in
    let e = c.in_err-next-4.field-0.0 in
    let count = count_checks 256 (length l.functions) in
    same_error (Judges (shape_checks l) 1) e c.from_residual-in_err-next-4.result
    (in_functions l c.in_ok-next.next (c.in_ok-next.ensures.judges [] refl) c.in_ok-next-2.next (c.in_ok-next-2.ensures.judges (count_checks 64 l.sorts) (sym c.count_fault.ensures))
    c.in_ok-next-3.next (c.in_ok-next-3.ensures.judges count (counted 256 (length l.functions) c.len.result _ c.len.ensures.count c.count_fault-2.ensures)) e c.in_err-next-4.ensures.judges)
    c.from_residual-in_err-next-4.ensures.1

pub returns-in_err-next-5-clause-judges : goal.returns-in_err-next-5-clause-judges
returns-in_err-next-5-clause-judges c =
    let l = c.args.lines.now in
    let e = c.in_err-next-5.field-0.0 in
    let count = count_checks 256 (length l.functions) in
    same_error (Judges (shape_checks l) 1) e c.from_residual-in_err-next-5.result
    (behind_functions l c.in_ok-next.next (c.in_ok-next.ensures.judges [] refl) c.in_ok-next-2.next (c.in_ok-next-2.ensures.judges (count_checks 64 l.sorts) (sym c.count_fault.ensures))
    c.in_ok-next-3.next (c.in_ok-next-3.ensures.judges count (counted 256 (length l.functions) c.len.result _ c.len.ensures.count c.count_fault-2.ensures)) c.in_ok-next-4.next c.in_ok-next-4.ensures.judges (Err e)
    (stopped (constant_checks l ∷ []) (variable_part l) c.in_ok-next-4.next e (c.in_err-next-5.ensures.judges (constant_checks l) (sym c.constant_fault.ensures))))
    c.from_residual-in_err-next-5.ensures.1

pub returns-in_err-next-6-clause-judges : goal.returns-in_err-next-6-clause-judges
returns-in_err-next-6-clause-judges c =
    let l = c.args.lines.now in
    let e = c.in_err-next-6.field-0.0 in
    let count = count_checks 256 (length l.functions) in
    let vars = count_checks 64 (length l.variables) in
    same_error (Judges (shape_checks l) 1) e c.from_residual-in_err-next-6.result
    (behind_constants l c.in_ok-next.next (c.in_ok-next.ensures.judges [] refl) c.in_ok-next-2.next (c.in_ok-next-2.ensures.judges (count_checks 64 l.sorts) (sym c.count_fault.ensures))
    c.in_ok-next-3.next (c.in_ok-next-3.ensures.judges count (counted 256 (length l.functions) c.len.result _ c.len.ensures.count c.count_fault-2.ensures)) c.in_ok-next-4.next c.in_ok-next-4.ensures.judges c.in_ok-next-5.next (Err e)
    (c.in_ok-next-5.ensures.judges (constant_checks l) (sym c.constant_fault.ensures))
    (stopped (vars ∷ []) (variables l) c.in_ok-next-5.next e (c.in_err-next-6.ensures.judges vars (counted 64 (length l.variables) c.len-2.result _ c.len-2.ensures.count c.count_fault-3.ensures))))
    c.from_residual-in_err-next-6.ensures.1

pub returns-clause-judges : goal.returns-clause-judges
returns-clause-judges c =
    let l = c.args.lines.now in
    let r = c.variable_lines.result in
    let count = count_checks 256 (length l.functions) in
    let vars = count_checks 64 (length l.variables) in
    behind_constants l c.in_ok-next.next (c.in_ok-next.ensures.judges [] refl) c.in_ok-next-2.next (c.in_ok-next-2.ensures.judges (count_checks 64 l.sorts) (sym c.count_fault.ensures))
    c.in_ok-next-3.next (c.in_ok-next-3.ensures.judges count (counted 256 (length l.functions) c.len.result _ c.len.ensures.count c.count_fault-2.ensures)) c.in_ok-next-4.next c.in_ok-next-4.ensures.judges c.in_ok-next-5.next r
    (c.in_ok-next-5.ensures.judges (constant_checks l) (sym c.constant_fault.ensures))
    (judges-then (vars ∷ []) (variables l) c.in_ok-next-5.next c.in_ok-next-6.next r (c.in_ok-next-6.ensures.judges vars (counted 64 (length l.variables) c.len-2.result _ c.len-2.ensures.count c.count_fault-3.ensures))
    c.variable_lines.ensures.judges)
