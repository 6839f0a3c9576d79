use Rattle.std.proofs.Common.{◌≡◌, ℕ, ◌<◌, true}
use Rattle.std.specs.Prelude.{slice_get, Some}
use Rattle.ras_logic.specs.declared.ids.FunId.{FunId}
use Rattle.ras_logic.specs.declared.function.FunDecl.{FunDecl}
use Rattle.ras_closure.specs.Numbered.{IsImageLink}
use Rattle.ras_split.proofs.splitting.has_total_image.Given as goal

abbrev pub invariant-loop-k : goal.invariant-loop-k
invariant-loop-k l = (k : ℕ) → k < l.k → (f : FunId) (decl : FunDecl) → IsImageLink l.closure.table.links k l.fn.term.n f
    → slice_get l.closure.table.shape.schema.functions f.n ≡ Some decl → decl.total ≡ true → ⊥
