use Rattle.std.proofs.Common.{◌≡◌, get_or, []}
use Rattle.std.specs.Prelude.{slice_get, Some}
use Rattle.ras_logic.specs.declared.function.FunDecl.{FunDecl}
use Rattle.ras_closure.specs.Elements.{number}
use Rattle.ras_enlarge.specs.Numbers.{size_in}
use Rattle.ras_enlarge.proofs.Images.{AreImagesOver}
use Rattle.ras_enlarge.proofs.tables.table_over.Given as goal

abbrev pub invariant-loop-k : goal.invariant-loop-k
invariant-loop-k l = (decl : FunDecl) → slice_get l.table.shape.schema.functions l.function.n ≡ Some decl
    → AreImagesOver l.table l.db (number l.numbers) (size_in l.sizes) l.function decl (get_or l.db.tables l.function.n []) l.k l.images
