-- The rest of a path.
use Rattle.std.proofs.Common.{◌≡◌, ℕ, suc, ◌+◌, ◌<◌, List, length, get_or, drop, drop-cons, add-one, ap, ◌∙◌, sym}
use Rattle.ras_logic.specs.declared.ids.FunId.{FunId}
use Rattle.ras_logic.specs.declared.raw_db.RawDb.{RawDb}
use Rattle.ras_logic.specs.Databases.{image}
use Rattle.ras_logic.specs.Truth.{image_along}

pub image_along_rest : (d : RawDb) (path : List FunId) (i : ℕ) (f : FunId) (x : ℕ) → i < length path → f ≡ get_or path i f
    → image_along d (drop i path) x ≡ image_along d (drop (i + 1) path) (image d f.n x)
image_along_rest d path i f x lt here = rw (add-one, drop-cons path i f lt) (ap (λ (g : FunId). image_along d (drop (suc i) path) (image d g.n x)) (sym here))
