-- Values of the rows of a cube, and values of the rows that are chosen for them.
use Rattle.std.proofs.Common.{◌≡◌, ℕ, true, false, List, [], get_or, refl, sym, ◌∙◌, ap}
use Rattle.std.specs.Prelude.{slice_get, Some, option_and_then}
use Rattle.ras_logic.specs.declared.ids.SortId.{SortId}
use Rattle.ras_logic.specs.declared.ids.RelId.{RelId}
use Rattle.ras_logic.specs.declared.raw_db.RawDb.{RawDb}
use Rattle.ras_logic.specs.declared.values.Values.{Values}
use Rattle.ras_logic.specs.declared.term.Base.{Base}
use Rattle.ras_logic.specs.declared.term.Base.TheVariants.{Var, Cell, Constant, Undef, Param}
use Rattle.ras_logic.specs.declared.term.Term.{Term}
use Rattle.ras_logic.specs.declared.literal.Literal.{Literal}
use Rattle.ras_logic.specs.declared.literal.Literal.TheVariants.{Equal}
use Rattle.ras_logic.specs.Shapes.{ShapeParts}
use Rattle.ras_logic.specs.Terms.{sort_of_base, sort_along, replace_term, sort_of}
use Rattle.ras_logic.specs.Formulas.{LiteralFits, replace}
use Rattle.ras_logic.specs.Truth.{value_of_base, value, holds, image_along}
use Rattle.ras_logic.specs.Refutations.{chosen_row}
use Rattle.ras_logic.proofs.TermSorts.{and_then_through}
use Rattle.ras_logic.proofs.Closing.{replaced-value}

module _ (shape : ShapeParts) (d : RawDb) (rows : List RelId) (chosen : List ℕ) (own of : Values) (vars : own.vars ≡ of.vars)
    (cells : (k : ℕ) (r : RelId) → slice_get rows k ≡ Some r → get_or own.rows k [] ≡ get_or of.rows (get_or chosen k 0) []) where
  base-same : (b : Base) (s : SortId) → sort_of_base shape rows [] b ≡ Some s → value d of (chosen_row chosen b) ≡ value_of_base d own b
  base-same (Var x) s h = ap (λ (xs : List ℕ). get_or xs x.n 0) (sym vars)
  base-same (Cell row column) s h =
      let t = and_then_through (λ (r : RelId). option_and_then (λ (columns : List SortId). slice_get columns column) (slice_get shape.relations r.n)) (slice_get rows row) s h in
      ap (λ (xs : List ℕ). get_or xs column 0) (sym (cells row t.mid t.first))
  base-same (Constant c) s h = refl
  base-same (Undef u) s h = refl
  base-same (Param p) s h = absurd (cc)

  term-same : (t : Term) (s : SortId) → sort_of shape rows [] t ≡ Some s → value d of (replace_term (chosen_row chosen) t) ≡ value d own t
  term-same t s h =
      let u = and_then_through (sort_along shape.schema t.path) (sort_of_base shape rows [] t.base) s h in
      replaced-value d of (chosen_row chosen) t ∙ ap (image_along d t.path) (base-same t.base u.mid u.first)

  -- a literal holds of the chosen rows where it holds of the cube's own
  pub holds-same : (l : Literal) → LiteralFits shape rows [] l → holds d of (replace (chosen_row chosen) l) ≡ holds d own l
  holds-same (Equal left right true) f = rw (term-same left f.0 f.1, term-same right f.0 f.2) refl
  holds-same (Equal left right false) f = rw (term-same left f.0 f.1, term-same right f.0 f.2) refl
