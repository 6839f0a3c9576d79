-- What satisfies a cube in a larger database satisfies it in the smaller, under values of the smaller.
use Rattle.std.proofs.Common.{◌≡◌, ℕ, Bool, true, false, List, [], refl, sym, ◌∙◌, ap, subst}
use Rattle.std.specs.Prelude.{slice_get, Some, Any, IsTrue, ◌↔◌, get_or}
use Rattle.std.proofs.lemmas.Option.{slice_get-get_or}
use Rattle.ras_logic.specs.declared.ids.RelId.{RelId}
use Rattle.ras_logic.specs.declared.ids.SortId.{SortId}
use Rattle.ras_logic.specs.declared.raw_db.RawDb.{RawDb}
use Rattle.ras_logic.specs.declared.values.Values.{Values}
use Rattle.ras_logic.specs.declared.problem.Problem.{Problem}
use Rattle.ras_logic.specs.declared.term.Base.{Base}
use Rattle.ras_logic.specs.declared.term.Base.TheVariants.{Var, Cell, Constant, Undef, Param}
use Rattle.ras_logic.specs.declared.term.Term.{Term}
use Rattle.ras_logic.specs.declared.literal.Literal.{Literal}
use Rattle.ras_logic.specs.declared.literal.Literal.TheVariants.{Equal}
use Rattle.ras_logic.specs.Shapes.{ShapeParts}
use Rattle.ras_logic.specs.Databases.{IsDatabase, Extends}
use Rattle.ras_logic.specs.Formulas.{Fits, IsNoParam, HasNoParam, IsCube}
use Rattle.ras_logic.specs.Truth.{AreValues, value_of_base, image_along, value, holds, AllHold, Satisfies}
use Rattle.ras_logic.proofs.Clashes.{from_known}
use Rattle.ras_extension.proofs.Truth.{to-smaller}
use Rattle.ras_cover.specs.Covers.{with_params, bare, SatisfiesAny, AreCubesOf, HasExtension, AreExtendable, AreStrongest, IsCover}

-- the value of a term without a data parameter does not speak of their values
value-bare : (d : RawDb) (v : Values) (params : List ℕ) (t : Term) → IsNoParam t.base → value d (with_params v params) t ≡ value d v t
value-bare d v params t free = ap (image_along d t.path) (base t.base free)
  where
    base : (b : Base) → IsNoParam b → value_of_base d (with_params v params) b ≡ value_of_base d v b
    base (Var x) free = refl
    base (Cell row column) free = refl
    base (Constant c) free = refl
    base (Undef s) free = refl
    base (Param p) free = absurd free

pub holds-bare : (d : RawDb) (v : Values) (params : List ℕ) (l : Literal) → HasNoParam l → holds d (with_params v params) l ≡ holds d v l
holds-bare d v params (Equal left right true) free = rw (value-bare d v params left free.0, value-bare d v params right free.1)
holds-bare d v params (Equal left right false) free = rw (value-bare d v params left free.0, value-bare d v params right free.1)

-- the literals of a cube that hold under some values of data parameters hold under others
pub literals-bare : (d : RawDb) (v : Values) (params : List ℕ) (p : Problem) → IsCube p → AllHold d (with_params v params) p.literals → AllHold d v p.literals
literals-bare d v params p cube hold k l lt = subst (λ (b : Bool). IsTrue b) (holds-bare d v params (get_or p.literals k l) (cube.unnamed k l lt)) (hold k l lt)

pub number-of : {X : Type 0} (P : X → Type 0) (xs : List X) (a : Any P xs) → slice_get xs a.0 ≡ Some a.1
number-of P xs a = slice_get-get_or xs a.0 a.1 a.2 ∙ ap Some a.3

-- a cube of the list that is satisfied in a larger database is satisfied in this one, under values of this one
satisfied-smaller : (shape : ShapeParts) (p : Problem) (cubes : List Problem) → AreCubesOf shape p cubes → (larger d : RawDb) (v : Values) → IsDatabase shape.schema d → Extends larger d
    → AreValues shape d p.rows [] v → SatisfiesAny shape larger (bare v) cubes → SatisfiesAny shape d v cubes
satisfied-smaller shape p cubes of larger d v db extends values found =
    let known = number-of (Satisfies shape larger (bare v)) cubes found in
    let is_cube = from_known IsCube cubes of.are_cubes found.0 found.1 known in
    let rows = from_known (λ (c : Problem). c.rows ≡ p.rows) cubes of.rows found.0 found.1 known in
    let fits = from_known (Fits shape) cubes of.fit found.0 found.1 known in
    let here : AreValues shape d found.1.rows found.1.params v =
    subst (λ (q : List SortId). AreValues shape d found.1.rows q v) (sym is_cube.none) (subst (λ (r : List RelId). AreValues shape d r [] v) (sym rows) values) in (
      found.0,
      found.1,
      found.2,
      found.3,
      record {
        values = here;
        literals = to-smaller shape larger d db extends found.1.rows found.1.params v here found.1.literals fits.literals (literals-bare larger v [] found.1 is_cube found.4.literals);
      },
    )

pub extendable-strongest : (shape : ShapeParts) (p : Problem) (cubes : List Problem) → AreCubesOf shape p cubes → AreExtendable shape p cubes → AreStrongest shape p cubes
extendable-strongest shape p cubes of extendable others others_of implied d v db some =
    let known = number-of (Satisfies shape d v) cubes some in
    let is_cube = from_known IsCube cubes of.are_cubes some.0 some.1 known in
    let rows = from_known (λ (c : Problem). c.rows ≡ p.rows) cubes of.rows some.0 some.1 known in
    let values : AreValues shape d p.rows [] v =
    subst (λ (r : List RelId). AreValues shape d r [] v) rows (subst (λ (q : List SortId). AreValues shape d some.1.rows q v) is_cube.none some.4.values) in
    let x = extendable d v db some in
    satisfied-smaller shape p others others_of x.larger d v db x.extends values (implied x.larger (with_params v x.params) x.database x.satisfied)

pub cover-extended : (shape : ShapeParts) (p : Problem) (cubes : List Problem) → IsCover shape p cubes → (d : RawDb) (v : Values) → IsDatabase shape.schema d → AreValues shape d p.rows [] (bare v)
    → SatisfiesAny shape d (bare v) cubes ↔ HasExtension shape p d v
cover-extended shape p cubes cover d v db values = (
  λ some. let x = cover.extendable d (bare v) db some in record { larger = x.larger; params = x.params; database = x.database; extends = x.extends; satisfied = x.satisfied },
  λ x. satisfied-smaller shape p cubes cover.cubes_of x.larger d (bare v) db x.extends values (cover.implied x.larger (with_params v x.params) x.database x.satisfied),
)
