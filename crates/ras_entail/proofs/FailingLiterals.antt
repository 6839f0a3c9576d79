-- Literals that name no row, and instances that fail or hold.
use Rattle.std.proofs.Common.{◌≡◌, ℕ, true, false, List, [], ◌∷◌, refl, sym, ◌∙◌, subst}
use Rattle.std.specs.Prelude.{slice_get, Some, Contains}
use Rattle.std.proofs.lemmas.List.Elements.{All-nil, All-cons, All-head, All-contains}
use Rattle.std.proofs.lemmas.Option.{same_Some}
use Rattle.ras_logic.specs.declared.ids.SortId.{SortId}
use Rattle.ras_logic.specs.declared.ids.FunId.{FunId}
use Rattle.ras_logic.specs.declared.ids.RelId.{RelId}
use Rattle.ras_logic.specs.declared.raw_db.RawDb.{RawDb}
use Rattle.ras_logic.specs.declared.values.Values.{Values}
use Rattle.ras_logic.specs.declared.term.Base.{Base}
use Rattle.ras_logic.specs.declared.term.Base.TheVariants.{Var, Cell, Constant, Undef, Param}
use Rattle.ras_logic.specs.declared.term.Term.{Term}
use Rattle.ras_logic.specs.declared.literal.Literal.{Literal}
use Rattle.ras_logic.specs.declared.literal.Literal.TheVariants.{Equal}
use Rattle.ras_logic.specs.declared.problem.Problem.{Problem}
use Rattle.ras_logic.specs.Shapes.{ShapeParts}
use Rattle.ras_logic.specs.Databases.{IsDatabase}
use Rattle.ras_logic.specs.Terms.{sort_of, replace_term}
use Rattle.ras_logic.specs.Formulas.{LiteralFits, replace}
use Rattle.ras_logic.specs.Truth.{Satisfies, holds}
use Rattle.ras_logic.specs.Refutations.{AreRowsOf, chosen_row}
use Rattle.ras_logic.proofs.Closing.{replaced-fits}
use Rattle.ras_sat.specs.declared.instance.Instance.{Instance}
use Rattle.ras_sat.specs.Instances.{IsInstance, IsFalsified}
use Rattle.ras_known.specs.Knowledge.{IsTruth}
use Rattle.ras_entail.specs.Judgements.{IsNoCell, NamesNoRow, HasFailing}
use Rattle.ras_entail.specs.Scans.{FailsUnder, instance, IsHeldIn, AreEnough}

no_row-term : (rows : List ℕ) (t : Term) → IsNoCell t.base → replace_term (chosen_row rows) t ≡ t
no_row-term rows t h = go t.base t.path h
  where
    go : (b : Base) (path : List FunId) → IsNoCell b → replace_term (chosen_row rows) (record { base = b; path = path }) ≡ record { base = b; path = path }
    go (Var x) path h = refl
    go (Cell row column) path h = absurd h
    go (Constant c) path h = refl
    go (Undef s) path h = refl
    go (Param p) path h = refl

-- a literal that names no row is the same under all rows
pub no_row-replaced : (rows : List ℕ) (l : Literal) → NamesNoRow l → replace (chosen_row rows) l ≡ l
no_row-replaced rows (Equal left right same) h = rw (no_row-term rows left h.0, no_row-term rows right h.1) refl

-- where it fits over some rows and no data parameters, it fits over any
module _ (shape : ShapeParts) (own rows : List RelId) (params : List SortId) where
  no_row-sort : (t : Term) (s : SortId) → IsNoCell t.base → sort_of shape own [] t ≡ Some s → sort_of shape rows params t ≡ Some s
  no_row-sort t s h known = go t.base t.path h known
    where
      go : (b : Base) (path : List FunId) → IsNoCell b → sort_of shape own [] (record { base = b; path = path }) ≡ Some s → sort_of shape rows params (record { base = b; path = path }) ≡ Some s
      go (Var x) path h known = known
      go (Cell row column) path h known = absurd h
      go (Constant c) path h known = known
      go (Undef u) path h known = known
      go (Param p) path h known = absurd (cc)

  pub no_row-fits : (l : Literal) → NamesNoRow l → LiteralFits shape own [] l → LiteralFits shape rows params l
  no_row-fits (Equal left right same) h f = (f.0, no_row-sort left f.0 h.0 f.1, no_row-sort right f.0 h.1 f.2)

-- a literal of a formula under chosen rows fits the premise
pub under-fits : (shape : ShapeParts) (rows own : List RelId) (params : List SortId) (chosen : List ℕ) → AreRowsOf rows own chosen → (l : Literal) → LiteralFits shape own [] l
    → LiteralFits shape rows params (replace (chosen_row chosen) l)
under-fits shape rows own params chosen of (Equal left right same) f = replaced-fits shape rows own params chosen of (Equal left right same) f

module _ (shape : ShapeParts) (premise : Problem) (list : List Problem) where
  -- an instance with a literal that fails wherever the premise holds is falsified there
  pub fails-falsified : (cube : Problem) (number : ℕ) (rows : List ℕ) → slice_get list number ≡ Some cube → FailsUnder shape premise cube rows
      → (d : RawDb) (v : Values) → IsDatabase shape.schema d → Satisfies shape d v premise → IsFalsified d v list (instance number rows)
  fails-falsified cube number rows known fails d v db sat = record { formula = cube; known = known; literal = fails.0; among = fails.1; fails = fails.2 d v db sat }

  -- a literal that names no row fails under all rows
  pub alone-fails : (cube : Problem) → HasFailing shape premise cube → (rows : List ℕ) → FailsUnder shape premise cube rows
  alone-fails cube fails rows =
      (fails.literal, fails.among, subst (λ (l : Literal). IsTruth shape premise l false) (sym (no_row-replaced rows fails.literal fails.no_row)) fails.fails)

  -- an instance of which all literals hold wherever the premise does is enough
  pub held-enough : (i : Instance) → IsHeldIn shape premise list i → AreEnough shape premise list (i ∷ [])
  held-enough i (cube, known, held) = record {
    each = All-cons (IsInstance premise.rows list) i [] (record { formula = cube; known = known; rows_of = held.rows_of }) (All-nil (IsInstance premise.rows list));
    every = λ d v db sat falsified other of. absurd (never d v db sat (All-head (IsFalsified d v list) i [] falsified));
  }
    where
      never : (d : RawDb) (v : Values) → IsDatabase shape.schema d → Satisfies shape d v premise → ¬ IsFalsified d v list i
      never d v db sat f =
          let same : f.formula ≡ cube = same_Some f.formula cube (sym f.known ∙ known) in
          let among : Contains cube.literals f.literal = subst (λ (p : Problem). Contains p.literals f.literal) same f.among in
          let yes : holds d v (replace (chosen_row i.rows) f.literal) ≡ true =
          All-contains (λ (l : Literal). IsTruth shape premise (replace (chosen_row i.rows) l) true) cube.literals f.literal held.holds among d v db sat in
          let no : holds d v (replace (chosen_row i.rows) f.literal) ≡ false = f.fails in
          let both : true ≡ false = sym yes ∙ no in absurd (cc)
