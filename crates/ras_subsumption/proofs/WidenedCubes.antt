-- A cube that is widened by trivial literals: it holds where the cube does, and has the other cube's terms.
use Rattle.std.proofs.Common.{◌≡◌, ℕ, ◌<◌, List, [], ◌++◌, length, get_or, refl, sym, subst, ◌⊎◌, inl, inr}
use Rattle.std.specs.Prelude.{slice_get, Some, option_and_then, All, Contains, IsTrue}
use Rattle.std.proofs.lemmas.Bool.{eq-eqb}
use Rattle.std.proofs.lemmas.List.Elements.{All-nil, All-append, All-weaker, All-contains, Contains-append_left, Contains-append_right, Contains-get_or}
use Rattle.std.proofs.lemmas.Option.{slice_get_within}
use Rattle.ras_logic.specs.declared.ids.FunId.{FunId}
use Rattle.ras_logic.specs.declared.ids.SortId.{SortId}
use Rattle.ras_logic.specs.declared.ids.RelId.{RelId}
use Rattle.ras_logic.specs.declared.raw_db.RawDb.{RawDb}
use Rattle.ras_logic.specs.declared.values.Values.{Values}
use Rattle.ras_logic.specs.declared.term.Base.{Base}
use Rattle.ras_logic.specs.declared.term.Base.TheVariants.{Var, Cell, Constant, Undef, Param}
use Rattle.ras_logic.specs.declared.term.Term.{Term}
use Rattle.ras_logic.specs.declared.literal.Literal.{Literal}
use Rattle.ras_logic.specs.declared.literal.Literal.TheVariants.{Equal}
use Rattle.ras_logic.specs.declared.problem.Problem.{Problem}
use Rattle.ras_logic.specs.Schemas.{IsSort, IsSchema}
use Rattle.ras_logic.specs.Shapes.{ShapeParts}
use Rattle.ras_logic.specs.Terms.{sort_of, sort_of_base, sort_along, replace_term}
use Rattle.ras_logic.specs.Formulas.{LiteralFits, Fits, IsCube, replace}
use Rattle.ras_logic.specs.Truth.{AreValues, Satisfies, value, holds}
use Rattle.ras_logic.specs.Clashes.{IsTerm, FactsClash}
use Rattle.ras_logic.specs.Refutations.{AreRowsOf, chosen_row}
use Rattle.ras_logic.proofs.Elements.{at-contains}
use Rattle.ras_logic.proofs.Clashes.{clash-none}
use Rattle.ras_logic.proofs.TermSorts.{and_then_through}
use Rattle.ras_logic.proofs.Closing.{replaced-fits}
use Rattle.ras_closure.specs.Closings.{IsOfTable}
use Rattle.ras_closure.specs.Numbered.{TableParts}
use Rattle.ras_closure.proofs.Sides.{literal-known}
use Rattle.ras_subsumption.specs.Subsumption.{HoldsWherever, AllHoldUnder, EntailsBy}
use Rattle.ras_subsumption.specs.Widened.{over_row, itself, IsTrivial, HasOverRows, HasSidesOver, IsWidened}

trivial-holds : (shape : ShapeParts) (rows : List RelId) (d : RawDb) (v : Values) (l : Literal) → IsTrivial shape rows l → IsTrue (holds d v l)
trivial-holds shape rows d v l t = subst (λ (m : Literal). IsTrue (holds d v m)) (sym t.says) (eq-eqb (value d v t.term) (value d v t.term) refl)

module _ (shape : ShapeParts) (cube other p : Problem) (fits : Fits shape cube) (is_cube : IsCube cube) (w : IsWidened shape cube other p) where
  pub widened-fits : Fits shape p
  widened-fits = record {
    rows = rw w.rows_are fits.rows;
    params = rw w.none (All-nil (IsSort shape.schema.sorts));
    literals = rw (w.rows_are, w.none, w.literals_are)
        (All-append (LiteralFits shape cube.rows []) cube.literals w.more (subst (λ (params : List SortId). All (LiteralFits shape cube.rows params) cube.literals) is_cube.none fits.literals)
        (All-weaker (IsTrivial shape cube.rows) (LiteralFits shape cube.rows []) (λ l t. t.fits) w.more w.trivial));
  }

  -- what satisfies the cube satisfies the widened one, and the other way round
  satisfies-widened : (d : RawDb) (v : Values) → Satisfies shape d v cube → Satisfies shape d v p
  satisfies-widened d v sat = record {
    values = rw (w.rows_are, w.none) (subst (λ (params : List SortId). AreValues shape d cube.rows params v) is_cube.none sat.values);
    literals = rw w.literals_are
        (All-append (λ (l : Literal). IsTrue (holds d v l)) cube.literals w.more sat.literals
        (All-weaker (IsTrivial shape cube.rows) (λ (l : Literal). IsTrue (holds d v l)) (λ l t. trivial-holds shape cube.rows d v l t) w.more w.trivial));
  }

  satisfies-cube : (d : RawDb) (v : Values) → Satisfies shape d v p → Satisfies shape d v cube
  satisfies-cube d v sat = record {
    values = rw (← w.rows_are, is_cube.none, ← w.none) sat.values;
    literals = λ k l lt.
        All-contains (λ (m : Literal). IsTrue (holds d v m)) (cube.literals ++ w.more) (get_or cube.literals k l)
        (subst (All (λ (m : Literal). IsTrue (holds d v m))) w.literals_are sat.literals)
        (Contains-append_left cube.literals w.more (get_or cube.literals k l) (Contains-get_or cube.literals k l lt));
  }

  pub entails-from : (map : List ℕ) → AreRowsOf cube.rows other.rows map → AllHoldUnder shape p map other.literals → EntailsBy shape cube other map
  entails-from map of all = record {
    rows_of = of;
    literals = All-weaker (λ (l : Literal). HoldsWherever shape p (replace (chosen_row map) l)) (λ (l : Literal). HoldsWherever shape cube (replace (chosen_row map) l))
        (λ l h d v db sat. h d v db (satisfies-widened d v sat)) other.literals all;
  }

  pub entails-to : (map : List ℕ) → EntailsBy shape cube other map → AllHoldUnder shape p map other.literals
  entails-to map by = All-weaker (λ (l : Literal). HoldsWherever shape cube (replace (chosen_row map) l)) (λ (l : Literal). HoldsWherever shape p (replace (chosen_row map) l))
      (λ l h d v db sat. h d v db (satisfies-cube d v sat)) other.literals by.literals

  -- where the literals of the widened cube clash, the other one holds under each map
  pub entails-empty : IsSchema shape.schema → FactsClash shape.schema p.literals → (map : List ℕ) → AreRowsOf cube.rows other.rows map → EntailsBy shape cube other map
  entails-empty ok clash map of = record {
    rows_of = of;
    literals = λ k l lt d v db sat.
        let all = satisfies-widened d v sat in
        absurd (clash-none shape d db p.rows p.params v all.values ok p.literals widened-fits.literals all.literals clash);
  }

  module _ (map : List ℕ) (of : AreRowsOf cube.rows other.rows map) where
    -- the row over which a term stands under the map
    record IsOver (t : Term) : Type 0 where
      row : ℕ
      which : (row ≡ 0) ⊎ (row < length cube.rows)
      same : replace_term (chosen_row map) t ≡ over_row row t

    over : (t : Term) (s : SortId) → sort_of shape cube.rows [] (replace_term (chosen_row map) t) ≡ Some s → IsOver t
    over t s h = go t.base t.path h
      where
        go : (b : Base) (path : List FunId) → sort_of shape cube.rows [] (replace_term (chosen_row map) (record { base = b; path = path })) ≡ Some s → IsOver (record { base = b; path = path })
        go (Var x) path h = record { row = 0; which = inl refl; same = refl }
        go (Cell row column) path h =
            let k : ℕ = get_or map row 0 in
            let base = and_then_through (sort_along shape.schema path) (sort_of_base shape cube.rows [] (Cell k column)) s h in
            let relation = and_then_through (λ (r : RelId). option_and_then (λ (columns : List SortId). slice_get columns column) (slice_get shape.relations r.n)) (slice_get cube.rows k) base.mid base.first in
            record { row = k; which = inr (slice_get_within cube.rows k relation.mid relation.first); same = refl }
        go (Constant c) path h = record { row = 0; which = inl refl; same = refl }
        go (Undef u) path h = record { row = 0; which = inl refl; same = refl }
        go (Param n) path h = record { row = 0; which = inl refl; same = refl }

    -- a side of the other cube's literals under the map is a term of the widened one
    side-term : (t : Term) (s : SortId) → HasOverRows shape cube.rows w.more t → sort_of shape cube.rows [] (replace_term (chosen_row map) t) ≡ Some s
        → IsTerm shape.schema p.literals (replace_term (chosen_row map) t)
    side-term t s has sorted =
        let o = over t s sorted in
        let u : Term = replace_term (chosen_row map) t in
        let inside : Contains w.more (itself u) = subst (λ (x : Term). Contains w.more (itself x)) (sym o.same) (has o.row o.which s (subst (λ (x : Term). sort_of shape cube.rows [] x ≡ Some s) o.same sorted)) in
        let among : Contains p.literals (itself u) = rw w.literals_are (Contains-append_right cube.literals w.more (itself u) inside) in
        let at = at-contains p.literals (itself u) among in
        (literal-known shape p.rows p.params p.literals widened-fits.literals at.0 (itself u) at.2).0

    literal-term : (c : TableParts) → c.shape ≡ shape → c.problem ≡ p → (l : Literal) → LiteralFits shape other.rows [] l → HasSidesOver shape cube.rows w.more l
        → IsOfTable c (replace (chosen_row map) l)
    literal-term c shape_is problem_is (Equal a b same) fit has =
        let f = replaced-fits shape cube.rows other.rows [] map of (Equal a b same) fit in
        record {
          left = rw (shape_is, problem_is) (side-term a f.0 has.left f.1);
          right = rw (shape_is, problem_is) (side-term b f.0 has.right f.2);
          fits = rw (shape_is, problem_is, w.rows_are, w.none) f;
        }

    pub literals-known : (c : TableParts) → c.shape ≡ shape → c.problem ≡ p → Fits shape other → IsCube other → All (λ (l : Literal). IsOfTable c (replace (chosen_row map) l)) other.literals
    literals-known c shape_is problem_is other_fits other_cube k l lt =
        literal-term c shape_is problem_is (get_or other.literals k l) (rw (← other_cube.none) (other_fits.literals k l lt)) (w.sides k l lt)
