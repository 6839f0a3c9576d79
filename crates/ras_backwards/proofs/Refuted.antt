-- A state that meets a premise that its tree closes meets a formula.
use Rattle.std.proofs.Common.{◌≡◌, ℕ, zero, suc, ◌<◌, List, [], ◌∷◌, map, length, get_or, refl, sym, ◌∙◌, ap, subst, slice_get, Some, All}
use Rattle.std.specs.Prelude.{IsTrue}
use Rattle.std.specs.List.{AllByRecursion, AllZip}
use Rattle.std.proofs.lemmas.Option.{slice_get_within}
use Rattle.std.proofs.lemmas.Slice.Zip.{AllZip-long}
use Rattle.std.proofs.lemmas.List.{length-map, get_or-map}
use Rattle.std.proofs.lemmas.List.Elements.{All-from_recursion, recursion_from_All, All-get_or}
use Rattle.ras_logic.specs.declared.ids.SortId.{SortId}
use Rattle.ras_logic.specs.declared.ids.RelId.{RelId}
use Rattle.ras_logic.specs.declared.raw_db.RawDb.{RawDb}
use Rattle.ras_logic.specs.declared.term.Base.{Base}
use Rattle.ras_logic.specs.declared.term.Base.TheVariants.{Var, Cell, Constant, Undef, Param}
use Rattle.ras_logic.specs.declared.problem.Problem.{Problem}
use Rattle.ras_logic.specs.declared.tree.Node.{Node}
use Rattle.ras_logic.specs.Shapes.{ShapeParts, IsRelation, IsShape}
use Rattle.ras_logic.specs.Databases.{IsDatabase}
use Rattle.ras_logic.specs.Terms.{sort_of_base}
use Rattle.ras_logic.specs.Formulas.{LiteralFits, Fits, IsCube, replace}
use Rattle.ras_logic.specs.Truth.{AreElements, AreValues, IsRow, holds, value, value_of_base}
use Rattle.ras_logic.specs.Refutations.{AreRowsOf, chosen_row, Closes, HoldsOfSome}
use Rattle.ras_logic.proofs.Elements.{from_known}
use Rattle.ras_logic.proofs.Closing.{closed-sound}
use Rattle.ras_system.specs.declared.state.State.{State}
use Rattle.ras_system.specs.States.{IsState, AreRows, rows_of, values_at, Meets, MeetsAny}
use Rattle.ras_backwards.proofs.Lists.{in_slice, in_any}
use Rattle.ras_backwards.proofs.ChosenRows.{cells-at, length-cells}
use Rattle.ras_backwards.proofs.Replaced.{hold-after}
use Rattle.ras_backwards.proofs.After.{sort-cell}

zip-at : (rows formula : List RelId) (chosen : List ℕ) → AllZip (λ (r : RelId) (k : ℕ). slice_get rows k ≡ Some r) formula chosen
    → (n : ℕ) (r : RelId) → slice_get formula n ≡ Some r → slice_get rows (get_or chosen n 0) ≡ Some r
zip-at rows [] chosen z n r h = absurd (cc)
zip-at rows (q ∷ formula) [] z n r h = absurd z
zip-at rows (q ∷ formula) (k ∷ chosen) z zero r h = z.0 ∙ h
zip-at rows (q ∷ formula) (k ∷ chosen) z (suc n) r h = zip-at rows formula chosen z.1 n r h

module _ (shape : ShapeParts) (d : RawDb) (s : State) (st : IsState shape d s) where
  pub chosen-values : (rows : List RelId) (sorts : List SortId) (chosen params : List ℕ) → All (IsRelation shape) rows → AreRows s rows chosen → AreElements d sorts params
      → AreValues shape d rows sorts (values_at s rows chosen params)
  chosen-values rows sorts chosen params in_shape are elements = record {
    vars = st.vars;
    as_many_rows = length-cells s rows chosen are.as_many;
    each_row = λ k r known. subst (IsRow shape d r) (sym (cells-at s rows chosen k r are.as_many known))
        (All-get_or (IsRow shape d r) (rows_of s r) (get_or chosen k 0) [] (are.each k r known) (st.rows r (from_known (IsRelation shape) rows in_shape k r known)));
    param_values = elements;
  }

  module _ (rows : List RelId) (chosen params : List ℕ) (are : AreRows s rows chosen) where
    -- the rows of a formula that are chosen among these
    rows-of : List ℕ → List ℕ
    rows-of picked = map (λ (k : ℕ). get_or chosen k 0) picked

    picked-at : (picked : List ℕ) (k : ℕ) → k < length picked → get_or (map (λ (i : ℕ). get_or chosen i 0) picked) k 0 ≡ get_or chosen (get_or picked k 0) 0
    picked-at picked k lt = get_or-map (λ (i : ℕ). get_or chosen i 0) picked k 0 0 lt

    picked-rows : (formula : List RelId) (picked : List ℕ) → AreRowsOf rows formula picked → AreRows s formula (map (λ (k : ℕ). get_or chosen k 0) picked)
    picked-rows formula picked of =
        let long : length picked ≡ length formula = AllZip-long (λ (r : RelId) (k : ℕ). slice_get rows k ≡ Some r) formula picked of.relations in
        let within : (k : ℕ) (r : RelId) → slice_get formula k ≡ Some r → k < length picked = λ k r known. rw long (slice_get_within formula k r known) in
        record {
          as_many = length-map picked (λ (k : ℕ). get_or chosen k 0) ∙ long;
          each = λ k r known. rw (picked-at picked k (within k r known)) (are.each (get_or picked k 0) r (zip-at rows formula picked of.relations k r known));
          different = λ j k r one other same. of.different j k (within j r one) (within k r other)
              (are.different (get_or picked j 0) (get_or picked k 0) r (zip-at rows formula picked of.relations j r one) (zip-at rows formula picked of.relations k r other)
              (sym (picked-at picked j (within j r one)) ∙ same ∙ picked-at picked k (within k r other)));
        }

    picked-base : (formula : List RelId) (picked : List ℕ) → AreRowsOf rows formula picked → (b : Base) (u : SortId) → sort_of_base shape formula [] b ≡ Some u
        → value d (values_at s rows chosen params) (chosen_row picked b) ≡ value_of_base d (values_at s formula (map (λ (k : ℕ). get_or chosen k 0) picked) []) b
    picked-base formula picked of (Var x) u h = refl
    picked-base formula picked of (Cell row column) u h =
        let c = sort-cell shape formula [] row column u h in
        let long : length picked ≡ length formula = AllZip-long (λ (r : RelId) (k : ℕ). slice_get rows k ≡ Some r) formula picked of.relations in
        let lt : row < length picked = rw long (slice_get_within formula row c.relation c.known) in
        let new : List ℕ = map (λ (k : ℕ). get_or chosen k 0) picked in
        ap (λ (l : List ℕ). get_or l column 0)
        (cells-at s rows chosen (get_or picked row 0) c.relation are.as_many (zip-at rows formula picked of.relations row c.relation c.known)
        ∙ ap (λ (k : ℕ). get_or (rows_of s c.relation) k []) (sym (picked-at picked row lt))
        ∙ sym (cells-at s formula new row c.relation (length-map picked (λ (k : ℕ). get_or chosen k 0) ∙ long) c.known))
    picked-base formula picked of (Constant c) u h = refl
    picked-base formula picked of (Undef q) u h = refl
    picked-base formula picked of (Param p) u h = absurd (cc)

    -- a formula that holds of some of these rows is met
    pub holds-meets : (formulas : List Problem) → All (Fits shape) formulas → All IsCube formulas → HoldsOfSome d (values_at s rows chosen params) rows formulas → MeetsAny d s formulas
    holds-meets formulas fit cubes h =
        let f : Problem = h.formula in
        let no_params = (from_known IsCube formulas cubes h.number f h.known).none in
        let fits : AllByRecursion (LiteralFits shape f.rows []) f.literals =
        recursion_from_All (LiteralFits shape f.rows []) f.literals
        (subst (λ (p : List SortId). All (LiteralFits shape f.rows p) f.literals) no_params (from_known (Fits shape) formulas fit h.number f h.known).literals) in
        let new : List ℕ = map (λ (k : ℕ). get_or chosen k 0) h.chosen in
        let v = values_at s rows chosen params in
        let w = values_at s f.rows new [] in
        in_any (Meets d s) formulas f (in_slice formulas h.number f h.known) (
          new,
          [],
          picked-rows f.rows h.chosen h.rows_of,
          record { as_many = sym (ap length no_params); each = λ k u known. absurd (no_sort f no_params k u known) },
          All-from_recursion (λ l. IsTrue (holds d w l)) f.literals
              (hold-after shape f.rows [] d v w (chosen_row h.chosen) (picked-base f.rows h.chosen h.rows_of) f.literals fits
              (recursion_from_All (λ l. IsTrue (holds d v l)) (map (replace (chosen_row h.chosen)) f.literals) h.literals)),
        )
      where
        no_sort : (f : Problem) → f.params ≡ [] → (k : ℕ) (u : SortId) → slice_get f.params k ≡ Some u → ⊥
        no_sort f e k u known = let none : slice_get [] k ≡ Some u = subst (λ (x : List SortId). slice_get x k ≡ Some u) e known in absurd (cc)

-- a state that meets a closed premise meets a formula
pub closed-meets : (shape : ShapeParts) (d : RawDb) (s : State) → IsShape shape → IsDatabase shape.schema d → IsState shape d s → (premise : Problem) (formulas : List Problem) (nodes : List Node)
    → Fits shape premise → All (Fits shape) formulas → All IsCube formulas → Closes shape.schema premise formulas nodes → Meets d s premise → MeetsAny d s formulas
closed-meets shape d s ok db st premise formulas nodes fit formulas_fit cubes closes m =
    holds-meets shape d s st premise.rows m.0 m.1 m.2 formulas formulas_fit cubes
    (closed-sound shape premise formulas nodes ok.schema fit formulas_fit cubes closes d (values_at s premise.rows m.0 m.1) db
    (record { values = chosen-values shape d s st premise.rows premise.params m.0 m.1 fit.rows m.2 m.3; literals = m.4 }))
