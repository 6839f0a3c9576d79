-- Opposites of the literals of an instance fit the premise.
use Rattle.std.proofs.Common.{◌≡◌, ℕ, ◌<◌, ◌≤◌, List, [], ◌∷◌, ◌++◌, length, get_or, sym, ◌∙◌, subst, arith, ◌⊎◌, inl, inr, length-append}
use Rattle.std.specs.Prelude.{slice_get, Some, All}
use Rattle.std.proofs.lemmas.List.{get_or_append_left, get_or_push, length-map}
use Rattle.std.proofs.lemmas.List.Elements.{All-map, All-weaker}
use Rattle.std.proofs.lemmas.Option.{same_Some}
use Rattle.ras_logic.specs.declared.ids.SortId.{SortId}
use Rattle.ras_logic.specs.declared.literal.Literal.{Literal}
use Rattle.ras_logic.specs.declared.problem.Problem.{Problem}
use Rattle.ras_logic.specs.Shapes.{ShapeParts}
use Rattle.ras_logic.specs.Formulas.{LiteralFits, Fits, IsCube, negated, replace}
use Rattle.ras_logic.specs.Refutations.{AreRowsOf, chosen_row}
use Rattle.ras_logic.proofs.Elements.{from_known}
use Rattle.ras_logic.proofs.Closing.{replaced-fits}
use Rattle.ras_sat.specs.declared.instance.Instance.{Instance}
use Rattle.ras_sat.specs.Instances.{IsInstance}
use Rattle.ras_sat.specs.Tasks.{AreOpposites, AreFirstOpposites, opposites_of_literals}

-- the opposites of an instance's literals
pub opposites-are : (shape : ShapeParts) (premise : Problem) (formulas : List Problem) → All (Fits shape) formulas → (i : Instance) → IsInstance premise.rows formulas i
    → (f : Problem) → slice_get formulas i.formula ≡ Some f → IsCube f → length f.literals ≤ 4294967295 → (opposites : List Literal) → opposites ≡ opposites_of_literals i.rows f.literals → AreOpposites shape premise formulas i opposites
opposites-are shape premise formulas fit i instance f known cube few opposites is =
    let same : instance.formula ≡ f = same_Some instance.formula f (sym instance.known ∙ known) in
    let rows_of : AreRowsOf premise.rows f.rows i.rows = subst (λ (g : Problem). AreRowsOf premise.rows g.rows i.rows) same instance.rows_of in
    let literals : All (LiteralFits shape f.rows []) f.literals = subst (λ (q : List SortId). All (LiteralFits shape f.rows q) f.literals) cube.none (from_known (Fits shape) formulas fit i.formula f known).literals in
    record {
      formula = f;
      known = known;
      rows_of = rows_of;
      opposites_are = is;
      fit = subst (All (LiteralFits shape premise.rows premise.params)) (sym is)
          (All-map (LiteralFits shape premise.rows premise.params) (λ (l : Literal). negated (replace (chosen_row i.rows) l)) f.literals
          (All-weaker (LiteralFits shape f.rows []) (λ (l : Literal). LiteralFits shape premise.rows premise.params (negated (replace (chosen_row i.rows) l)))
          (replaced-fits shape premise.rows f.rows premise.params i.rows rows_of) f.literals literals));
      few = rw (is, length-map f.literals (λ (l : Literal). negated (replace (chosen_row i.rows) l))) few;
    }

-- one instance more
pub opposites-more : (shape : ShapeParts) (premise : Problem) (formulas : List Problem) (instances : List Instance) (all : List (List Literal)) (opposites : List Literal) (i : Instance)
    → AreFirstOpposites shape premise formulas instances all → slice_get instances (length all) ≡ Some i → AreOpposites shape premise formulas i opposites
    → AreFirstOpposites shape premise formulas instances (all ++ opposites ∷ [])
opposites-more shape premise formulas instances all opposites i first at here = record {
  each = λ k j lt known. go k j known (below_or k lt);
}
  where
    below_or : (k : ℕ) → k < length (all ++ opposites ∷ []) → (k < length all) ⊎ (k ≡ length all)
    below_or k lt = grind (arith, length-append {A = List Literal})

    go : (k : ℕ) (j : Instance) → slice_get instances k ≡ Some j → (k < length all) ⊎ (k ≡ length all) → AreOpposites shape premise formulas j (get_or (all ++ opposites ∷ []) k [])
    go k j known (inl lt) = rw (get_or_append_left all (opposites ∷ []) [] k lt) (first.each k j lt known)
    go k j known (inr e) =
        let same : i ≡ j = same_Some i j (sym at ∙ subst (λ (n : ℕ). slice_get instances n ≡ Some j) e known) in
        rw (get_or_push all opposites [] k (sym e)) (subst (λ (q : Instance). AreOpposites shape premise formulas q opposites) same here)
