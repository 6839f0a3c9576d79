-- A cube is added to others of the same rows, unless one of them covers it.
use Rattle.std.proofs.Common.{◌≡◌, ℕ, List, [], ◌∷◌, ◌++◌, sym, ap, subst, ◌⊎◌, inl, inr, ⊎_elim}
use Rattle.std.specs.Prelude.{IsTrue}
use Rattle.ras_logic.specs.declared.ids.SortId.{SortId}
use Rattle.ras_logic.specs.declared.ids.RelId.{RelId}
use Rattle.ras_logic.specs.declared.raw_db.RawDb.{RawDb}
use Rattle.ras_logic.specs.declared.values.Values.{Values}
use Rattle.ras_logic.specs.declared.problem.Problem.{Problem}
use Rattle.ras_logic.specs.declared.literal.Literal.{Literal}
use Rattle.ras_logic.specs.Shapes.{ShapeParts}
use Rattle.ras_logic.specs.Truth.{AreValues, holds, Satisfies}
use Rattle.ras_logic.proofs.Elements.{from_known}
use Rattle.ras_split.specs.Among.{IsAmong}
use Rattle.ras_cover.specs.Within.{IsCoveredBy, AreAlike, AreOthers, IsWithin, Admits}
use Rattle.ras_split.proofs.Listed.{all-among, any-among, among-more, among-last, among-either, among-none}

pub others-start : (p : Problem) → AreOthers [] p []
others-start p = record { each = λ q h. h; all = λ q h. inl h }

others-left_out : (done : List Problem) (p q : Problem) (new : List Problem) → AreOthers done p new → IsCoveredBy q p → AreOthers (done ++ q ∷ []) p new
others-left_out done p q new are covered = record {
  each = λ x h. among-more done q x (are.each x h);
  all = λ x h. ⊎_elim (λ (b : IsAmong done x). are.all x b) (λ (e : x ≡ q). inr (subst (λ (y : Problem). IsCoveredBy y p) (sym e) covered)) (among-either done q x h);
}

others-kept : (done : List Problem) (p q : Problem) (new : List Problem) → AreOthers done p new → AreOthers (done ++ q ∷ []) p (new ++ q ∷ [])
others-kept done p q new are = record {
  each = λ x h. ⊎_elim (λ (b : IsAmong new x). among-more done q x (are.each x b)) (λ (e : x ≡ q). subst (IsAmong (done ++ q ∷ [])) (sym e) (among-last done q)) (among-either new q x h);
  all = λ x h.
      ⊎_elim (λ (b : IsAmong done x). ⊎_elim (λ (n : IsAmong new x). inl (among-more new q x n)) (λ (c : IsCoveredBy x p). inr c) (are.all x b))
      (λ (e : x ≡ q). inl (subst (IsAmong (new ++ q ∷ [])) (sym e) (among-last new q))) (among-either done q x h);
}

pub others-on : (done : List Problem) (p q : Problem) (new more : List Problem) → AreOthers done p new → ((more ≡ new) × IsCoveredBy q p) ⊎ (more ≡ new ++ q ∷ [])
    → AreOthers (done ++ q ∷ []) p more
others-on done p q new more are (inl h) = subst (AreOthers (done ++ q ∷ []) p) (sym h.0) (others-left_out done p q new are h.1)
others-on done p q new more are (inr e) = subst (AreOthers (done ++ q ∷ []) p) (sym e) (others-kept done p q new are)

-- what satisfies p satisfies a cube that covers it
satisfies-covering : (shape : ShapeParts) (p q : Problem) → AreAlike p q → IsCoveredBy p q → (d : RawDb) (v : Values) → Satisfies shape d v p → Satisfies shape d v q
satisfies-covering shape p q alike covered d v s = record {
  values = subst (λ (r : List RelId). AreValues shape d r q.params v) (sym alike.rows) (subst (λ (t : List SortId). AreValues shape d p.rows t v) (sym alike.params) s.values);
  literals = all-among (λ (l : Literal). IsTrue (holds d v l)) q.literals
      (λ l h. let at = covered l h in from_known (λ (m : Literal). IsTrue (holds d v m)) p.literals s.literals at.number l at.known);
}

module _ (shape : ShapeParts) (old : List Problem) (p : Problem) (alike : (q : Problem) → IsAmong old q → AreAlike p q) where
  pub admits-covered : (q : Problem) → IsAmong old q → IsCoveredBy p q → Admits shape old p old
  admits-covered q among covered = record {
    each = λ x h. inl h;
    added = λ d v db s. any-among (Satisfies shape d v) old q among (satisfies-covering shape p q (alike q among) covered d v s);
    kept = λ x h d v db s. any-among (Satisfies shape d v) old x h s;
  }

  pub admits-added : (new : List Problem) → AreOthers old p new → Admits shape old p (new ++ p ∷ [])
  admits-added new are = record {
    each = λ x h. ⊎_elim (λ (b : IsAmong new x). inl (are.each x b)) (λ (e : x ≡ p). inr e) (among-either new p x h);
    added = λ d v db s. any-among (Satisfies shape d v) (new ++ p ∷ []) p (among-last new p) s;
    kept = λ x h d v db s.
        ⊎_elim (λ (n : IsAmong new x). any-among (Satisfies shape d v) (new ++ p ∷ []) x (among-more new p x n) s)
        (λ (c : IsCoveredBy x p).
        let a = alike x h in
        any-among (Satisfies shape d v) (new ++ p ∷ []) p (among-last new p) (satisfies-covering shape x p (record { rows = sym a.rows; params = sym a.params }) c d v s))
        (are.all x h);
  }
