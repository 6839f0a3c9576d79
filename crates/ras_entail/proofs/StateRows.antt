-- How the rows of a state are found.
use Rattle.std.proofs.Common.{◌≡◌, ℕ, ◌+◌, ◌<◌, ◌≤◌, List, [], ◌∷◌, ◌++◌, length, get_or, refl, sym, ◌∙◌, subst, arith, ◌⊎◌, ⊎_elim, length-append}
use Rattle.std.specs.Prelude.{slice_get, Some, All, Contains}
use Rattle.std.proofs.lemmas.List.{get_or_append_left, get_or_push, map-append, get_or_past}
use Rattle.std.proofs.lemmas.List.Elements.{All-push, All-weaker, Contains-push, Contains-append_left}
use Rattle.std.proofs.lemmas.List.Quantifiers.{all_pairs_push}
use Rattle.ras_logic.specs.declared.ids.RelId.{RelId}
use Rattle.ras_logic.specs.declared.values.Values.{Values}
use Rattle.ras_logic.specs.Shapes.{ShapeParts, IsRelation}
use Rattle.ras_logic.proofs.Elements.{from_known}
use Rattle.ras_system.specs.declared.state.State.{State}
use Rattle.ras_system.specs.States.{rows_of}
use Rattle.ras_entail.specs.EscapeStates.{AreRowsBelow, IsStateOfRows}
use Rattle.ras_row_maps.proofs.ListPairs.{place_cases}

pub rows-none : (rows : List RelId) (cells : List (List ℕ)) (r : RelId) → AreRowsBelow rows cells r 0 []
rows-none rows cells r = record {
  numbers = [];
  in_order = λ i j d lt within. absurd (omega (arith, within));
  each = λ k d lt. absurd (omega (arith, lt));
  every = λ k lt known. absurd (omega (arith, lt));
  found_are = refl;
}

-- one row more is looked at, which is of the relation
pub rows-here : (rows : List RelId) (cells : List (List ℕ)) (r : RelId) (row : ℕ) (found : List (List ℕ)) (new : List ℕ) → AreRowsBelow rows cells r row found → slice_get rows row ≡ Some r
    → new ≡ get_or cells row [] → AreRowsBelow rows cells r (row + 1) (found ++ new ∷ [])
rows-here rows cells r row found new are here is = record {
  numbers = are.numbers ++ row ∷ [];
  in_order = all_pairs_push (λ (j k : ℕ). j < k) are.numbers row are.in_order (λ k d lt. (are.each k d lt).0);
  each = All-push (λ (k : ℕ). (k < row + 1) × (slice_get rows k ≡ Some r)) are.numbers row
      (All-weaker (λ (k : ℕ). (k < row) × (slice_get rows k ≡ Some r)) (λ (k : ℕ). (k < row + 1) × (slice_get rows k ≡ Some r)) (λ k h. (omega (arith, h.0), h.1)) are.numbers are.each)
      (omega arith, here);
  every = λ k lt known. ⊎_elim (λ (below : k < row). Contains-append_left are.numbers (row ∷ []) k (are.every k below known))
      (λ (e : k ≡ row). subst (λ (j : ℕ). Contains (are.numbers ++ row ∷ []) j) (sym e) (Contains-push are.numbers row)) (place_cases k row lt);
  found_are = rw (map-append (λ (k : ℕ). get_or cells k []) are.numbers (row ∷ []), are.found_are, is) refl;
}

-- one row more is looked at, which is of another relation
pub rows-other : (rows : List RelId) (cells : List (List ℕ)) (r : RelId) (row : ℕ) (found : List (List ℕ)) → AreRowsBelow rows cells r row found → ¬ (slice_get rows row ≡ Some r)
    → AreRowsBelow rows cells r (row + 1) found
rows-other rows cells r row found are other = record {
  numbers = are.numbers;
  in_order = are.in_order;
  each = All-weaker (λ (k : ℕ). (k < row) × (slice_get rows k ≡ Some r)) (λ (k : ℕ). (k < row + 1) × (slice_get rows k ≡ Some r)) (λ k h. (omega (arith, h.0), h.1)) are.numbers are.each;
  every = λ k lt known. ⊎_elim (λ (below : k < row). are.every k below known) (λ (e : k ≡ row). absurd (other (subst (λ (j : ℕ). slice_get rows j ≡ Some r) e known))) (place_cases k row lt);
  found_are = are.found_are;
}

-- the rows of the first relations
pub record AreFirstRelations (rows : List RelId) (cells : List (List ℕ)) (count : ℕ) (relations : List (List (List ℕ))) : Type 0 where
  pub as_many : length relations ≡ count
  pub each : (n : ℕ) → n < count → AreRowsBelow rows cells (record { n = n }) (length rows) (get_or relations n [])

pub relations-more : (rows : List RelId) (cells : List (List ℕ)) (count : ℕ) (relations : List (List (List ℕ))) (new : List (List ℕ)) → AreFirstRelations rows cells count relations
    → AreRowsBelow rows cells (record { n = count }) (length rows) new → AreFirstRelations rows cells (count + 1) (relations ++ new ∷ [])
relations-more rows cells count relations new first here = record {
  as_many = omega (arith, length-append relations (new ∷ []), first.as_many);
  each = λ n lt. ⊎_elim (λ (below : n < count). rw (get_or_append_left relations (new ∷ []) [] n (omega (arith, below, first.as_many))) (first.each n below))
      (λ (e : n ≡ count). rw (get_or_push relations new [] n (first.as_many ∙ sym e)) (subst (λ (j : ℕ). AreRowsBelow rows cells (record { n = j }) (length rows) new) (sym e) here))
      (place_cases n count lt);
}

pub relations-all : (shape : ShapeParts) (rows : List RelId) (v : Values) (s : State) → All (IsRelation shape) rows → s.vars ≡ v.vars → AreFirstRelations rows v.rows (length shape.relations) s.relations
    → IsStateOfRows shape rows v s
relations-all shape rows v s in_shape vars all = record { vars = vars; as_many = all.as_many; rows_are = λ r. ⊎_elim (λ (lt : r.n < length shape.relations). all.each r.n lt) (past r) (either r.n (length shape.relations)) }
  where
    either : (n m : ℕ) → (n < m) ⊎ (m ≤ n)
    either n m = grind arith

    past : (r : RelId) → length shape.relations ≤ r.n → AreRowsBelow rows v.rows r (length rows) (rows_of s r)
    past r le = record {
      numbers = [];
      in_order = λ i j d lt within. absurd (omega (arith, within));
      each = λ k d lt. absurd (omega (arith, lt));
      every = λ k lt known. let h = from_known (IsRelation shape) rows in_shape k r known in absurd (omega (arith, h, le));
      found_are = get_or_past s.relations r.n [] (omega (arith, le, all.as_many));
    }
