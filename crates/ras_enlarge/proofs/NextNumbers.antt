-- The element of one more term.
use Rattle.std.proofs.Common.{◌≡◌, ◌≢◌, ℕ, ◌+◌, ◌<◌, ◌≤◌, List, [], ◌∷◌, ◌++◌, length, get_or, set, refl, sym, ◌∙◌, ap, subst, arith, ◌⊎◌, inl, inr, ⊎_elim, length-append, get_or-set_other, get_or-set_same}
use Rattle.std.specs.Prelude.{slice_get, Option, Some, None}
use Rattle.std.proofs.lemmas.Option.{slice_get_within}
use Rattle.std.proofs.lemmas.List.{get_or_append_left, get_or_push}
use Rattle.std.proofs.Math.ListN.{length-set}
use Rattle.ras_logic.specs.declared.ids.SortId.{SortId}
use Rattle.ras_logic.specs.declared.term.Term.{Term}
use Rattle.ras_logic.specs.declared.raw_db.RawDb.{RawDb}
use Rattle.ras_logic.specs.declared.values.Values.{Values}
use Rattle.ras_logic.specs.Databases.{IsDatabase, size_of}
use Rattle.ras_logic.specs.Truth.{value}
use Rattle.ras_logic.proofs.SameSorts.{together-sorted}
use Rattle.ras_closure.specs.Numbered.{IsAt, IsTable, IsSortOf}
use Rattle.ras_closure.specs.Classes.{class}
use Rattle.ras_closure.specs.Elements.{number}
use Rattle.ras_closure.specs.Closures.{IsClosure, IsFactOf}
use Rattle.ras_closure.proofs.Merges.{at-same, term_at}
use Rattle.ras_closure.proofs.Cases.{some_same, none_some, below_or_same, same_or}
use Rattle.ras_split.specs.Standing.{CaseParts, standing}
use Rattle.ras_cover.specs.Extensions.{AreFilled, AreNumbersFor}
use Rattle.ras_enlarge.specs.Numbers.{size_in, AreNumberedTo}

-- no terms have elements yet
pub numbered-start : (c : CaseParts) (d : RawDb) (v : Values) → IsDatabase c.closure.table.shape.schema d → AreNumberedTo c d v 0 [] d.sizes
numbered-start c d v db = record {
  long = refl;
  sorts = db.sizes;
  grows = λ s. omega arith;
  old = λ i r lt. absurd (omega (arith, lt));
  same = λ i lt. absurd (omega (arith, lt));
  new = λ i t s lt. absurd (omega (arith, lt));
  differ = λ i j s t u lt. absurd (omega (arith, lt));
}

module _ (c : CaseParts) (table : IsTable c.closure.table) (closure : IsClosure c.closure) (d : RawDb) (v : Values) where
  -- terms of one class have one sort
  class-sort : (i j : ℕ) (s t : Term) (u : SortId) → IsAt c.closure.table.terms i s → IsAt c.closure.table.terms j t → class c.closure.classes i ≡ class c.closure.classes j
      → IsSortOf c.closure.table s u → IsSortOf c.closure.table t u
  class-sort i j s t u at_i at_j e sorted =
      let a = together-sorted c.closure.table.shape c.closure.table.problem.rows c.closure.table.problem.params table.shape.schema c.closure.table.problem.literals table.fits.literals
      (IsFactOf c.closure) closure.facts_fit (closure.partial.sound i j s t at_i at_j e) in
      let one : u ≡ a.sort = some_same (sym sorted ∙ a.left) in a.right ∙ ap (λ (q : SortId). Some q) (sym one)

  module _ (n : ℕ) (numbers sizes : List ℕ) (so_far : AreNumberedTo c d v n numbers sizes) (lt_n : n < length c.closure.table.terms) where
    older : (x i : ℕ) → i < n → number (numbers ++ x ∷ []) i ≡ number numbers i
    older x i lt = get_or_append_left numbers (x ∷ []) 0 i (rw so_far.long lt)

    newest : (x i : ℕ) → i ≡ n → number (numbers ++ x ∷ []) i ≡ x
    newest x i e = get_or_push numbers x 0 i (so_far.long ∙ sym e)

    -- what the next element must be, with the new sizes
    record IsNext (x : ℕ) (new : List ℕ) : Type 0 where
      sorts : length new ≡ c.closure.table.shape.schema.sorts
      grows : (s : SortId) → size_in sizes s ≤ size_in new s
      old : (r : Term) → standing c.closure c.terms n ≡ Some r → x ≡ value d v r
      same : standing c.closure c.terms n ≡ None → x ≡ number (numbers ++ x ∷ []) (class c.closure.classes n)
      beyond : (t : Term) (s : SortId) → IsAt c.closure.table.terms n t → IsSortOf c.closure.table t s → standing c.closure c.terms n ≡ None
          → (size_of d s < x) × (x ≤ size_in new s)
      differ : (j : ℕ) (s t : Term) (u : SortId) → j < n → IsAt c.closure.table.terms n s → IsAt c.closure.table.terms j t → IsSortOf c.closure.table s u
          → IsSortOf c.closure.table t u → standing c.closure c.terms n ≡ None → standing c.closure c.terms j ≡ None → number numbers j ≡ x
          → class c.closure.classes n ≡ class c.closure.classes j

    numbered-on : (x : ℕ) (new : List ℕ) → IsNext x new → AreNumberedTo c d v (n + 1) (numbers ++ x ∷ []) new
    numbered-on x new next = record {
      long = length-append numbers (x ∷ []) ∙ ap (λ (m : ℕ). m + 1) so_far.long;
      sorts = next.sorts;
      grows = λ s. let a = so_far.grows s in let b = next.grows s in omega (arith, a, b);
      old = λ i r lt e.
          ⊎_elim (λ (below : i < n). older x i below ∙ so_far.old i r below e)
          (λ (here : i ≡ n). newest x i here ∙ next.old r (ap (standing c.closure c.terms) (sym here) ∙ e)) (below_or_same i n lt);
      same = λ i lt e.
          ⊎_elim
          (λ (below : i < n).
          let low = closure.partial.low i (omega (arith, below, lt_n)) in
          older x i below ∙ so_far.same i below e ∙ sym (older x (class c.closure.classes i) (omega (arith, low, below))))
          (λ (here : i ≡ n).
          newest x i here ∙ next.same (ap (standing c.closure c.terms) (sym here) ∙ e) ∙ ap (λ (m : ℕ). number (numbers ++ x ∷ []) (class c.closure.classes m)) (sym here))
          (below_or_same i n lt);
      new = λ i t s lt at sorted e.
          ⊎_elim
          (λ (below : i < n).
          let a = so_far.new i t s below at sorted e in let b = next.grows s in let o = older x i below in (omega (arith, a.0, o), omega (arith, a.1, b, o)))
          (λ (here : i ≡ n).
          let a = next.beyond t s (subst (λ (m : ℕ). IsAt c.closure.table.terms m t) here at) sorted (ap (standing c.closure c.terms) (sym here) ∙ e) in
          let o = newest x i here in (omega (arith, a.0, o), omega (arith, a.1, o))) (below_or_same i n lt);
      differ = λ i j s t u lt_i lt_j at_i at_j left right none_i none_j e.
          ⊎_elim
          (λ (below_i : i < n).
          ⊎_elim (λ (below_j : j < n). so_far.differ i j s t u below_i below_j at_i at_j left right none_i none_j (sym (older x i below_i) ∙ e ∙ older x j below_j))
          (λ (here_j : j ≡ n).
          sym (next.differ i t s u below_i (subst (λ (m : ℕ). IsAt c.closure.table.terms m t) here_j at_j) at_i right left (ap (standing c.closure c.terms) (sym here_j) ∙ none_j) none_i
          (sym (older x i below_i) ∙ e ∙ newest x j here_j)) ∙ ap (class c.closure.classes) (sym here_j)) (below_or_same j n lt_j))
          (λ (here_i : i ≡ n).
          ⊎_elim
          (λ (below_j : j < n).
          ap (class c.closure.classes) here_i
          ∙ next.differ j s t u below_j (subst (λ (m : ℕ). IsAt c.closure.table.terms m s) here_i at_i) at_j left right (ap (standing c.closure c.terms) (sym here_i) ∙ none_i) none_j
          (sym (older x j below_j) ∙ sym e ∙ newest x i here_i))
          (λ (here_j : j ≡ n). ap (class c.closure.classes) (here_i ∙ sym here_j)) (below_or_same j n lt_j)) (below_or_same i n lt_i);
    }

    -- the value of what stands for the term
    pub numbered-old : (r : Term) → standing c.closure c.terms n ≡ Some r → AreNumberedTo c d v (n + 1) (numbers ++ value d v r ∷ []) sizes
    numbered-old r is = numbered-on (value d v r) sizes (record {
      sorts = so_far.sorts;
      grows = λ s. omega arith;
      old = λ q e. ap (value d v) (some_same (sym is ∙ e));
      same = λ none. absurd (none_some (sym none ∙ is));
      beyond = λ t s at sorted none. absurd (none_some (sym none ∙ is));
      differ = λ j s t u lt at_n at_j left right none none_j e. absurd (none_some (sym none ∙ is));
    })

    -- the element of an earlier term of the class
    pub numbered-class : standing c.closure c.terms n ≡ None → class c.closure.classes n < n
        → AreNumberedTo c d v (n + 1) (numbers ++ number numbers (class c.closure.classes n) ∷ []) sizes
    numbered-class none lt = numbered-on x sizes (record {
      sorts = so_far.sorts;
      grows = λ s. omega arith;
      old = λ q e. absurd (none_some (sym none ∙ e));
      same = λ e. sym (older x first lt);
      beyond = λ t s at sorted e. so_far.new first there.0 s lt there.1 (class-sort n first t there.0 s at there.1 (sym own) sorted) none_first;
      differ = λ j s t u lt_j at_n at_j left right e none_j same.
          sym own ∙ so_far.differ first j there.0 t u lt lt_j there.1 at_j (class-sort n first s there.0 u at_n there.1 (sym own) left) right none_first none_j (sym same);
    })
      where
        first : ℕ
        first = class c.closure.classes n

        x : ℕ
        x = number numbers first

        own : class c.closure.classes first ≡ class c.closure.classes n
        own = closure.partial.own n lt_n

        none_first : standing c.closure c.terms first ≡ None
        none_first = ap (λ (m : ℕ). get_or c.terms m None) own ∙ none

        there : (t : Term) × IsAt c.closure.table.terms first t
        there = term_at c.closure.table.terms first (omega (arith, lt, lt_n))

    -- the next element of the sort
    pub numbered-new : standing c.closure c.terms n ≡ None → n ≤ class c.closure.classes n → (t : Term) (sort : SortId) → IsAt c.closure.table.terms n t → IsSortOf c.closure.table t sort
        → sort.n < c.closure.table.shape.schema.sorts → (x : ℕ) (new : List ℕ) → x ≡ size_in sizes sort + 1 → new ≡ set sizes sort.n x → AreNumberedTo c d v (n + 1) (numbers ++ x ∷ []) new
    numbered-new none first t sort at sorted exists x new is set_is = numbered-on x new (record {
      sorts = ap (λ (xs : List ℕ). length xs) set_is ∙ length-set sizes sort.n x ∙ so_far.sorts;
      grows = grows;
      old = λ q e. absurd (none_some (sym none ∙ e));
      same = λ e. let low = closure.partial.low n lt_n in sym (newest x (class c.closure.classes n) (omega (arith, low, first)));
      beyond = λ u s at_u sorted_u e.
          let one = sort-same u s at_u sorted_u in
          let low = so_far.grows sort in
          let same_d : size_of d s ≡ size_of d sort = ap (size_of d) one in
          let here : size_in new s ≡ x = ap (size_in new) one ∙ new-here in (omega (arith, low, is, same_d), omega (arith, here));
      differ = λ j s u q lt at_n at_j left right e none_j same.
          let one = sort-same s q at_n left in
          let le = (so_far.new j u q lt at_j right none_j).1 in
          let same_size : size_in sizes q ≡ size_in sizes sort = ap (size_in sizes) one in absurd (omega (arith, le, same, is, same_size));
    })
      where
        sort-same : (u : Term) (s : SortId) → IsAt c.closure.table.terms n u → IsSortOf c.closure.table u s → s ≡ sort
        sort-same u s at_u sorted_u = some_same (sym sorted_u ∙ subst (λ (w : Term). IsSortOf c.closure.table w sort) (at-same c.closure.table.terms n t u at at_u) sorted)

        new-here : size_in new sort ≡ x
        new-here = ap (λ (xs : List ℕ). get_or xs sort.n 0) set_is ∙ get_or-set_same sizes sort.n x 0 (rw so_far.sorts exists)

        grows : (s : SortId) → size_in sizes s ≤ size_in new s
        grows s =
            ⊎_elim
            (λ (here : s.n ≡ sort.n).
            let a : size_in new s ≡ x = ap (λ (m : ℕ). get_or new m 0) here ∙ new-here in
            let b : size_in sizes s ≡ size_in sizes sort = ap (λ (m : ℕ). get_or sizes m 0) here in omega (arith, a, b, is))
            (λ (other : s.n ≢ sort.n).
            let a : size_in new s ≡ size_in sizes s = ap (λ (xs : List ℕ). get_or xs s.n 0) set_is ∙ get_or-set_other sizes sort.n s.n x 0 other in omega (arith, a)) (same_or s.n sort.n)

  -- all terms have elements, in sorts that may be larger
  pub numbers-for : (numbers sizes new : List ℕ) → AreNumberedTo c d v (length c.closure.table.terms) numbers sizes → ((s : SortId) → size_in sizes s ≤ size_in new s)
      → AreFilled c.closure.table (size_in new) → AreNumbersFor c.closure c.terms d v (number numbers) (size_in new)
  numbers-for numbers sizes new are more filled = record {
    old = λ i t r at e. are.old i r (slice_get_within c.closure.table.terms i t at) e;
    new = λ i t s at sorted e. (are.new i t s (slice_get_within c.closure.table.terms i t at) at sorted e).0;
    within = λ i t s at sorted e. let a = (are.new i t s (slice_get_within c.closure.table.terms i t at) at sorted e).1 in let b = more s in omega (arith, a, b);
    same = λ i j s t u at_i at_j left right none e.
        let none_j : standing c.closure c.terms j ≡ None = ap (λ (m : ℕ). get_or c.terms m None) (sym e) ∙ none in
        are.same i (slice_get_within c.closure.table.terms i s at_i) none ∙ ap (number numbers) e ∙ sym (are.same j (slice_get_within c.closure.table.terms j t at_j) none_j);
    differ = λ i j s t u at_i at_j left right none_i none_j e.
        are.differ i j s t u (slice_get_within c.closure.table.terms i s at_i) (slice_get_within c.closure.table.terms j t at_j) at_i at_j left right none_i none_j e;
    grows = λ s lt. let a = are.grows s in let b = more s in omega (arith, a, b);
    filled = filled;
  }
