-- The element of one more term.
use Rattle.std.proofs.Common.{◌≡◌, ◌≢◌, ℕ, ◌+◌, ◌<◌, ◌≤◌, List, [], ◌∷◌, ◌++◌, length, get_or, set, sym, ◌∙◌, ap, subst, arith, ◌⊎◌, ⊎_elim, length-append, get_or-set_other, get_or-set_same}
use Rattle.std.proofs.lemmas.List.{get_or_append_left, get_or_push}
use Rattle.ras_logic.specs.declared.ids.SortId.{SortId}
use Rattle.ras_logic.specs.declared.term.Term.{Term}
use Rattle.ras_logic.proofs.TermSorts.{undef-sort}
use Rattle.ras_logic.specs.Terms.{undef_term}
use Rattle.ras_closure.specs.Numbered.{TableParts, IsAt, IsSortOf, IsTable}
use Rattle.ras_closure.specs.Classes.{class}
use Rattle.ras_closure.specs.Elements.{AreSorted, number, count, IsNamed, AreNumbered}
use Rattle.std.proofs.Math.ListN.{length-set}
use Rattle.ras_closure.proofs.Merges.{at-same, term_at}
use Rattle.ras_closure.proofs.Cases.{same_or, below_or, le_or, some_same}

module _ (t : TableParts) (table : IsTable t) (classes : List ℕ) (lawful : AreSorted t classes) where
  -- a class with the number of an undef is that of the sort's undef
  low-class : (i : ℕ) (s : Term) (sort : SortId) → i < length t.terms → IsAt t.terms i s → IsSortOf t s sort → class classes i < t.shape.schema.sorts → class classes i ≡ sort.n
  low-class i s sort lt at is_sort low =
      let u : SortId = record { n = class classes i } in
      let there = lawful.sorted i (class classes i) s (undef_term u) sort at (table.terms.undefs u low) (sym (lawful.own i lt)) is_sort in
      ap (λ (q : SortId). q.n) (undef-sort t.shape t.problem.rows t.problem.params u sort there)

  module _ (numbers counts : List ℕ) (n : ℕ) (so_far : AreNumbered t classes numbers counts n) (lt_n : n < length t.terms) (x : ℕ) where
    older : (i : ℕ) → i < n → number (numbers ++ x ∷ []) i ≡ number numbers i
    older i lt = get_or_append_left numbers (x ∷ []) 0 i (rw so_far.long lt)

    newest : number (numbers ++ x ∷ []) n ≡ x
    newest = get_or_push numbers x 0 n so_far.long

    below_or_here : (i : ℕ) → i < n + 1 → (i < n) ⊎ (i ≡ n)
    below_or_here i lt = grind arith

    named-older : (sort : SortId) (y : ℕ) → IsNamed t numbers n sort y → IsNamed t (numbers ++ x ∷ []) (n + 1) sort y
    named-older sort y h = record {
      i = h.i;
      s = h.s;
      below = omega (arith, h.below);
      here = h.here;
      is_sort = h.is_sort;
      element = older h.i h.below ∙ h.element;
    }

    -- what the new element must be, with the new counts
    record IsNext (new : List ℕ) : Type 0 where
      sorts : length new ≡ t.shape.schema.sorts
      few : (s : SortId) → count new s ≤ n + 1
      undef : class classes n < t.shape.schema.sorts → x ≡ 0
      above : t.shape.schema.sorts ≤ class classes n → 0 < x
      same : x ≡ number (numbers ++ x ∷ []) (class classes n)
      apart : (j : ℕ) (s u : Term) (sort : SortId) → j < n → IsAt t.terms n s → IsAt t.terms j u → IsSortOf t s sort → IsSortOf t u sort → x ≡ number numbers j
          → class classes n ≡ class classes j
      grows : (sort : SortId) → count counts sort ≤ count new sort
      within : (s : Term) (sort : SortId) → IsAt t.terms n s → IsSortOf t s sort → x ≤ count new sort
      named : (sort : SortId) (y : ℕ) → 0 < y → y ≤ count new sort → IsNamed t (numbers ++ x ∷ []) (n + 1) sort y

    next-numbered : (new : List ℕ) → IsNext new → AreNumbered t classes (numbers ++ x ∷ []) new (n + 1)
    next-numbered new next = record {
      long = length-append numbers (x ∷ []) ∙ ap (λ (m : ℕ). m + 1) so_far.long;
      sorts = next.sorts;
      few = next.few;
      undef = λ i lt low. ⊎_elim (λ (h : i < n). older i h ∙ so_far.undef i h low)
          (λ (e : i ≡ n). ap (number (numbers ++ x ∷ [])) e ∙ newest ∙ next.undef (subst (λ (k : ℕ). class classes k < t.shape.schema.sorts) e low)) (below_or_here i lt);
      above = λ i lt high. ⊎_elim (λ (h : i < n). rw (older i h) (so_far.above i h high))
          (λ (e : i ≡ n). subst (λ (y : ℕ). 0 < y) (sym (ap (number (numbers ++ x ∷ [])) e ∙ newest)) (next.above (subst (λ (k : ℕ). t.shape.schema.sorts ≤ class classes k) e high))) (below_or_here i lt);
      same = λ i lt. ⊎_elim
          (λ (h : i < n). let le = lawful.low i (omega (arith, h, lt_n)) in older i h ∙ so_far.same i h ∙ sym (older (class classes i) (omega (arith, le, h))))
          (λ (e : i ≡ n). ap (number (numbers ++ x ∷ [])) e ∙ newest ∙ next.same ∙ ap (λ (k : ℕ). number (numbers ++ x ∷ []) (class classes k)) (sym e)) (below_or_here i lt);
      apart = λ i j s u sort lt_i lt_j at_i at_j is_i is_j e.
          ⊎_elim
          (λ (h : i < n). ⊎_elim (λ (g : j < n). so_far.apart i j s u sort h g at_i at_j is_i is_j (sym (older i h) ∙ e ∙ older j g))
          (λ (here : j ≡ n). sym (ap (class classes) here
          ∙ next.apart i u s sort h (subst (λ (k : ℕ). IsAt t.terms k u) here at_j) at_i is_j is_i (sym newest ∙ ap (number (numbers ++ x ∷ [])) (sym here) ∙ sym e ∙ older i h)))
          (below_or_here j lt_j))
          (λ (here : i ≡ n). ⊎_elim
          (λ (g : j < n). ap (class classes) here
          ∙ next.apart j s u sort g (subst (λ (k : ℕ). IsAt t.terms k s) here at_i) at_j is_i is_j (sym newest ∙ ap (number (numbers ++ x ∷ [])) (sym here) ∙ e ∙ older j g))
          (λ (there : j ≡ n). ap (class classes) (here ∙ sym there)) (below_or_here j lt_j))
          (below_or_here i lt_i);
      within = λ i s sort lt at is.
          ⊎_elim (λ (h : i < n). let le = so_far.within i s sort h at is in let more = next.grows sort in omega (arith, le, more, older i h))
          (λ (e : i ≡ n). subst (λ (y : ℕ). y ≤ count new sort) (sym (ap (number (numbers ++ x ∷ [])) e ∙ newest)) (next.within s sort (subst (λ (k : ℕ). IsAt t.terms k s) e at) is)) (below_or_here i lt);
      named = next.named;
    }

    -- undef's element
    pub undef-numbered : class classes n < t.shape.schema.sorts → x ≡ 0 → AreNumbered t classes (numbers ++ x ∷ []) counts (n + 1)
    undef-numbered low zero = next-numbered counts (record {
      sorts = so_far.sorts;
      few = λ s. let f = so_far.few s in omega (arith, f);
      undef = λ _. zero;
      above = λ high. absurd (omega (arith, low, high));
      same = let le = lawful.low n lt_n in
          ⊎_elim (λ (h : class classes n < n). zero ∙ sym (older (class classes n) h ∙ so_far.undef (class classes n) h (rw (lawful.own n lt_n) low)))
          (λ (h : n ≤ class classes n). let e : class classes n ≡ n = omega (arith, le, h) in sym (ap (number (numbers ++ x ∷ [])) e ∙ newest)) (below_or (class classes n) n);
      apart = λ j s u sort lt at_n at_j is_n is_j e.
          ⊎_elim
          (λ (h : class classes j < t.shape.schema.sorts). low-class n s sort lt_n at_n is_n low ∙ sym (low-class j u sort (omega (arith, lt, lt_n)) at_j is_j h))
          (λ (h : t.shape.schema.sorts ≤ class classes j). let above = so_far.above j lt h in absurd (omega (arith, above, e, zero))) (below_or (class classes j) t.shape.schema.sorts);
      grows = λ sort. omega arith;
      within = λ s sort at is. omega (arith, zero);
      named = λ sort y lt le. named-older sort y (so_far.named sort y lt le);
    })

    -- the element of an earlier term of the class
    pub known-numbered : t.shape.schema.sorts ≤ class classes n → class classes n < n → x ≡ number numbers (class classes n) → AreNumbered t classes (numbers ++ x ∷ []) counts (n + 1)
    known-numbered high earlier is =
        let own = lawful.own n lt_n in
        next-numbered counts (record {
          sorts = so_far.sorts;
          few = λ s. let f = so_far.few s in omega (arith, f);
          undef = λ low. absurd (omega (arith, low, high));
          above = λ _. let above = so_far.above (class classes n) earlier (rw own high) in omega (arith, above, is);
          same = is ∙ sym (older (class classes n) earlier);
          apart = λ j s u sort lt at_n at_j is_n is_j e.
              let c = term-of (class classes n) (omega (arith, earlier, lt_n)) in
              let is_c = lawful.sorted n (class classes n) s c.0 sort at_n c.1 (sym own) is_n in
              sym own ∙ so_far.apart (class classes n) j c.0 u sort earlier lt c.1 at_j is_c is_j (sym is ∙ e);
          grows = λ sort. omega arith;
          within = λ s sort at is_n.
              let c = term-of (class classes n) (omega (arith, earlier, lt_n)) in
              let is_c = lawful.sorted n (class classes n) s c.0 sort at c.1 (sym own) is_n in
              let le = so_far.within (class classes n) c.0 sort earlier c.1 is_c in omega (arith, le, is);
          named = λ sort y lt le. named-older sort y (so_far.named sort y lt le);
        })
      where
        term-of : (i : ℕ) → i < length t.terms → (s : Term) × IsAt t.terms i s
        term-of i lt = term_at t.terms i lt

    -- an element of its own
    pub new-numbered : (sort : SortId) (s : Term) → IsAt t.terms n s → IsSortOf t s sort → sort.n < t.shape.schema.sorts → t.shape.schema.sorts ≤ class classes n → n ≤ class classes n
        → x ≡ count counts sort + 1 → AreNumbered t classes (numbers ++ x ∷ []) (set counts sort.n x) (n + 1)
    new-numbered sort s at is lt_sort high first is_x =
        let le = lawful.low n lt_n in
        let own : class classes n ≡ n = omega (arith, le, first) in
        next-numbered (set counts sort.n x) (record {
          sorts = length-set counts sort.n x ∙ so_far.sorts;
          few = λ q. ⊎_elim (λ (e : q.n ≡ sort.n). let f = so_far.few sort in omega (arith, f, is_x, here q e)) (λ (h : q.n ≢ sort.n). let f = so_far.few q in omega (arith, f, there q h)) (same_or q.n sort.n);
          undef = λ low. absurd (omega (arith, low, high));
          above = λ _. omega (arith, is_x);
          same = sym (ap (number (numbers ++ x ∷ [])) own ∙ newest);
          apart = λ j r u q lt at_n at_j is_n is_j e.
              let same_term = at-same t.terms n r s at_n at in
              let one : q ≡ sort = some_same (sym is_n ∙ subst (λ (w : Term). IsSortOf t w sort) (sym same_term) is) in
              let le_j = so_far.within j u q lt at_j is_j in
              absurd (omega (arith, le_j, e, is_x, ap (λ (w : SortId). count counts w) one));
          grows = λ q. ⊎_elim (λ (e : q.n ≡ sort.n). omega (arith, is_x, here q e, ap (λ (m : ℕ). get_or counts m 0) e)) (λ (h : q.n ≢ sort.n). omega (arith, there q h)) (same_or q.n sort.n);
          within = λ r q at_n is_n.
              let same_term = at-same t.terms n r s at_n at in
              let one : q ≡ sort = some_same (sym is_n ∙ subst (λ (w : Term). IsSortOf t w sort) (sym same_term) is) in
              omega (arith, here q (ap (λ (w : SortId). w.n) one));
          named = λ q y lt le_y.
              ⊎_elim
              (λ (e : q.n ≡ sort.n). ⊎_elim (λ (h : y ≤ count counts q). named-older q y (so_far.named q y lt h))
              (λ (h : count counts q < y).
              let same_sort : sort ≡ q = ap (λ (m : ℕ). record { n = m }) (sym e) in
              record {
                i = n;
                s = s;
                below = omega arith;
                here = at;
                is_sort = subst (λ (w : SortId). IsSortOf t s w) same_sort is;
                element = newest ∙ omega (arith, is_x, h, le_y, here q e, ap (λ (m : ℕ). get_or counts m 0) e);
              })
              (le_or y (count counts q)))
              (λ (h : q.n ≢ sort.n). named-older q y (so_far.named q y lt (rw (← there q h) le_y))) (same_or q.n sort.n);
        })
      where
        here : (q : SortId) → q.n ≡ sort.n → count (set counts sort.n x) q ≡ x
        here q e = ap (λ (m : ℕ). get_or (set counts sort.n x) m 0) e ∙ get_or-set_same counts sort.n x 0 (rw so_far.sorts lt_sort)

        there : (q : SortId) → q.n ≢ sort.n → count (set counts sort.n x) q ≡ count counts q
        there q h = get_or-set_other counts sort.n q.n x 0 h
