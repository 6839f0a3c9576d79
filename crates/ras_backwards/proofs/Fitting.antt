-- The problems of a preimage fit the shape.
use Rattle.std.proofs.Common.{◌≡◌, ℕ, zero, suc, ◌+◌, Bool, true, false, nat_eq, List, [], ◌∷◌, ◌++◌, map, length, get_or, refl, sym, ◌∙◌, ap, subst, slice_get, Option, Some, None, option_map, option_and_then, All, flat_map, append_assoc}
use Rattle.std.specs.Prelude.{unwrap_or}
use Rattle.std.specs.List.{AllByRecursion}
use Rattle.std.proofs.lemmas.List.{length_push}
use Rattle.std.proofs.lemmas.List.Elements.{All-from_recursion, recursion_from_All}
use Rattle.std.proofs.lemmas.Bool.{eqb-true, eq-eqb}
use Rattle.ras_logic.specs.declared.ids.SortId.{SortId}
use Rattle.ras_logic.specs.declared.ids.RelId.{RelId}
use Rattle.ras_logic.specs.declared.term.Base.{Base}
use Rattle.ras_logic.specs.declared.term.Base.TheVariants.{Var, Cell, Constant, Undef, Param}
use Rattle.ras_logic.specs.declared.term.Term.{Term}
use Rattle.ras_logic.specs.declared.literal.Literal.{Literal}
use Rattle.ras_logic.specs.declared.problem.Problem.{Problem}
use Rattle.ras_logic.specs.Shapes.{ShapeParts, IsRelation}
use Rattle.ras_logic.specs.Terms.{base_term, sort_of, sort_of_base, replace_term}
use Rattle.ras_logic.specs.Formulas.{LiteralFits, Fits, IsCube, replace}
use Rattle.ras_system.specs.declared.bulk.Bulk.{Bulk}
use Rattle.ras_system.specs.declared.transition.Transition.{Transition}
use Rattle.ras_system.specs.Steps.{term_for_var, term_for_cell, term_for_column}
use Rattle.ras_system.specs.Systems.{BulkFits, IsTransition}
use Rattle.ras_system.specs.Preimages.{renumbered_row, unmatched, CaseChoice, case_choices_from, RowSource, row_sources, base_before, preimage}
use Rattle.ras_backwards.proofs.Lists.{In, filter_in, in_all, all-append, slice_in_first, slice_at_length, slice_before_last}
use Rattle.ras_backwards.proofs.ChosenRows.{same_relation}
use Rattle.ras_backwards.proofs.Replaced.{negated-fits, sorted-term, fit-before}
use Rattle.ras_backwards.proofs.Cases.{choice-number, choice-case, choice-fit}
use Rattle.ras_backwards.proofs.Combinations.{IsMatching, cases_of, AreCaseChoices, preimage-is}
use Rattle.ras_backwards.proofs.Assigned.{base-sorted, var-term-sort, cell-term-sort, column-term-sort}
use Rattle.ras_backwards.proofs.After.{IsColumn, cell-sort, sort-cell, cases-fit, source_term}
use Rattle.ras_backwards.proofs.Exact.{unreplaced}

-- the relations of the unmatched rows
abbrev pub rest_of : List (ℕ × RelId) → List RelId
rest_of rows = map (λ (q : ℕ × RelId). q.1) rows

rest-known : (P : RelId → Type 0) (n : ℕ) (rows : List RelId) (m : List (Option ℕ)) → AllByRecursion P rows → AllByRecursion P (rest_of (unmatched n rows m))
rest-known P n [] m h = tt
rest-known P n (r ∷ rows) [] h = tt
rest-known P n (r ∷ rows) (Some p ∷ m) h = rest-known P n rows m h.1
rest-known P n (r ∷ rows) (None ∷ m) h = (h.0, rest-known P (n + 1) rows m h.1)

-- each unmatched row has its number in the problem
abbrev AreNumbered : List RelId → List (ℕ × RelId) → Type 0
AreNumbered all rows = AllByRecursion (λ (q : ℕ × RelId). slice_get all q.0 ≡ Some q.1) rows

numbered : (n : ℕ) (rows : List RelId) (m : List (Option ℕ)) (before : List RelId) → length before ≡ n → AreNumbered (before ++ rest_of (unmatched n rows m)) (unmatched n rows m)
numbered n [] m before at = tt
numbered n (r ∷ rows) [] before at = tt
numbered n (r ∷ rows) (Some p ∷ m) before at = numbered n rows m before at
numbered n (r ∷ rows) (None ∷ m) before at =
    let rest : List RelId = rest_of (unmatched (n + 1) rows m) in (
      subst (λ i. slice_get (before ++ r ∷ rest) i ≡ Some r) at (slice_at_length before rest r),
      subst (λ l. AreNumbered l (unmatched (n + 1) rows m)) (append_assoc before (r ∷ []) rest) (numbered (n + 1) rows m (before ++ r ∷ []) (length_push before r ∙ ap (λ i. i + 1) at)),
    )

module _ (shape : ShapeParts) (t : Transition) (good : IsTransition shape t) (more : List RelId) where
  -- a base of the row parameters, in the problem
  first-sorted : (b : Base) (u : SortId) → sort_of_base shape t.rows t.params b ≡ Some u → sort_of shape (t.rows ++ more) t.params (base_term b) ≡ Some u
  first-sorted (Var x) u h = base-sorted shape (t.rows ++ more) t.params (Var x) u h
  first-sorted (Cell row column) u h =
      let c = sort-cell shape t.rows t.params row column u h in
      base-sorted shape (t.rows ++ more) t.params (Cell row column) u
      (cell-sort shape (t.rows ++ more) t.params row column c.relation u (slice_in_first t.rows more row c.relation c.known) c.is_column)
  first-sorted (Constant c) u h = base-sorted shape (t.rows ++ more) t.params (Constant c) u h
  first-sorted (Undef q) u h = base-sorted shape (t.rows ++ more) t.params (Undef q) u h
  first-sorted (Param p) u h = base-sorted shape (t.rows ++ more) t.params (Param p) u h

  -- the updated row of a case, under its number in the problem
  renumbered-sorted : (r : RelId) (n : ℕ) → slice_get (t.rows ++ more) n ≡ Some r → (b : Base) (u : SortId) → sort_of_base shape (t.rows ++ r ∷ []) t.params b ≡ Some u
      → sort_of shape (t.rows ++ more) t.params (renumbered_row (length t.rows) n b) ≡ Some u
  renumbered-sorted r n here (Var x) u h = base-sorted shape (t.rows ++ more) t.params (Var x) u h
  renumbered-sorted r n here (Cell row column) u h = go (nat_eq row (length t.rows)) refl
    where
      go : (b : Bool) → nat_eq row (length t.rows) ≡ b
          → sort_of shape (t.rows ++ more) t.params (elim b [ true ↦ base_term (Cell n column) | false ↦ base_term (Cell row column) ]) ≡ Some u
      go true e =
          let c = sort-cell shape (t.rows ++ r ∷ []) t.params row column u h in
          let last : slice_get (t.rows ++ r ∷ []) row ≡ Some r = subst (λ i. slice_get (t.rows ++ r ∷ []) i ≡ Some r) (sym (eqb-true row (length t.rows) e)) (slice_at_length t.rows [] r) in
          let known = c.known in
          let same : c.relation ≡ r = cc in
          base-sorted shape (t.rows ++ more) t.params (Cell n column) u
          (cell-sort shape (t.rows ++ more) t.params n column r u here (subst (λ (x : RelId). IsColumn shape x column u) same c.is_column))
      go false e =
          let c = sort-cell shape (t.rows ++ r ∷ []) t.params row column u h in
          let other : row ≡ length t.rows → ⊥ = λ q. let is : nat_eq row (length t.rows) ≡ true = eq-eqb row (length t.rows) q in absurd (cc) in
          base-sorted shape (t.rows ++ more) t.params (Cell row column) u
          (cell-sort shape (t.rows ++ more) t.params row column c.relation u
          (slice_in_first t.rows more row c.relation (slice_before_last t.rows r c.relation row c.known other)) c.is_column)
  renumbered-sorted r n here (Constant c) u h = base-sorted shape (t.rows ++ more) t.params (Constant c) u h
  renumbered-sorted r n here (Undef q) u h = base-sorted shape (t.rows ++ more) t.params (Undef q) u h
  renumbered-sorted r n here (Param p) u h = base-sorted shape (t.rows ++ more) t.params (Param p) u h

  -- the literals of the choices
  ways-fit : (rows : List (ℕ × RelId)) (ws : List CaseChoice) → AreCaseChoices t.bulk rows ws → AreNumbered (t.rows ++ more) rows
      → AllByRecursion (LiteralFits shape (t.rows ++ more) t.params) (flat_map (λ (w : CaseChoice). map (replace (renumbered_row (length t.rows) w.number)) w.literals) ws)
  ways-fit [] [] c n = tt
  ways-fit [] (w ∷ ws) c n = absurd c
  ways-fit (q ∷ rows) [] c n = absurd c
  ways-fit (q ∷ rows) (w ∷ ws) c n =
      let here : slice_get (t.rows ++ more) w.number ≡ Some q.1 = subst (λ i. slice_get (t.rows ++ more) i ≡ Some q.1) (sym (choice-number q.0 [] (cases_of t.bulk q.1) w c.0)) n.0 in
      all-append (LiteralFits shape (t.rows ++ more) t.params) (map (replace (renumbered_row (length t.rows) w.number)) w.literals)
      (flat_map (λ (x : CaseChoice). map (replace (renumbered_row (length t.rows) x.number)) x.literals) ws)
      (fit-before shape (t.rows ++ q.1 ∷ []) (t.rows ++ more) t.params t.params (renumbered_row (length t.rows) w.number) (renumbered-sorted q.1 w.number here) w.literals
      (choice-fit (LiteralFits shape (t.rows ++ q.1 ∷ []) t.params) (negated-fits shape (t.rows ++ q.1 ∷ []) t.params) q.0 [] (cases_of t.bulk q.1) tt (cases-fit shape t q.1 good.bulk) w c.0))
      (ways-fit rows ws c.1 n.1)

  -- the term of a column of a named row
  named-sorted : (r : RelId) (p column : ℕ) (u : SortId) → slice_get t.rows p ≡ Some r → IsColumn shape r column u
      → (o : Option Term) → term_for_cell t.updates p column ≡ o → sort_of shape (t.rows ++ more) t.params (unwrap_or o (base_term (Cell p column))) ≡ Some u
  named-sorted r p column u known c None e = first-sorted (Cell p column) u (cell-sort shape t.rows t.params p column r u known c)
  named-sorted r p column u known c (Some term) e =
      sorted-term shape t.rows (t.rows ++ more) t.params t.params base_term first-sorted term u
      (cell-term-sort shape t good p column u term (cell-sort shape t.rows t.params p column r u known c) e)

  assigned-sorted : (b : Bulk) → BulkFits shape t b → (n column : ℕ) (u : SortId) → slice_get (t.rows ++ more) n ≡ Some b.relation → IsColumn shape b.relation column u
      → (o : Option Term) → term_for_column b.assigns column ≡ o
      → sort_of shape (t.rows ++ more) t.params (unwrap_or (option_map (replace_term (renumbered_row (length t.rows) n)) o) (base_term (Cell n column))) ≡ Some u
  assigned-sorted b fits n column u here c None e =
      base-sorted shape (t.rows ++ more) t.params (Cell n column) u (cell-sort shape (t.rows ++ more) t.params n column b.relation u here c)
  assigned-sorted b fits n column u here c (Some term) e =
      sorted-term shape (t.rows ++ b.relation ∷ []) (t.rows ++ more) t.params t.params (renumbered_row (length t.rows) n) (renumbered-sorted b.relation n here) term u
      (column-term-sort shape t good b fits column u term
      (cell-sort shape (t.rows ++ b.relation ∷ []) t.params (length t.rows) column b.relation u (slice_at_length t.rows [] b.relation) c) e)

  -- the term of a column of an unnamed row
  unnamed-sorted : (r : RelId) (k : ℕ) (w : CaseChoice) → In w (case_choices_from k [] (cases_of t.bulk r)) → slice_get (t.rows ++ more) k ≡ Some r → (column : ℕ) (u : SortId)
      → IsColumn shape r column u → (o : Option Bulk) → w.takes ≡ o
      → sort_of shape (t.rows ++ more) t.params
      (unwrap_or (option_map (replace_term (renumbered_row (length t.rows) w.number)) (option_and_then (λ (b : Bulk). term_for_column b.assigns column) o)) (base_term (Cell w.number column))) ≡ Some u
  unnamed-sorted r k w i here column u c None e =
      base-sorted shape (t.rows ++ more) t.params (Cell w.number column) u
      (cell-sort shape (t.rows ++ more) t.params w.number column r u (subst (λ j. slice_get (t.rows ++ more) j ≡ Some r) (sym (choice-number k [] (cases_of t.bulk r) w i)) here) c)
  unnamed-sorted r k w i here column u c (Some b) e =
      let f = filter_in (λ (x : Bulk). nat_eq x.relation.n r.n) b t.bulk (choice-case k [] (cases_of t.bulk r) w i b e) in
      let same : r ≡ b.relation = sym (same_relation b.relation r f.1) in
      let at : slice_get (t.rows ++ more) w.number ≡ Some r = subst (λ j. slice_get (t.rows ++ more) j ≡ Some r) (sym (choice-number k [] (cases_of t.bulk r) w i)) here in
      assigned-sorted b (in_all (BulkFits shape t) t.bulk (recursion_from_All (BulkFits shape t) t.bulk good.bulk) b f.0) w.number column u
      (at ∙ ap Some same) (subst (λ (x : RelId). IsColumn shape x column u) same c) (term_for_column b.assigns column) refl

  source-sorted : (n : ℕ) (rows : List RelId) (taken : List ℕ) (m : List (Option ℕ)) (ws : List CaseChoice) → IsMatching t.rows rows taken m
      → AreCaseChoices t.bulk (unmatched n rows m) ws → AreNumbered (t.rows ++ more) (unmatched n rows m)
      → (row : ℕ) (r : RelId) → slice_get rows row ≡ Some r → (column : ℕ) (u : SortId) → IsColumn shape r column u → (other : RowSource)
      → sort_of shape (t.rows ++ more) t.params (source_term (get_or (row_sources t m ws) row other) column) ≡ Some u
  source-sorted n [] taken m ws h c k row r known column u is other = absurd (cc)
  source-sorted n (q ∷ rows) taken [] ws h c k row r known column u is other = absurd h
  source-sorted n (q ∷ rows) taken (Some p ∷ m) ws h c k zero r known column u is other =
      let same : q ≡ r = cc in named-sorted r p column u (h.0.known ∙ ap Some same) is (term_for_cell t.updates p column) refl
  source-sorted n (q ∷ rows) taken (Some p ∷ m) ws h c k (suc row) r known column u is other = source-sorted n rows (p ∷ taken) m ws h.1 c k row r known column u is other
  source-sorted n (q ∷ rows) taken (None ∷ m) [] h c k row r known column u is other = absurd c
  source-sorted n (q ∷ rows) taken (None ∷ m) (w ∷ ws) h c k zero r known column u is other =
      let same : q ≡ r = cc in unnamed-sorted q n w c.0 k.0 column u (subst (λ (x : RelId). IsColumn shape x column u) (sym same) is) w.takes refl
  source-sorted n (q ∷ rows) taken (None ∷ m) (w ∷ ws) h c k (suc row) r known column u is other = source-sorted (n + 1) rows taken m ws h c.1 k.1 row r known column u is other

  -- a base of the formula, and what it was before
  before-sorted : (rows : List RelId) (m : List (Option ℕ)) (ws : List CaseChoice) → IsMatching t.rows rows [] m → AreCaseChoices t.bulk (unmatched (length t.rows) rows m) ws
      → AreNumbered (t.rows ++ more) (unmatched (length t.rows) rows m) → (b : Base) (u : SortId) → sort_of_base shape rows [] b ≡ Some u
      → sort_of shape (t.rows ++ more) t.params (base_before t (row_sources t m ws) b) ≡ Some u
  before-sorted rows m ws h c k (Var x) u known = go (term_for_var t.updates x.n) refl
    where
      go : (o : Option Term) → term_for_var t.updates x.n ≡ o → sort_of shape (t.rows ++ more) t.params (unwrap_or o (base_term (Var x))) ≡ Some u
      go None e = base-sorted shape (t.rows ++ more) t.params (Var x) u known
      go (Some term) e =
          sorted-term shape t.rows (t.rows ++ more) t.params t.params base_term first-sorted term u (var-term-sort shape t good x u term known e)
  before-sorted rows m ws h c k (Cell row column) u known =
      let q = sort-cell shape rows [] row column u known in
      source-sorted (length t.rows) rows [] m ws h c k row q.relation q.known column u q.is_column (record { number = row; term_for = λ _. None })
  before-sorted rows m ws h c k (Constant c2) u known = base-sorted shape (t.rows ++ more) t.params (Constant c2) u known
  before-sorted rows m ws h c k (Undef q) u known = base-sorted shape (t.rows ++ more) t.params (Undef q) u known
  before-sorted rows m ws h c k (Param p) u known = absurd (cc)

-- each problem of the list fits
pub preimage-fits : (shape : ShapeParts) (t : Transition) (cube p : Problem) → IsTransition shape t → Fits shape cube → IsCube cube → In p (preimage t cube) → Fits shape p
preimage-fits shape t cube p good fit flat i =
    let comb = preimage-is t cube p i in
    let us : List (ℕ × RelId) = unmatched (length t.rows) cube.rows comb.m in
    let more : List RelId = rest_of us in
    let Fit : Literal → Type 0 = LiteralFits shape (t.rows ++ more) t.params in
    let known : AreNumbered (t.rows ++ more) us = numbered (length t.rows) cube.rows comb.m t.rows refl in
    let lits : AllByRecursion (LiteralFits shape cube.rows []) cube.literals =
    recursion_from_All (LiteralFits shape cube.rows []) cube.literals (subst (λ (q : List SortId). All (LiteralFits shape cube.rows q) cube.literals) flat.none fit.literals) in
    let of_guard : AllByRecursion (LiteralFits shape t.rows t.params) comb.disjunct =
    recursion_from_All (LiteralFits shape t.rows t.params) comb.disjunct
    (in_all (All (LiteralFits shape t.rows t.params)) t.guard (recursion_from_All (All (LiteralFits shape t.rows t.params)) t.guard good.guard) comb.disjunct comb.in_guard) in
    let of_disjunct : AllByRecursion Fit comb.disjunct =
    subst (AllByRecursion Fit) (unreplaced comb.disjunct)
    (fit-before shape t.rows (t.rows ++ more) t.params t.params base_term (first-sorted shape t good more) comb.disjunct of_guard) in
    let of_ways = ways-fit shape t good more us comb.ways comb.choices known in
    let of_cube = fit-before shape cube.rows (t.rows ++ more) [] t.params (base_before t (row_sources t comb.m comb.ways))
    (before-sorted shape t good more cube.rows comb.m comb.ways comb.matching comb.choices known) cube.literals lits in
    let way_literals : List Literal = flat_map (λ (w : CaseChoice). map (replace (renumbered_row (length t.rows) w.number)) w.literals) comb.ways in
    let of_cube_literals : List Literal = map (replace (base_before t (row_sources t comb.m comb.ways))) cube.literals in
    subst (Fits shape) comb.problem (record {
      rows = All-from_recursion (IsRelation shape) (t.rows ++ more)
          (all-append (IsRelation shape) t.rows more (recursion_from_All (IsRelation shape) t.rows good.rows)
          (rest-known (IsRelation shape) (length t.rows) cube.rows comb.m (recursion_from_All (IsRelation shape) cube.rows fit.rows)));
      params = good.params;
      literals = All-from_recursion Fit ((comb.disjunct ++ way_literals) ++ of_cube_literals)
          (all-append Fit (comb.disjunct ++ way_literals) of_cube_literals (all-append Fit comb.disjunct way_literals of_disjunct of_ways) of_cube);
    })
