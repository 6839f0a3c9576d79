-- What the bases of a formula were before a step: each has, before the step, the value that it has after it.
use Rattle.std.proofs.Common.{◌≡◌, ℕ, zero, suc, ◌+◌, ◌<◌, Bool, true, false, nat_eq, List, [], ◌∷◌, ◌++◌, map, length, get_or, refl, sym, ◌∙◌, ap, subst, arith, slice_get, Option, Some, None, option_map, option_and_then, find, flat_map, All, zero-add, append_assoc}
use Rattle.std.specs.Prelude.{⊤, unwrap_or}
use Rattle.std.specs.List.{AllByRecursion, enumerate_from, list_all}
use Rattle.std.specs.Option.{option_map_or}
use Rattle.std.proofs.lemmas.Option.{slice_get_within, get_or_from_slice_get}
use Rattle.std.proofs.lemmas.List.{get_or-map, length-map, get_or_append_left, get_or_push, get_or_at, length_push}
use Rattle.std.proofs.lemmas.List.FromFn.{get_or-enumerate_from, length-enumerate_from}
use Rattle.std.proofs.lemmas.List.Elements.{All-contains, recursion_from_All}
use Rattle.std.proofs.lemmas.Bool.{eqb-true, eq-eqb, and_parts}
use Rattle.ras_logic.specs.declared.ids.SortId.{SortId}
use Rattle.ras_logic.specs.declared.ids.RelId.{RelId}
use Rattle.ras_logic.specs.declared.raw_db.RawDb.{RawDb}
use Rattle.ras_logic.specs.declared.values.Values.{Values}
use Rattle.ras_logic.specs.declared.term.Base.{Base}
use Rattle.ras_logic.specs.declared.term.Base.TheVariants.{Var, Cell, Constant, Undef, Param}
use Rattle.ras_logic.specs.declared.term.Term.{Term}
use Rattle.ras_logic.specs.declared.literal.Literal.{Literal}
use Rattle.ras_logic.specs.Shapes.{ShapeParts, IsRelation}
use Rattle.ras_logic.specs.Terms.{base_term, sort_of_base, replace_term}
use Rattle.ras_logic.specs.Formulas.{LiteralFits, replace}
use Rattle.ras_logic.specs.Truth.{holds, value, value_of_base}
use Rattle.ras_logic.proofs.TermSorts.{and_then_through}
use Rattle.ras_system.specs.declared.state.State.{State}
use Rattle.ras_system.specs.declared.choice.Choice.{Choice}
use Rattle.ras_system.specs.declared.bulk.Bulk.{Bulk}
use Rattle.ras_system.specs.declared.transition.Transition.{Transition}
use Rattle.ras_system.specs.States.{IsState, rows_of, cells_of, values_at}
use Rattle.ras_system.specs.Steps.{term_for_var, term_for_cell, term_for_column, written, with_row, named_from, takes, unnamed_row, row_after, state_after}
use Rattle.ras_system.specs.Systems.{BulkFits, IsTransition}
use Rattle.ras_system.specs.Preimages.{renumbered_row, CaseChoice, RowSource, source_of_choice, row_sources, base_before}
use Rattle.ras_system.proofs.Soundness.{find-element, written-at}
use Rattle.ras_backwards.proofs.Lists.{all_of_each, filter_in, in_all, all-append, all-parts, slice_at_length}
use Rattle.ras_backwards.proofs.ChosenRows.{AreChosen, chosen-length, cells-at, length-cells, named-some, same_relation}
use Rattle.ras_backwards.proofs.Replaced.{negated-truth, negated-fits, same-term, hold-before, hold-after}
use Rattle.ras_backwards.proofs.Cases.{find_both, passes, taken-first, first-taken, choice-number, choice-fit}
use Rattle.ras_backwards.proofs.Combinations.{cases_of}
use Rattle.ras_backwards.proofs.Links.{Link, named, unnamed, relations, numbers, matching, ways, more_relations, more_numbers, ArePlaced}
use Rattle.ras_backwards.proofs.Assigned.{var-term-sort, cell-term-sort, column-term-sort}

-- an element of a list that is made place by place
numbered-at : {A B : Type 0} (g : ℕ × A → B) (xs : List A) (k : ℕ) (d : A) (e : B) → k < length xs → get_or (map g (enumerate_from 0 xs)) k e ≡ g (k, get_or xs k d)
numbered-at g xs k d e lt =
    let within : k < length (enumerate_from 0 xs) = rw (length-enumerate_from 0 xs) lt in
    get_or-map g (enumerate_from 0 xs) k (0, d) e within ∙ rw (get_or-enumerate_from 0 xs k (0, d) lt, zero-add)

length-numbered : {A B : Type 0} (g : ℕ × A → B) (xs : List A) → length (map g (enumerate_from 0 xs)) ≡ length xs
length-numbered g xs = length-map (enumerate_from 0 xs) g ∙ length-enumerate_from 0 xs

-- a column of a relation, and its sort
pub record IsColumn (shape : ShapeParts) (r : RelId) (column : ℕ) (sort : SortId) : Type 0 where
  pub columns : List SortId
  pub columns_are : slice_get shape.relations r.n ≡ Some columns
  pub known : slice_get columns column ≡ Some sort

pub cell-sort : (shape : ShapeParts) (rows : List RelId) (params : List SortId) (row column : ℕ) (r : RelId) (s : SortId) → slice_get rows row ≡ Some r
    → IsColumn shape r column s → sort_of_base shape rows params (Cell row column) ≡ Some s
cell-sort shape rows params row column r s known c = rw (known, c.columns_are) c.known

pub record IsCell (shape : ShapeParts) (rows : List RelId) (row column : ℕ) (sort : SortId) : Type 0 where
  pub relation : RelId
  pub known : slice_get rows row ≡ Some relation
  pub is_column : IsColumn shape relation column sort

pub sort-cell : (shape : ShapeParts) (rows : List RelId) (params : List SortId) (row column : ℕ) (s : SortId) → sort_of_base shape rows params (Cell row column) ≡ Some s
    → IsCell shape rows row column s
sort-cell shape rows params row column s h =
    let t = and_then_through (λ (r : RelId). option_and_then (λ (columns : List SortId). slice_get columns column) (slice_get shape.relations r.n)) (slice_get rows row) s h in
    let u = and_then_through (λ (columns : List SortId). slice_get columns column) (slice_get shape.relations t.mid.n) s t.second in
    record { relation = t.mid; known = t.first; is_column = record { columns = u.mid; columns_are = u.first; known = u.second } }

-- the conditions of the cases of a relation, under the row parameters and a row of it
pub cases-fit : (shape : ShapeParts) (t : Transition) (r : RelId) → All (BulkFits shape t) t.bulk
    → AllByRecursion (λ (b : Bulk). AllByRecursion (LiteralFits shape (t.rows ++ r ∷ []) t.params) b.condition) (cases_of t.bulk r)
cases-fit shape t r fits = all_of_each (λ (b : Bulk). AllByRecursion (LiteralFits shape (t.rows ++ r ∷ []) t.params) b.condition) (cases_of t.bulk r) (λ b i.
    let f = filter_in (λ (c : Bulk). nat_eq c.relation.n r.n) b t.bulk i in
    let good = in_all (BulkFits shape t) t.bulk (recursion_from_All (BulkFits shape t) t.bulk fits) b f.0 in
    subst (λ (q : RelId). AllByRecursion (LiteralFits shape (t.rows ++ q ∷ []) t.params) b.condition) (same_relation b.relation r f.1)
    (recursion_from_All (LiteralFits shape (t.rows ++ b.relation ∷ []) t.params) b.condition good.condition))

-- the term of a column of a source
abbrev pub source_term : RowSource → ℕ → Term
source_term source column = unwrap_or (source.term_for column) (base_term (Cell source.number column))

module _ (shape : ShapeParts) (d : RawDb) (t : Transition) (good : IsTransition shape t) (s : State) (st : IsState shape d s)
    (chosen : List ℕ) (are : AreChosen s t.rows chosen) (params : List ℕ) where
  -- the values of the step, and with the cells of more rows
  abbrev pub step_values : Values
  step_values = values_at s t.rows chosen params

  abbrev pub extended : List (List ℕ) → Values
  extended more = record { vars = s.vars; rows = cells_of s t.rows chosen ++ more; params = params }

  abbrev pub cells : RelId → ℕ → List ℕ
  cells r k = get_or (rows_of s r) k []

  long : length (cells_of s t.rows chosen) ≡ length t.rows
  long = length-cells s t.rows chosen (chosen-length s t.rows chosen are)

  first-row : (more : List (List ℕ)) (row : ℕ) → row < length t.rows → get_or (cells_of s t.rows chosen ++ more) row [] ≡ get_or (cells_of s t.rows chosen) row []
  first-row more row lt = get_or_append_left (cells_of s t.rows chosen) more [] row (let l = long in omega (arith, l, lt))

  pub extended-base : (more : List (List ℕ)) (b : Base) (u : SortId) → sort_of_base shape t.rows t.params b ≡ Some u → value d (extended more) (base_term b) ≡ value_of_base d step_values b
  extended-base more (Var x) u h = refl
  extended-base more (Cell row column) u h =
      let c = sort-cell shape t.rows t.params row column u h in
      ap (λ (l : List ℕ). get_or l column 0) (first-row more row (slice_get_within t.rows row c.relation c.known))
  extended-base more (Constant c) u h = refl
  extended-base more (Undef q) u h = refl
  extended-base more (Param p) u h = refl

  -- the updated row of a case, under its number in the problem
  pub renumbered-base : (more : List (List ℕ)) (r : RelId) (row_cells : List ℕ) (n : ℕ) → get_or (cells_of s t.rows chosen ++ more) n [] ≡ row_cells
      → (b : Base) (u : SortId) → sort_of_base shape (t.rows ++ r ∷ []) t.params b ≡ Some u
      → value d (extended more) (renumbered_row (length t.rows) n b) ≡ value_of_base d (with_row step_values row_cells) b
  renumbered-base more r row_cells n seen (Var x) u h = refl
  renumbered-base more r row_cells n seen (Cell row column) u h = go (nat_eq row (length t.rows)) refl
    where
      go : (b : Bool) → nat_eq row (length t.rows) ≡ b → value d (extended more) (elim b [ true ↦ base_term (Cell n column) | false ↦ base_term (Cell row column) ])
          ≡ get_or (get_or (cells_of s t.rows chosen ++ row_cells ∷ []) row []) column 0
      go true e =
          let at : length (cells_of s t.rows chosen) ≡ row = long ∙ sym (eqb-true row (length t.rows) e) in
          ap (λ (l : List ℕ). get_or l column 0) (seen ∙ sym (get_or_push (cells_of s t.rows chosen) row_cells [] row at))
      go false e =
          let c = sort-cell shape (t.rows ++ r ∷ []) t.params row column u h in
          let other : row ≡ length t.rows → ⊥ = λ q. let is : nat_eq row (length t.rows) ≡ true = eq-eqb row (length t.rows) q in absurd (cc) in
          let within : row < length t.rows + 1 = rw (← length_push t.rows r) (slice_get_within (t.rows ++ r ∷ []) row c.relation c.known) in
          let lt : row < length t.rows = omega (arith, other, within) in
          ap (λ (l : List ℕ). get_or l column 0) (first-row more row lt ∙ sym (first-row (row_cells ∷ []) row lt))
  renumbered-base more r row_cells n seen (Constant c) u h = refl
  renumbered-base more r row_cells n seen (Undef q) u h = refl
  renumbered-base more r row_cells n seen (Param p) u h = refl

  column-within : (r : RelId) (k column : ℕ) (u : SortId) → IsColumn shape r column u → k < length (rows_of s r) → column < length (cells r k)
  column-within r k column u c lt =
      let relation : r.n < length shape.relations = slice_get_within shape.relations r.n c.columns c.columns_are in
      let row = st.rows r relation k [] lt in
      let wide : length (cells r k) ≡ length c.columns = row.as_many ∙ ap length (get_or_from_slice_get shape.relations r.n c.columns [] c.columns_are) in
      let within = slice_get_within c.columns column u c.known in omega (arith, wide, within)

  -- a cell of a row that is named
  named-cell : (more : List (List ℕ)) (r : RelId) (k p column : ℕ) (u : SortId) → IsColumn shape r column u → named_from 0 t.rows chosen r.n k ≡ Some p
      → k < length (rows_of s r)
      → value d (extended more) (source_term (record { number = p; term_for = term_for_cell t.updates p }) column) ≡ get_or (row_after d step_values t chosen r.n k (cells r k)) column 0
  named-cell more r k p column u c name lt =
      let m = named-some 0 t.rows chosen r k p name in
      let at : m.offset ≡ p = (let a = m.place in omega (arith, a)) in
      let known : slice_get t.rows p ≡ Some r = subst (λ i. slice_get t.rows i ≡ Some r) at m.known in
      let row : get_or chosen p 0 ≡ k = subst (λ i. get_or chosen i 0 ≡ k) at m.row in
      let old : get_or (cells_of s t.rows chosen ++ more) p [] ≡ cells r k =
      first-row more p (slice_get_within t.rows p r known) ∙ cells-at s t.rows chosen p r (chosen-length s t.rows chosen are) known ∙ ap (cells r) row in
      go (term_for_cell t.updates p column) refl known old
      ∙ sym (ap (λ (o : Option ℕ). get_or (option_map_or (λ (q : ℕ). written d step_values (term_for_cell t.updates q) (cells r k)) o (unnamed_row d step_values t.bulk r.n (cells r k))) column 0) name
      ∙ written-at d step_values (term_for_cell t.updates p) (cells r k) column (column-within r k column u c lt))
    where
      go : (o : Option Term) → term_for_cell t.updates p column ≡ o → slice_get t.rows p ≡ Some r → get_or (cells_of s t.rows chosen ++ more) p [] ≡ cells r k
          → value d (extended more) (unwrap_or o (base_term (Cell p column))) ≡ option_map_or (value d step_values) o (get_or (cells r k) column 0)
      go None e known old = ap (λ (l : List ℕ). get_or l column 0) old
      go (Some term) e known old =
          same-term shape t.rows t.params d (extended more) step_values base_term (extended-base more) term u
          (cell-term-sort shape t good p column u term (cell-sort shape t.rows t.params p column r u known c) e)

  -- a cell of a row that is not named
  unnamed-cell : (more : List (List ℕ)) (r : RelId) (k : ℕ) (w : CaseChoice) (column : ℕ) (u : SortId) → IsColumn shape r column u → named_from 0 t.rows chosen r.n k ≡ None
      → k < length (rows_of s r) → find (takes d step_values r.n (cells r k)) t.bulk ≡ w.takes → get_or (cells_of s t.rows chosen ++ more) w.number [] ≡ cells r k
      → value d (extended more) (source_term (source_of_choice (length t.rows) w) column) ≡ get_or (row_after d step_values t chosen r.n k (cells r k)) column 0
  unnamed-cell more r k w column u c name lt taken seen =
      go w.takes taken
      ∙ sym (ap (λ (o : Option ℕ). get_or (option_map_or (λ (q : ℕ). written d step_values (term_for_cell t.updates q) (cells r k)) o (unnamed_row d step_values t.bulk r.n (cells r k))) column 0) name
      ∙ ap (λ (o : Option Bulk). get_or (option_map_or (λ (b : Bulk). written d (with_row step_values (cells r k)) (term_for_column b.assigns) (cells r k)) o (cells r k)) column 0) taken)
    where
      assigned : (b : Bulk) → BulkFits shape t b → b.relation ≡ r → (o : Option Term) → term_for_column b.assigns column ≡ o
          → value d (extended more) (unwrap_or (option_map (replace_term (renumbered_row (length t.rows) w.number)) o) (base_term (Cell w.number column)))
          ≡ option_map_or (value d (with_row step_values (cells r k))) o (get_or (cells r k) column 0)
      assigned b fits same None e = ap (λ (l : List ℕ). get_or l column 0) seen
      assigned b fits same (Some term) e =
          same-term shape (t.rows ++ b.relation ∷ []) t.params d (extended more) (with_row step_values (cells r k)) (renumbered_row (length t.rows) w.number)
          (renumbered-base more b.relation (cells r k) w.number seen) term u
          (column-term-sort shape t good b fits column u term
          (cell-sort shape (t.rows ++ b.relation ∷ []) t.params (length t.rows) column b.relation u (slice_at_length t.rows [] b.relation)
          (subst (λ (q : RelId). IsColumn shape q column u) (sym same) c)) e)

      go : (o : Option Bulk) → find (takes d step_values r.n (cells r k)) t.bulk ≡ o
          → value d (extended more) (unwrap_or (option_map (replace_term (renumbered_row (length t.rows) w.number)) (option_and_then (λ (b : Bulk). term_for_column b.assigns column) o)) (base_term (Cell w.number column)))
          ≡ get_or (option_map_or (λ (b : Bulk). written d (with_row step_values (cells r k)) (term_for_column b.assigns) (cells r k)) o (cells r k)) column 0
      go None e = ap (λ (l : List ℕ). get_or l column 0) seen
      go (Some b) e =
          let f = find-element (takes d step_values r.n (cells r k)) t.bulk b e in
          let same = same_relation b.relation r (and_parts (nat_eq b.relation.n r.n) (list_all (holds d (with_row step_values (cells r k))) b.condition) f.1).0 in
          assigned b (All-contains (BulkFits shape t) t.bulk b good.bulk f.0) same (term_for_column b.assigns column) refl
          ∙ sym (written-at d (with_row step_values (cells r k)) (term_for_column b.assigns) (cells r k) column (column-within r k column u c lt))

  -- the number of each unnamed row in the problem is that of its cells
  abbrev pub AreSeen : List (List ℕ) → List Link → Type 0
  AreSeen rows [] = ⊤
  AreSeen rows (named r k p ∷ ls) = AreSeen rows ls
  AreSeen rows (unnamed r k w ∷ ls) = (get_or rows w.number [] ≡ cells r k) × AreSeen rows ls

  pub placed-seen : (n : ℕ) (ls : List Link) (before : List (List ℕ)) → length before ≡ n → ArePlaced t.rows chosen t.bulk n ls
      → AreSeen (before ++ cells_of s (more_relations ls) (more_numbers ls)) ls
  placed-seen n [] before at h = tt
  placed-seen n (named r k p ∷ ls) before at h = placed-seen n ls before at h.1
  placed-seen n (unnamed r k w ∷ ls) before at h =
      let rest : List (List ℕ) = cells_of s (more_relations ls) (more_numbers ls) in (
        ap (λ i. get_or (before ++ cells r k ∷ rest) i []) (choice-number n [] (cases_of t.bulk r) w h.1) ∙ get_or_at before (cells r k) rest [] n at,
        subst (λ l. AreSeen l ls) (append_assoc before (cells r k ∷ []) rest) (placed-seen (n + 1) ls (before ++ cells r k ∷ []) (length_push before (cells r k) ∙ ap (λ i. i + 1) at) h.2),
      )

  -- the case of each unnamed row is the one that it takes
  abbrev pub AreTaken : List Link → Type 0
  AreTaken [] = ⊤
  AreTaken (named r k p ∷ ls) = AreTaken ls
  AreTaken (unnamed r k w ∷ ls) = (find (takes d step_values r.n (cells r k)) t.bulk ≡ w.takes) × AreTaken ls

  -- the literals of each choice hold of its row
  abbrev pub AreTrue : List Link → Type 0
  AreTrue [] = ⊤
  AreTrue (named r k p ∷ ls) = AreTrue ls
  AreTrue (unnamed r k w ∷ ls) = AllByRecursion (λ l. holds d (with_row step_values (cells r k)) l ≡ true) w.literals × AreTrue ls

  pub true-taken : (n : ℕ) (ls : List Link) → ArePlaced t.rows chosen t.bulk n ls → AreTrue ls → AreTaken ls
  true-taken n [] h e = tt
  true-taken n (named r k p ∷ ls) h e = true-taken n ls h.1 e
  true-taken n (unnamed r k w ∷ ls) h e = (
    find_both (λ (b : Bulk). nat_eq b.relation.n r.n) (passes (holds d (with_row step_values (cells r k)))) t.bulk
        ∙ taken-first (holds d (with_row step_values (cells r k))) (negated-truth d (with_row step_values (cells r k))) n [] (cases_of t.bulk r) w h.1 e.0,
    true-taken (n + 1) ls h.2 e.1,
  )

  -- the literals of the choices, in the problem
  abbrev pub way_literals : List CaseChoice → List Literal
  way_literals ws = flat_map (λ (w : CaseChoice). map (replace (renumbered_row (length t.rows) w.number)) w.literals) ws

  pub ways-before : (more : List (List ℕ)) (n : ℕ) (ls : List Link) → ArePlaced t.rows chosen t.bulk n ls → AreSeen (cells_of s t.rows chosen ++ more) ls → AreTrue ls
      → AllByRecursion (λ l. holds d (extended more) l ≡ true) (way_literals (ways ls))
  ways-before more n [] h seen e = tt
  ways-before more n (named r k p ∷ ls) h seen e = ways-before more n ls h.1 seen e
  ways-before more n (unnamed r k w ∷ ls) h seen e =
      all-append (λ l. holds d (extended more) l ≡ true) (map (replace (renumbered_row (length t.rows) w.number)) w.literals) (way_literals (ways ls))
      (hold-before shape (t.rows ++ r ∷ []) t.params d (extended more) (with_row step_values (cells r k)) (renumbered_row (length t.rows) w.number)
      (renumbered-base more r (cells r k) w.number seen.0) w.literals
      (choice-fit (LiteralFits shape (t.rows ++ r ∷ []) t.params) (negated-fits shape (t.rows ++ r ∷ []) t.params) n [] (cases_of t.bulk r) tt (cases-fit shape t r good.bulk) w h.1) e.0)
      (ways-before more (n + 1) ls h.2 seen.1 e.1)

  pub ways-after : (more : List (List ℕ)) (n : ℕ) (ls : List Link) → ArePlaced t.rows chosen t.bulk n ls → AreSeen (cells_of s t.rows chosen ++ more) ls
      → AllByRecursion (λ l. holds d (extended more) l ≡ true) (way_literals (ways ls)) → AreTrue ls
  ways-after more n [] h seen e = tt
  ways-after more n (named r k p ∷ ls) h seen e = ways-after more n ls h.1 seen e
  ways-after more n (unnamed r k w ∷ ls) h seen e =
      let b = all-parts (λ l. holds d (extended more) l ≡ true) (map (replace (renumbered_row (length t.rows) w.number)) w.literals) (way_literals (ways ls)) e in (
        hold-after shape (t.rows ++ r ∷ []) t.params d (extended more) (with_row step_values (cells r k)) (renumbered_row (length t.rows) w.number)
            (renumbered-base more r (cells r k) w.number seen.0) w.literals
            (choice-fit (LiteralFits shape (t.rows ++ r ∷ []) t.params) (negated-fits shape (t.rows ++ r ∷ []) t.params) n [] (cases_of t.bulk r) tt (cases-fit shape t r good.bulk) w h.1) b.0,
        ways-after more (n + 1) ls h.2 seen.1 b.1,
      )

  -- the links of rows, as the step takes them
  pub record AreMade (n : ℕ) (rows : List RelId) (ks : List ℕ) : Type 0 where
    pub links : List Link
    pub relations_are : relations links ≡ rows
    pub numbers_are : numbers links ≡ ks
    pub placed : ArePlaced t.rows chosen t.bulk n links
    pub hold : AreTrue links

  pub make : (n : ℕ) (rows : List RelId) (ks : List ℕ) → length ks ≡ length rows → AreMade n rows ks
  make n [] [] at = record { links = []; relations_are = refl; numbers_are = refl; placed = tt; hold = tt }
  make n [] (k ∷ ks) at = absurd (omega (arith, at))
  make n (r ∷ rows) [] at = absurd (omega (arith, at))
  make n (r ∷ rows) (k ∷ ks) at = go (named_from 0 t.rows chosen r.n k) refl (make n rows ks (omega (arith, at))) (make (n + 1) rows ks (omega (arith, at)))
    where
      go : (o : Option ℕ) → named_from 0 t.rows chosen r.n k ≡ o → AreMade n rows ks → AreMade (n + 1) rows ks → AreMade n (r ∷ rows) (k ∷ ks)
      go (Some p) e here next = record {
        links = named r k p ∷ here.links;
        relations_are = ap (λ l. r ∷ l) here.relations_are;
        numbers_are = ap (λ l. k ∷ l) here.numbers_are;
        placed = (e, here.placed);
        hold = here.hold;
      }
      go None e here next =
          let c = first-taken (holds d (with_row step_values (cells r k))) (negated-truth d (with_row step_values (cells r k))) n [] (cases_of t.bulk r) tt in
          record {
            links = unnamed r k c.way ∷ next.links;
            relations_are = ap (λ l. r ∷ l) next.relations_are;
            numbers_are = ap (λ l. k ∷ l) next.numbers_are;
            placed = (e, c.listed, next.placed);
            hold = (c.hold, next.hold);
          }

  module _ (number : ℕ) where
    abbrev pub choice : Choice
    choice = record { transition = number; rows = chosen; values = params }

    abbrev pub after : State
    after = state_after d t s choice

    pub length-after : (r : RelId) → IsRelation shape r → length (rows_of after r) ≡ length (rows_of s r)
    length-after r relation =
        let lt : r.n < length s.relations = rw st.as_many relation in
        ap length (numbered-at (λ (q : ℕ × List (List ℕ)). map (λ (p : ℕ × List ℕ). row_after d step_values t chosen q.0 p.0 p.1) (enumerate_from 0 q.1)) s.relations r.n [] [] lt)
        ∙ length-numbered (λ (p : ℕ × List ℕ). row_after d step_values t chosen r.n p.0 p.1) (rows_of s r)

    new-row : (r : RelId) (k : ℕ) → IsRelation shape r → k < length (rows_of s r) → get_or (rows_of after r) k [] ≡ row_after d step_values t chosen r.n k (cells r k)
    new-row r k relation within =
        let lt : r.n < length s.relations = rw st.as_many relation in
        ap (λ (rows : List (List ℕ)). get_or rows k [])
        (numbered-at (λ (q : ℕ × List (List ℕ)). map (λ (p : ℕ × List ℕ). row_after d step_values t chosen q.0 p.0 p.1) (enumerate_from 0 q.1)) s.relations r.n [] [] lt)
        ∙ numbered-at (λ (p : ℕ × List ℕ). row_after d step_values t chosen r.n p.0 p.1) (rows_of s r) k [] [] within

    module _ (more : List (List ℕ)) where
      cell-after : (n : ℕ) (ls : List Link) → ArePlaced t.rows chosen t.bulk n ls → AreSeen (cells_of s t.rows chosen ++ more) ls → AreTaken ls → AreChosen s (relations ls) (numbers ls)
          → (row : ℕ) (r : RelId) → slice_get (relations ls) row ≡ Some r → (column : ℕ) (u : SortId) → IsColumn shape r column u → (other : RowSource)
          → value d (extended more) (source_term (get_or (row_sources t (matching ls) (ways ls)) row other) column) ≡ get_or (get_or (cells_of after (relations ls) (numbers ls)) row []) column 0
      cell-after n [] h seen taken rows row r known column u c other = absurd (cc)
      cell-after n (named q k p ∷ ls) h seen taken rows zero r known column u c other =
          let same : q ≡ r = cc in
          let d_column : IsColumn shape q column u = subst (λ (x : RelId). IsColumn shape x column u) (sym same) c in
          let relation : IsRelation shape q = slice_get_within shape.relations q.n d_column.columns d_column.columns_are in
          named-cell more q k p column u d_column h.0 rows.0 ∙ ap (λ (l : List ℕ). get_or l column 0) (sym (new-row q k relation rows.0))
      cell-after n (named q k p ∷ ls) h seen taken rows (suc row) r known column u c other = cell-after n ls h.1 seen taken rows.2 row r known column u c other
      cell-after n (unnamed q k w ∷ ls) h seen taken rows zero r known column u c other =
          let same : q ≡ r = cc in
          let d_column : IsColumn shape q column u = subst (λ (x : RelId). IsColumn shape x column u) (sym same) c in
          let relation : IsRelation shape q = slice_get_within shape.relations q.n d_column.columns d_column.columns_are in
          unnamed-cell more q k w column u d_column h.0 rows.0 taken.0 seen.0 ∙ ap (λ (l : List ℕ). get_or l column 0) (sym (new-row q k relation rows.0))
      cell-after n (unnamed q k w ∷ ls) h seen taken rows (suc row) r known column u c other = cell-after (n + 1) ls h.2 seen.1 taken.1 rows.2 row r known column u c other

      -- a base of the formula, read after the step, and what it was before
      pub base-after : (n : ℕ) (ls : List Link) → ArePlaced t.rows chosen t.bulk n ls → AreSeen (cells_of s t.rows chosen ++ more) ls → AreTaken ls → AreChosen s (relations ls) (numbers ls)
          → (b : Base) (u : SortId) → sort_of_base shape (relations ls) [] b ≡ Some u
          → value d (extended more) (base_before t (row_sources t (matching ls) (ways ls)) b) ≡ value_of_base d (values_at after (relations ls) (numbers ls) []) b
      base-after n ls h seen taken rows (Var x) u known =
          let lt : x.n < length s.vars = rw st.vars.as_many (slice_get_within shape.vars x.n u known) in
          go (term_for_var t.updates x.n) refl ∙ sym (written-at d step_values (term_for_var t.updates) s.vars x.n lt)
        where
          go : (o : Option Term) → term_for_var t.updates x.n ≡ o
              → value d (extended more) (unwrap_or o (base_term (Var x))) ≡ option_map_or (value d step_values) o (get_or s.vars x.n 0)
          go None e = refl
          go (Some term) e =
              same-term shape t.rows t.params d (extended more) step_values base_term (extended-base more) term u (var-term-sort shape t good x u term known e)
      base-after n ls h seen taken rows (Cell row column) u known =
          let c = sort-cell shape (relations ls) [] row column u known in
          cell-after n ls h seen taken rows row c.relation c.known column u c.is_column (record { number = row; term_for = λ _. None })
      base-after n ls h seen taken rows (Constant c) u known = refl
      base-after n ls h seen taken rows (Undef q) u known = refl
      base-after n ls h seen taken rows (Param p) u known = absurd (cc)
