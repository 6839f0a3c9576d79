-- A step leads from a state to a state.
use Rattle.std.proofs.Common.{◌≡◌, ℕ, zero, suc, ◌+◌, ◌<◌, Bool, true, false, ◌&&◌, List, [], ◌∷◌, ◌++◌, map, length, get_or, nat_eq, refl, sym, ◌∙◌, ap, subst, arith, zero-add, length-append}
use Rattle.std.specs.Prelude.{slice_get, Option, Some, None, option_map, All, Contains, find}
use Rattle.std.specs.List.{enumerate_from, list_all}
use Rattle.std.specs.Option.{option_map_or}
use Rattle.std.proofs.lemmas.Option.{slice_get_within, get_or_from_slice_get, slice_get-get_or}
use Rattle.std.proofs.lemmas.List.{get_or-map, length-map}
use Rattle.std.proofs.lemmas.List.FromFn.{get_or-enumerate_from, length-enumerate_from}
use Rattle.std.proofs.lemmas.List.Elements.{All-contains, All-map, All-get_or}
use Rattle.std.proofs.lemmas.Bool.{eqb-true, and_parts}
use Rattle.ras_logic.specs.declared.ids.SortId.{SortId}
use Rattle.ras_logic.specs.declared.ids.RelId.{RelId}
use Rattle.ras_logic.specs.declared.raw_db.RawDb.{RawDb}
use Rattle.ras_logic.specs.declared.values.Values.{Values}
use Rattle.ras_logic.specs.declared.term.Base.{Base}
use Rattle.ras_logic.specs.declared.term.Base.TheVariants as base
use Rattle.ras_logic.specs.declared.literal.Literal.TheVariants.{Equal}
use Rattle.ras_logic.specs.declared.term.Term.{Term}
use Rattle.ras_logic.specs.Shapes.{ShapeParts}
use Rattle.ras_logic.specs.Databases.{IsDatabase, IsElement}
use Rattle.ras_logic.specs.Terms.{sort_of, sort_of_base, sort_along}
use Rattle.ras_logic.specs.Formulas.{LiteralFits}
use Rattle.ras_logic.specs.Truth.{AreElements, AreValues, IsRow, value, holds}
use Rattle.ras_logic.proofs.TermSorts.{and_then_through, value-element}
use Rattle.ras_system.specs.declared.state.State.{State}
use Rattle.ras_system.specs.declared.choice.Choice.{Choice}
use Rattle.ras_system.specs.declared.update.Target.{Target}
use Rattle.ras_system.specs.declared.update.Target.TheVariants.{Var, Cell}
use Rattle.ras_system.specs.declared.update.Update.{Update}
use Rattle.ras_system.specs.declared.bulk.Assign.{Assign}
use Rattle.ras_system.specs.declared.bulk.Bulk.{Bulk}
use Rattle.ras_system.specs.declared.transition.Transition.{Transition}
use Rattle.ras_system.specs.States.{IsState, AreRows, rows_of, cells_of, values_at}
use Rattle.ras_system.specs.Steps.{is_var, is_cell, term_for_var, term_for_cell, term_for_column, written, with_row, named_from, takes, unnamed_row, row_after, state_after}
use Rattle.ras_system.specs.Systems.{UpdateFits, BulkFits, IsTransition, target_term}
use Rattle.ras_logic.proofs.Clashes.{from_known}
use Rattle.ras_system.proofs.Soundness.{find-element, All-enumerate}

-- an element of a list that is made place by place
numbered-at : {A B : Type 0} (g : ℕ × A → B) (xs : List A) (k : ℕ) (d : A) (e : B) → k < length xs → get_or (map g (enumerate_from 0 xs)) k e ≡ g (k, get_or xs k d)
numbered-at g xs k d e lt =
    let within : k < length (enumerate_from 0 xs) = rw (length-enumerate_from 0 xs) lt in
    get_or-map g (enumerate_from 0 xs) k (0, d) e within ∙ rw (get_or-enumerate_from 0 xs k (0, d) lt, zero-add)

length-numbered : {A B : Type 0} (g : ℕ × A → B) (xs : List A) → length (map g (enumerate_from 0 xs)) ≡ length xs
length-numbered g xs = length-map (enumerate_from 0 xs) g ∙ length-enumerate_from 0 xs

-- what a partial map found
record Found {A : Type 0} (f : A → Term) (p : A → Bool) (xs : List A) (t : Term) : Type 0 where
  item : A
  inside : Contains xs item
  passes : p item ≡ true
  term : f item ≡ t

found : {A : Type 0} (f : A → Term) (p : A → Bool) (xs : List A) (t : Term) → option_map f (find p xs) ≡ Some t → Found f p xs t
found f p xs t h = go (find p xs) refl h
  where
    go : (o : Option _) → find p xs ≡ o → option_map f o ≡ Some t → Found f p xs t
    go None e k = absurd (cc)
    go (Some x) e k = let r = find-element p xs x e in record { item = x; inside = r.0; passes = r.1; term = cc }

cells-at : (s : State) (relations : List RelId) (chosen : List ℕ) (k : ℕ) (r : RelId) → length chosen ≡ length relations → slice_get relations k ≡ Some r
    → get_or (cells_of s relations chosen) k [] ≡ get_or (rows_of s r) (get_or chosen k 0) []
cells-at s [] chosen k r e h = absurd (cc)
cells-at s (q ∷ relations) [] k r e h = absurd (omega (arith, e))
cells-at s (q ∷ relations) (c ∷ chosen) zero r e h = let same : q ≡ r = cc in rw same
cells-at s (q ∷ relations) (c ∷ chosen) (suc k) r e h = cells-at s relations chosen k r (omega (arith, e)) h

length-cells : (s : State) (relations : List RelId) (chosen : List ℕ) → length chosen ≡ length relations → length (cells_of s relations chosen) ≡ length relations
length-cells s [] chosen e = refl
length-cells s (q ∷ relations) [] e = absurd (omega (arith, e))
length-cells s (q ∷ relations) (c ∷ chosen) e = ap suc (length-cells s relations chosen (omega (arith, e)))

-- one more row
appended : (P : RelId → List ℕ → Type 0) (rows : List RelId) (cells : List (List ℕ)) (q : RelId) (row : List ℕ) → length cells ≡ length rows
    → ((k : ℕ) (r : RelId) → slice_get rows k ≡ Some r → P r (get_or cells k [])) → P q row
    → (k : ℕ) (r : RelId) → slice_get (rows ++ q ∷ []) k ≡ Some r → P r (get_or (cells ++ row ∷ []) k [])
appended P [] [] q row e each here zero r known = let same : q ≡ r = cc in subst (λ (x : RelId). P x row) same here
appended P [] [] q row e each here (suc k) r known = absurd (cc)
appended P [] (c ∷ cells) q row e each here k r known = absurd (omega (arith, e))
appended P (x ∷ rows) [] q row e each here k r known = absurd (omega (arith, e))
appended P (x ∷ rows) (c ∷ cells) q row e each here zero r known = each zero r known
appended P (x ∷ rows) (c ∷ cells) q row e each here (suc k) r known = appended P rows cells q row (omega (arith, e)) (λ j s h. each (suc j) s h) here k r known

last_row : (rows : List RelId) (r : RelId) → slice_get (rows ++ r ∷ []) (length rows) ≡ Some r
last_row [] r = refl
last_row (x ∷ rows) r = last_row rows r

-- the row parameter that names a row
record Named (rows : List RelId) (relation n p : ℕ) : Type 0 where
  offset : ℕ
  place : p ≡ n + offset
  relation_id : RelId
  known : slice_get rows offset ≡ Some relation_id
  same : relation_id.n ≡ relation

named : (n : ℕ) (rows : List RelId) (chosen : List ℕ) (relation row p : ℕ) → named_from n rows chosen relation row ≡ Some p → Named rows relation n p
named n [] chosen relation row p h = absurd (cc)
named n (r ∷ rows) [] relation row p h = absurd (cc)
named n (r ∷ rows) (k ∷ chosen) relation row p h = go (nat_eq r.n relation && nat_eq k row) refl h (named (n + 1) rows chosen relation row p)
  where
    go : (b : Bool) → (nat_eq r.n relation && nat_eq k row) ≡ b → elim b [ true ↦ Some n | false ↦ named_from (n + 1) rows chosen relation row ] ≡ Some p
        → (named_from (n + 1) rows chosen relation row ≡ Some p → Named rows relation (n + 1) p) → Named (r ∷ rows) relation n p
    go true e q later = let same_p : n ≡ p = cc in
        record { offset = 0; place = omega (arith, same_p); relation_id = r; known = refl; same = eqb-true r.n relation (and_parts (nat_eq r.n relation) (nat_eq k row) e).0 }
    go false e q later = let m = later q in record { offset = suc m.offset; place = omega (arith, m.place); relation_id = m.relation_id; known = m.known; same = m.same }

module _ (shape : ShapeParts) (d : RawDb) (db : IsDatabase shape.schema d) where
  one_written : (v : Values) (o : Option Term) (s : SortId) (x : ℕ) → IsElement d s x → ((t : Term) → o ≡ Some t → IsElement d s (value d v t))
      → IsElement d s (option_map_or (value d v) o x)
  one_written v None s x e good = e
  one_written v (Some t) s x e good = good t refl

  written-elements : (v : Values) (term_for : ℕ → Option Term) (sorts : List SortId) (old : List ℕ) → AreElements d sorts old
      → ((k : ℕ) (s : SortId) (t : Term) → slice_get sorts k ≡ Some s → term_for k ≡ Some t → IsElement d s (value d v t))
      → AreElements d sorts (written d v term_for old)
  written-elements v term_for sorts old els good = record {
    as_many = length-numbered (λ (p : ℕ × ℕ). option_map_or (value d v) (term_for p.0) p.1) old ∙ els.as_many;
    each = λ k s known. let lt : k < length old = rw els.as_many (slice_get_within sorts k s known) in
        rw (numbered-at (λ (p : ℕ × ℕ). option_map_or (value d v) (term_for p.0) p.1) old k 0 0 lt)
        (one_written v (term_for k) s (get_or old k 0) (els.each k s known) (λ t e. good k s t known e));
  }

  step-values : (s : State) (rows : List RelId) (params : List SortId) (chosen values : List ℕ) → IsState shape d s → All (λ (r : RelId). r.n < length shape.relations) rows
      → AreRows s rows chosen → AreElements d params values → AreValues shape d rows params (values_at s rows chosen values)
  step-values s rows params chosen values st in_shape are els = record {
    vars = st.vars;
    as_many_rows = length-cells s rows chosen are.as_many;
    each_row = λ k r known. rw (cells-at s rows chosen k r are.as_many known)
        (All-get_or (IsRow shape d r) (rows_of s r) (get_or chosen k 0) [] (are.each k r known) (st.rows r (from_known (λ (q : RelId). q.n < length shape.relations) rows in_shape k r known)));
    param_values = els;
  }

  -- the sort of a term without functions is that of its base
  base_sort_is : (rows : List RelId) (params : List SortId) (b : Base) (u s : SortId) → sort_of shape rows params (record { base = b; path = [] }) ≡ Some u
      → sort_of_base shape rows params b ≡ Some s → u ≡ s
  base_sort_is rows params b u s h k = let t = and_then_through (sort_along shape.schema []) (sort_of_base shape rows params b) u h in cc

  is_var-same : (k : ℕ) (t : Target) → is_var k t ≡ true → target_term t ≡ record { base = base.Var (record { n = k }); path = [] }
  is_var-same k (Var v) h = let e : v.n ≡ k = eqb-true v.n k h in ap (λ (m : ℕ). record { base = base.Var (record { n = m }); path = [] }) e
  is_var-same k (Cell row column) h = absurd (cc)

  is_cell-same : (p k : ℕ) (t : Target) → is_cell p k t ≡ true → target_term t ≡ record { base = base.Cell p k; path = [] }
  is_cell-same p k (Var v) h = absurd (cc)
  is_cell-same p k (Cell row column) h =
      let b = and_parts (nat_eq row p) (nat_eq column k) h in
      let e : row ≡ p = eqb-true row p b.0 in let q : column ≡ k = eqb-true column k b.1 in
      ap (λ (m : ℕ). record { base = base.Cell m column; path = [] }) e ∙ ap (λ (m : ℕ). record { base = base.Cell p m; path = [] }) q

  -- a term fits its target: the value is an element of the target's sort
  assigned-element : (rows : List RelId) (params : List SortId) (v : Values) → AreValues shape d rows params v → (place : Term) (b : Base) (t : Term) (s : SortId)
      → place ≡ record { base = b; path = [] } → sort_of_base shape rows params b ≡ Some s → LiteralFits shape rows params (Equal place t true) → IsElement d s (value d v t)
  assigned-element rows params v values place b t s e known fits =
      let there : sort_of shape rows params (record { base = b; path = [] }) ≡ Some fits.0 = subst (λ (q : Term). sort_of shape rows params q ≡ Some fits.0) e fits.1 in
      let same : fits.0 ≡ s = base_sort_is rows params b fits.0 s there known in
      value-element shape d db rows params v values t s (subst (λ (q : SortId). sort_of shape rows params t ≡ Some q) same fits.2)

  module _ (t : Transition) (good : IsTransition shape t) (v : Values) (values : AreValues shape d t.rows t.params v) where
    vars-kept : (old : List ℕ) → AreElements d shape.vars old → AreElements d shape.vars (written d v (term_for_var t.updates) old)
    vars-kept old els = written-elements v (term_for_var t.updates) shape.vars old els (λ k s term known e.
        let f = found (λ (u : Update). u.term) (λ (u : Update). is_var k u.target) t.updates term e in
        subst (λ (q : Term). IsElement d s (value d v q)) f.term
        (assigned-element t.rows t.params v values (target_term f.item.target) (base.Var (record { n = k })) f.item.term s
        (is_var-same k f.item.target f.passes) known (All-contains (UpdateFits shape t.rows t.params) t.updates f.item good.updates f.inside)))

    -- a named row
    named-kept : (p : ℕ) (r : RelId) (columns : List SortId) (cells : List ℕ) → slice_get t.rows p ≡ Some r → slice_get shape.relations r.n ≡ Some columns
        → AreElements d columns cells → AreElements d columns (written d v (term_for_cell t.updates p) cells)
    named-kept p r columns cells row in_shape els = written-elements v (term_for_cell t.updates p) columns cells els (λ k s term known e.
        let f = found (λ (u : Update). u.term) (λ (u : Update). is_cell p k u.target) t.updates term e in
        subst (λ (q : Term). IsElement d s (value d v q)) f.term
        (assigned-element t.rows t.params v values (target_term f.item.target) (base.Cell p k) f.item.term s
        (is_cell-same p k f.item.target f.passes) (rw (row, in_shape) known) (All-contains (UpdateFits shape t.rows t.params) t.updates f.item good.updates f.inside)))

    -- the values with one more row
    with_row-values : (r : RelId) (cells : List ℕ) → IsRow shape d r cells → AreValues shape d (t.rows ++ r ∷ []) t.params (with_row v cells)
    with_row-values r cells row = record {
      vars = values.vars;
      as_many_rows = length-append v.rows (cells ∷ []) ∙ ap (λ (n : ℕ). n + 1) values.as_many_rows ∙ sym (length-append t.rows (r ∷ []));
      each_row = appended (IsRow shape d) t.rows v.rows r cells values.as_many_rows values.each_row row;
      param_values = values.param_values;
    }

    -- a row that a bulk case takes
    bulk-kept : (b : Bulk) (columns : List SortId) (cells : List ℕ) → BulkFits shape t b → slice_get shape.relations b.relation.n ≡ Some columns
        → AreElements d columns cells → AreElements d columns (written d (with_row v cells) (term_for_column b.assigns) cells)
    bulk-kept b columns cells fits in_shape els =
        let row : IsRow shape d b.relation cells = rw (get_or_from_slice_get shape.relations b.relation.n columns [] in_shape) els in
        let more = with_row-values b.relation cells row in
        written-elements (with_row v cells) (term_for_column b.assigns) columns cells els (λ k s term known e.
        let f = found (λ (a : Assign). a.term) (λ (a : Assign). nat_eq a.column k) b.assigns term e in
        let same : f.item.column ≡ k = eqb-true f.item.column k f.passes in
        subst (λ (q : Term). IsElement d s (value d (with_row v cells) q)) f.term
        (assigned-element (t.rows ++ b.relation ∷ []) t.params (with_row v cells) more (record { base = base.Cell (length t.rows) f.item.column; path = [] }) (base.Cell (length t.rows) k) f.item.term s
        (ap (λ (m : ℕ). record { base = base.Cell (length t.rows) m; path = [] }) same)
        (rw (last_row t.rows b.relation, in_shape) known)
        (All-contains (λ (a : Assign). LiteralFits shape (t.rows ++ b.relation ∷ []) t.params (Equal (record { base = base.Cell (length t.rows) a.column; path = [] }) a.term true)) b.assigns f.item fits.assigns f.inside)))

    unnamed-kept : (relation : ℕ) (columns : List SortId) (cells : List ℕ) → slice_get shape.relations relation ≡ Some columns → AreElements d columns cells
        → AreElements d columns (unnamed_row d v t.bulk relation cells)
    unnamed-kept relation columns cells in_shape els = go (find (takes d v relation cells) t.bulk) refl
      where
        go : (o : Option Bulk) → find (takes d v relation cells) t.bulk ≡ o → AreElements d columns (option_map_or (λ (b : Bulk). written d (with_row v cells) (term_for_column b.assigns) cells) o cells)
        go None e = els
        go (Some b) e =
            let f = find-element (takes d v relation cells) t.bulk b e in
            let same : b.relation.n ≡ relation = eqb-true b.relation.n relation (and_parts (nat_eq b.relation.n relation) (list_all (holds d (with_row v cells)) b.condition) f.1).0 in
            bulk-kept b columns cells (All-contains (BulkFits shape t) t.bulk b good.bulk f.0) (rw same in_shape) els

    row-kept : (chosen : List ℕ) (relation row : ℕ) (columns : List SortId) (cells : List ℕ) → slice_get shape.relations relation ≡ Some columns → AreElements d columns cells
        → AreElements d columns (row_after d v t chosen relation row cells)
    row-kept chosen relation row columns cells in_shape els = go (named_from 0 t.rows chosen relation row) refl
      where
        go : (o : Option ℕ) → named_from 0 t.rows chosen relation row ≡ o
            → AreElements d columns (option_map_or (λ (p : ℕ). written d v (term_for_cell t.updates p) cells) o (unnamed_row d v t.bulk relation cells))
        go None e = unnamed-kept relation columns cells in_shape els
        go (Some p) e =
            let n = named 0 t.rows chosen relation row p e in
            let same : n.offset ≡ p = omega (arith, n.place) in
            let here : slice_get t.rows p ≡ Some n.relation_id = subst (λ (m : ℕ). slice_get t.rows m ≡ Some n.relation_id) same n.known in
            named-kept p n.relation_id columns cells here (rw n.same in_shape) els

-- a step of a well-formed transition leads from a state to a state
pub state_after-state : (shape : ShapeParts) (d : RawDb) → IsDatabase shape.schema d → (t : Transition) → IsTransition shape t → (old : State) → IsState shape d old → (c : Choice)
    → AreRows old t.rows c.rows → AreElements d t.params c.values → IsState shape d (state_after d t old c)
state_after-state shape d db t good old st c are els =
    let v : Values = values_at old t.rows c.rows c.values in
    let values = step-values shape d db old t.rows t.params c.rows c.values st good.rows are els in
    record {
      vars = vars-kept shape d db t good v values old.vars st.vars;
      as_many = length-numbered (λ (q : ℕ × List (List ℕ)). map (λ (p : ℕ × List ℕ). row_after d v t c.rows q.0 p.0 p.1) (enumerate_from 0 q.1)) old.relations ∙ st.as_many;
      rows = λ r lt. let within : r.n < length old.relations = rw st.as_many lt in
          rw (numbered-at (λ (q : ℕ × List (List ℕ)). map (λ (p : ℕ × List ℕ). row_after d v t c.rows q.0 p.0 p.1) (enumerate_from 0 q.1)) old.relations r.n [] [] within)
          (All-map (IsRow shape d r) (λ (p : ℕ × List ℕ). row_after d v t c.rows r.n p.0 p.1) (enumerate_from 0 (rows_of old r))
          (All-enumerate (λ (p : ℕ × List ℕ). IsRow shape d r (row_after d v t c.rows r.n p.0 p.1)) (rows_of old r)
          (λ k cells known. row-kept shape d db t good v values c.rows r.n k (get_or shape.relations r.n []) cells (slice_get-get_or shape.relations r.n [] lt)
          (from_known (IsRow shape d r) (rows_of old r) (st.rows r lt) k cells known))));
    }
