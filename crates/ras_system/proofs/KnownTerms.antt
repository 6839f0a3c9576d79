-- What the tests of names and sorts show.
use Rattle.std.proofs.Common.{◌≡◌, ℕ, ◌<◌, ◌≤◌, Bool, true, false, ◌&&◌, List, [], ◌∷◌, ◌++◌, map, length, get_or, nat_lt, refl, sym, ◌∙◌, ap, arith}
use Rattle.std.specs.Prelude.{slice_get, Option, Some, None, is_some, option_and_then, All, not}
use Rattle.std.specs.List.{list_all}
use Rattle.std.proofs.lemmas.List.Folds.{list_all-append, list_all-map}
use Rattle.std.proofs.lemmas.List.Sums.{AllPass-from_list_all}
use Rattle.std.proofs.lemmas.Bool.{and_parts, and_from, not-false, eqb-true, eq-eqb, lt-ltb, ltb-true}
use Rattle.std.proofs.lemmas.Option.{slice_get_within, get_or_from_slice_get}
use Rattle.ras_logic.specs.declared.ids.SortId.{SortId}
use Rattle.ras_logic.specs.declared.ids.RelId.{RelId}
use Rattle.ras_logic.specs.declared.term.Base.TheVariants.{Cell}
use Rattle.ras_logic.specs.Schemas.{SchemaParts, IsSort}
use Rattle.ras_logic.specs.Shapes.{ShapeParts, IsRelation}
use Rattle.ras_logic.specs.declared.ids.FunId.{FunId}
use Rattle.ras_logic.specs.declared.term.Term.{Term}
use Rattle.ras_logic.specs.declared.literal.Literal.{Literal}
use Rattle.ras_logic.specs.declared.literal.Literal.TheVariants.{Equal}
use Rattle.ras_logic.specs.Terms.{sort_of_base, sort_after, sort_along, sort_of, base_term}
use Rattle.ras_logic.specs.Formulas.{LiteralFits}
use Rattle.ras_logic.proofs.TermSorts.{and_then_through, sort_after-step}
use Rattle.ras_system.specs.declared.system_fault.SystemPlace.{SystemPlace}
use Rattle.ras_system.specs.declared.bulk.Assign.{Assign}
use Rattle.ras_system.specs.declared.bulk.Bulk.{Bulk}
use Rattle.ras_system.specs.Known.{is_known_path, is_known_term, is_known_literal, is_well_sorted, is_one_sort, are_known_relations, are_known_sorts}
use Rattle.ras_system.specs.SystemFaults.{first_of, literal_checks}
use Rattle.ras_system.proofs.Passing.{all_from_test, test_from_all}
use Rattle.ras_system.specs.Systems.{assign_literal, case_literals}

-- a test of the elements of two lists, the second made from another
pub list_all_parts : {X Y : Type 0} (p : X → Bool) (h : Y → X) (xs : List X) (ys : List Y) → list_all p (xs ++ map h ys) ≡ (list_all p xs && list_all (λ y. p (h y)) ys)
list_all_parts p h xs ys = list_all-append p xs (map h ys) ∙ ap (λ (b : Bool). list_all p xs && b) (list_all-map p h ys)

some_of : {A : Type 0} (o : Option A) → is_some o ≡ true → (x : A) × (o ≡ Some x)
some_of None h = absurd (cc)
some_of (Some x) h = (x, refl)

-- what a cell that exists is of
record KnownCell (shape : ShapeParts) (rows : List RelId) (row column : ℕ) : Type 0 where
  relation : RelId
  row_is : slice_get rows row ≡ Some relation
  columns : List SortId
  columns_are : slice_get shape.relations relation.n ≡ Some columns
  within : column < length columns

known_cell : (shape : ShapeParts) (rows : List RelId) (params : List SortId) (row column : ℕ) → is_known_term shape rows params (base_term (Cell row column)) ≡ true
    → KnownCell shape rows row column
known_cell shape rows params row column h =
    let known = some_of (sort_of_base shape rows params (Cell row column)) (and_parts (is_some (sort_of_base shape rows params (Cell row column))) true h).0 in
    let t = and_then_through (λ (r : RelId). option_and_then (λ (columns : List SortId). slice_get columns column) (slice_get shape.relations r.n)) (slice_get rows row) known.0 known.1 in
    let u = and_then_through (λ (columns : List SortId). slice_get columns column) (slice_get shape.relations t.mid.n) known.0 t.second in
    record { relation = t.mid; row_is = t.first; columns = u.mid; columns_are = u.first; within = slice_get_within u.mid column known.0 u.second }

-- the columns of a case of which everything exists
pub known-columns : (shape : ShapeParts) (rows : List RelId) (params : List SortId) (row : ℕ) (b : Bulk)
    → All (λ (columns : List SortId). length columns ≤ 32) shape.relations
    → list_all (is_known_literal shape rows params) (case_literals row b) ≡ true → All (λ (a : Assign). a.column < 32) b.assigns
known-columns shape rows params row b narrow h = λ k d lt.
    let a : Assign = get_or b.assigns k d in
    let parts = and_parts (list_all (is_known_literal shape rows params) b.condition) (list_all (λ (e : Assign). is_known_literal shape rows params (assign_literal row e)) b.assigns)
    (sym (list_all_parts (is_known_literal shape rows params) (assign_literal row) b.condition b.assigns) ∙ h) in
    let each = AllPass-from_list_all (λ (e : Assign). is_known_literal shape rows params (assign_literal row e)) b.assigns parts.1 k d lt in
    let cell = known_cell shape rows params row a.column (and_parts (is_known_term shape rows params (base_term (Cell row a.column))) (is_known_term shape rows params a.term) each).0 in
    let few : length cell.columns ≤ 32 = rw (get_or_from_slice_get shape.relations cell.relation.n cell.columns [] cell.columns_are) at
    (narrow cell.relation.n [] (slice_get_within shape.relations cell.relation.n cell.columns cell.columns_are)) in
    let within = cell.within in omega (arith, within, few)

-- a test of two sorts, and what it means
pub one_sort-true : (o q : Option SortId) → is_one_sort o q ≡ true → (s : SortId) × (o ≡ Some s) × (q ≡ Some s)
one_sort-true None q h = absurd (cc)
one_sort-true (Some s) None h = absurd (cc)
one_sort-true (Some s) (Some u) h = (s, refl, ap (λ (n : ℕ). Some (record { n = n })) (sym (eqb-true s.n u.n h)))

pub true-one_sort : (o q : Option SortId) (s : SortId) → o ≡ Some s → q ≡ Some s → is_one_sort o q ≡ true
true-one_sort o q s left right = rw (left, right) (eq-eqb s.n s.n refl)

module _ (shape : ShapeParts) (rows : List RelId) (params : List SortId) where
  pub sorted-fits : (l : Literal) → is_well_sorted shape rows params l ≡ true → LiteralFits shape rows params l
  sorted-fits (Equal left right same) h = one_sort-true (sort_of shape rows params left) (sort_of shape rows params right) h

  pub fits-sorted : (l : Literal) → LiteralFits shape rows params l → is_well_sorted shape rows params l ≡ true
  fits-sorted (Equal left right same) h = true-one_sort (sort_of shape rows params left) (sort_of shape rows params right) h.0 h.1 h.2

  known_path : (path : List FunId) (s u : SortId) → sort_along shape.schema path s ≡ Some u → is_known_path shape.schema path ≡ true
  known_path [] s u h = refl
  known_path (f ∷ path) s u h =
      let t = and_then_through (sort_along shape.schema path) (sort_after shape.schema f s) u h in
      let step = sort_after-step shape.schema f s t.mid t.first in
      and_from (nat_lt f.n (length shape.schema.functions)) (is_known_path shape.schema path)
      (lt-ltb f.n (length shape.schema.functions) (slice_get_within shape.schema.functions f.n step.decl step.known)) (known_path path t.mid u t.second)

  known_term : (t : Term) (u : SortId) → sort_of shape rows params t ≡ Some u → is_known_term shape rows params t ≡ true
  known_term t u h =
      let through = and_then_through (sort_along shape.schema t.path) (sort_of_base shape rows params t.base) u h in
      and_from (is_some (sort_of_base shape rows params t.base)) (is_known_path shape.schema t.path) (rw through.first) (known_path t.path through.mid u through.second)

  -- what fits names only what exists
  pub fits-known : (l : Literal) → LiteralFits shape rows params l → is_known_literal shape rows params l ≡ true
  fits-known (Equal left right same) h =
      and_from (is_known_term shape rows params left) (is_known_term shape rows params right) (known_term left h.0 h.1) (known_term right h.0 h.2)

  -- literals that pass their checks fit, and the other way round
  pub sorted-all_fit : (literals : List Literal) → not (list_all (is_well_sorted shape rows params) literals) ≡ false → All (LiteralFits shape rows params) literals
  sorted-all_fit literals h = all_from_test (is_well_sorted shape rows params) (LiteralFits shape rows params) sorted-fits literals (not-false (list_all (is_well_sorted shape rows params) literals) h)

  pub all_fit-literal_checks : (p : SystemPlace) (literals : List Literal) → All (LiteralFits shape rows params) literals → first_of (literal_checks shape p rows params literals) ≡ None
  all_fit-literal_checks p literals fit =
      rw (
        test_from_all (is_known_literal shape rows params) (LiteralFits shape rows params) fits-known literals fit,
        test_from_all (is_well_sorted shape rows params) (LiteralFits shape rows params) fits-sorted literals fit,
      )

-- relations and sorts that exist
pub known-relations : (shape : ShapeParts) (rows : List RelId) → are_known_relations shape rows ≡ true → All (IsRelation shape) rows
known-relations shape rows h = all_from_test (λ (r : RelId). nat_lt r.n (length shape.relations)) (IsRelation shape) (λ r t. ltb-true r.n (length shape.relations) t) rows h

pub relations-known : (shape : ShapeParts) (rows : List RelId) → All (IsRelation shape) rows → are_known_relations shape rows ≡ true
relations-known shape rows h = test_from_all (λ (r : RelId). nat_lt r.n (length shape.relations)) (IsRelation shape) (λ r t. lt-ltb r.n (length shape.relations) t) rows h

pub known-sorts : (schema : SchemaParts) (params : List SortId) → are_known_sorts schema params ≡ true → All (IsSort schema.sorts) params
known-sorts schema params h = all_from_test (λ (s : SortId). nat_lt s.n schema.sorts) (IsSort schema.sorts) (λ s t. ltb-true s.n schema.sorts t) params h

pub sorts-known : (schema : SchemaParts) (params : List SortId) → All (IsSort schema.sorts) params → are_known_sorts schema params ≡ true
sorts-known schema params h = test_from_all (λ (s : SortId). nat_lt s.n schema.sorts) (IsSort schema.sorts) (λ s t. lt-ltb s.n schema.sorts t) params h
