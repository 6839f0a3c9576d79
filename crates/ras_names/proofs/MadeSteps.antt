-- Where the checks of a step pass, it denotes.
use Rattle.std.proofs.Common.{◌≡◌, ℕ, zero, suc, ◌+◌, ◌<◌, ◌≤◌, true, false, List, [], ◌∷◌, ◌++◌, length, take, map, get_or, refl, sym, ◌∙◌, ap, subst, arith, ⊎_elim}
use Rattle.std.specs.Prelude.{◌≢◌, Option, Some, None, slice_get, option_map, option_and_then, not, All, AllPairs, nat_le}
use Rattle.std.specs.List.{list_any}
use Rattle.std.specs.Str.{bytes_eq}
use Rattle.std.proofs.lemmas.Bool.{cases_lt, le-leb, and_from}
use Rattle.std.proofs.lemmas.Option.{slice_get-get_or}
use Rattle.ras_logic.specs.declared.ids.SortId.{SortId}
use Rattle.ras_logic.specs.declared.ids.RelId.{RelId}
use Rattle.ras_logic.specs.declared.term.Base.TheVariants as base
use Rattle.ras_logic.specs.declared.literal.Literal.{Literal}
use Rattle.ras_logic.specs.Shapes.{ShapeParts, columns_of}
use Rattle.ras_logic.specs.Terms.{sort_of, sort_of_base}
use Rattle.ras_logic.specs.Formulas.{LiteralFits}
use Rattle.ras_logic.proofs.TermSorts.{and_then_from}
use Rattle.ras_logic.proofs.ByPlace.{any_at, at_take, map-at, map_from, no_true, one_value}
use Rattle.ras_system.specs.declared.update.Target.{Target}
use Rattle.ras_system.specs.declared.update.Target.TheVariants as target
use Rattle.ras_system.specs.declared.update.Update.{Update}
use Rattle.ras_system.specs.declared.bulk.Assign.{Assign}
use Rattle.ras_system.specs.Systems.{target_term, UpdateFits, assign_literal}
use Rattle.ras_syntax.specs.Grammar as grammar
use Rattle.ras_syntax.specs.Grammar.{Text}
use Rattle.ras_names.specs.declared.names.RelNames.{RelNames}
use Rattle.ras_names.specs.declared.names.Names.{Names}
use Rattle.ras_names.specs.declared.spec_fault.SpecKind.TheVariants.{WrongSort, TooMany, RepeatedTarget}
use Rattle.ras_names.specs.Lists.{HasNumber, OneByOne}
use Rattle.ras_names.specs.NewNames.{relation_names}
use Rattle.ras_names.specs.Terms as denoted
use Rattle.ras_names.specs.Terms.{IsCell, ConjunctionDenotes}
use Rattle.ras_names.specs.Steps.{TargetDenotes, UpdateDenotes, AssignmentDenotes}
use Rattle.ras_names.specs.Placed as placed
use Rattle.ras_names.specs.Placed.{Name, Declared, disjuncts}
use Rattle.ras_names.specs.Unplaced.{conjunction_of, variable_of, update_of, assignment_of, file_of}
use Rattle.ras_names.specs.Checks.{Check, check, for_each, is_among, declared_texts, declared_of, used_check}
use Rattle.ras_names.specs.TermChecks.{Scope, agree, columns_named, term_sort, term_checks, conjunction_checks, disjunct_checks, guard_checks}
use Rattle.ras_names.specs.StepChecks.{variable_texts, is_same_column, is_same_target, target_checks, target_sort, update_checks, assignment_checks, case_checks}
use Rattle.ras_names.specs.Files.{IsSortNamed}
use Rattle.ras_names.proofs.Numbered.{in_right}
use Rattle.ras_names.proofs.Together.{one_by_one-to, one_by_one-from, one_by_one-made, one_by_one-mapped, one_by_one-length, one_by_one-gives, one_by_one-weaker}
use Rattle.ras_names.proofs.OneTerm.{IsClear}
use Rattle.ras_names.proofs.Passing.{Passes, passed_first, passed_both, passed_each, passed-not}
use Rattle.ras_names.proofs.Among.{same_text, among_at}
use Rattle.ras_names.proofs.NameLists.{vars_are}
use Rattle.ras_names.proofs.PassTerms.{IsDeclared, names, here, checked, RowsDenote, ParamsDenote, column-good}
use Rattle.ras_names.proofs.PassSteps.{target-good}
use Rattle.ras_names.proofs.MadeNames.{within_limit}
use Rattle.ras_names.proofs.MadeTerms.{number_of, base-sorted, is_sort, agreed, cell-made, column-made, made-term, IsConjunctionMade, made-conjunction, made-disjunct}

-- a number that is not beyond the limit
pub lower : (limit n : ℕ) → nat_le limit n ≡ false → n < limit
lower limit n h = ⊎_elim (λ lt. lt) (λ ge. absurd (no_true _ (le-leb limit n ge) h)) (cases_lt n limit)

-- no two elements are related, where none is to an earlier one
pub all-apart : {X : Type 0} (R : X → X → Type 0) (xs : List X) → ((i j : ℕ) (x y : X) → i < j → slice_get xs i ≡ Some x → slice_get xs j ≡ Some y → R x y) → AllPairs R xs
all-apart R xs f = λ i j d lt l. f i j (get_or xs i d) (get_or xs j d) lt (slice_get-get_or xs i d (omega (arith, lt, l))) (slice_get-get_or xs j d l)

columns_same : (b c : Option Name) → option_map (λ (n : Name). n.text) b ≡ option_map (λ (n : Name). n.text) c → is_same_column b c ≡ true
columns_same None None h = refl
columns_same None (Some c) h = absurd (cc)
columns_same (Some b) None h = absurd (cc)
columns_same (Some b) (Some c) h = same_text b.text c.text (let q : b.text ≡ c.text = some_is b.text c.text h in q)
  where
    some_is : (x y : Text) → Some x ≡ Some y → x ≡ y
    some_is x y e = cc

module _ (p : placed.File) (shape : ShapeParts) (declared : IsDeclared (file_of p) shape) (sorts_are_all : shape.schema.sorts ≡ length p.sorts) where
  abbrev all : Names
  all = names p shape declared

  module _ (rows params : List Declared) (relations : List RelId) (sorts : List SortId) (clear : IsClear (here p shape declared rows params relations sorts)) (rows_denote : RowsDenote p shape declared rows params relations sorts) (params_denote : ParamsDenote p shape declared rows params relations sorts) where
    abbrev scope : denoted.Scope
    scope = here p shape declared rows params relations sorts

    abbrev seen : Scope
    seen = checked p shape declared rows params relations sorts

    abbrev text_of : Option Name → Option Text
    text_of c = option_map (λ (n : Name). n.text) c

    -- the disjuncts of a guard
    pub record IsGuardMade (g : placed.Guard) : Type 0 where
      pub made_of : List (List Literal)
      pub denotes : OneByOne (ConjunctionDenotes scope) (map conjunction_of (disjuncts g)) made_of
      pub fits : All (All (LiteralFits shape relations sorts)) made_of
      pub wide : All (λ (ls : List Literal). length ls ≤ 128) made_of
      pub within : length made_of ≤ 64
      pub some : 0 < length made_of

    pub made-guard : (g : placed.Guard) → Passes (guard_checks seen 0 g) → IsGuardMade g
    made-guard g pass =
        let good : placed.Conjunction → List Literal → Type 0 = λ c ls. ConjunctionDenotes scope (conjunction_of c) ls × All (LiteralFits shape relations sorts) ls × (length ls ≤ 128) in
        let each : (k : ℕ) (c : placed.Conjunction) → slice_get (disjuncts g) k ≡ Some c → (nat_le 64 k ≡ false) × IsConjunctionMade p shape declared sorts_are_all rows params relations sorts clear rows_denote params_denote 128 c =
        λ k c at. made-disjunct p shape declared sorts_are_all rows params relations sorts clear rows_denote params_denote k c (passed_each (disjunct_checks seen) (disjuncts g) pass k c at) in
        let xs = one_by_one-made good (disjuncts g) (λ k c at. let m = (each k c at).1 in (m.made_of, (m.denotes, m.fits, m.within))) in
        let denotes : placed.Conjunction → List Literal → Type 0 = λ c ls. ConjunctionDenotes scope (conjunction_of c) ls in
        let count : length (disjuncts g) ≡ length xs.0 = one_by_one-length good (disjuncts g) xs.0 xs.1 in
        let le : length (disjuncts g) ≤ 64 = within_limit 64 (disjuncts g) (λ k c at. (each k c at).0) in record {
          made_of = xs.0;
          denotes = one_by_one-mapped (ConjunctionDenotes scope) conjunction_of (disjuncts g) xs.0 (one_by_one-weaker good denotes (disjuncts g) xs.0 xs.1 (λ c ls h. h.0));
          fits = one_by_one-gives good (All (LiteralFits shape relations sorts)) (disjuncts g) xs.0 xs.1 (λ k c ls at h. h.1);
          wide = one_by_one-gives good (λ (ls : List Literal). length ls ≤ 128) (disjuncts g) xs.0 xs.1 (λ k c ls at h. h.2);
          within = omega (arith, count, le);
          some = (let q : length (g.first ∷ g.others) ≡ length xs.0 = count in omega (arith, q));
        }

    record IsTargetMade (name : Name) (column : Option Name) : Type 0 where
      target : Target
      denotes : TargetDenotes scope name.text (text_of column) target
      sort : SortId
      has : sort_of shape relations sorts (target_term target) ≡ Some sort

    target-made : (name : Name) (column : Option Name) → Passes (target_checks seen name column) → IsTargetMade name column
    target-made name None pass =
        let v = number_of (variable_texts p) name.text (passed-not _ (passed_first (used_check (variable_texts p) name) [] pass).0) in
        let w = map_from (λ (x : placed.Variable). x.name.text) p.variables v.0 name.text v.1 in
        let s = one_by_one-to (λ (x : grammar.Variable). IsSortNamed all x.sort) (map variable_of p.variables) shape.vars v.0 (variable_of w.0) declared.variables (map-at variable_of p.variables v.0 w.0 w.1) in record {
          target = target.Var (record { n = v.0 });
          denotes = subst (λ (ts : List Text). HasNumber ts name.text v.0) (sym (vars_are p)) v.1;
          sort = s.0;
          has = base-sorted shape relations sorts (base.Var (record { n = v.0 })) s.0 s.1;
        }
    target-made name (Some c) pass =
        let m = cell-made p shape declared sorts_are_all rows params relations sorts clear rows_denote params_denote name c pass in record {
          target = target.Cell m.row_number m.number;
          denotes = m.is_cell;
          sort = m.sort;
          has = base-sorted shape relations sorts (base.Cell m.row_number m.number) m.sort m.has;
        }

    abbrev GoodUpdate : placed.Update → Update → Type 0
    GoodUpdate u x = UpdateDenotes scope (update_of u) x × UpdateFits shape relations sorts x

    record IsUpdateMade (updates : List placed.Update) (k : ℕ) (u : placed.Update) : Type 0 where
      update : Update
      good : GoodUpdate u update
      once : list_any (is_same_target u) (take k updates) ≡ false

    update-made : (updates : List placed.Update) (k : ℕ) (u : placed.Update) → Passes (update_checks seen updates k u) → IsUpdateMade updates k u
    update-made updates k u pass =
        let last : Check = check u.at WrongSort (not (agree (target_sort seen u.name u.column) (term_sort seen u.term))) in
        let second : Check = check u.name.at RepeatedTarget (list_any (is_same_target u) (take k updates)) in
        let a = passed_both (target_checks seen u.name u.column) (second ∷ (term_checks seen u.term ++ (last ∷ []))) pass in
        let b = passed_first second (term_checks seen u.term ++ (last ∷ [])) a.1 in
        let c = passed_both (term_checks seen u.term) (last ∷ []) b.1 in
        let t = target-made u.name u.column a.0 in
        let g = target-good p shape declared rows params relations sorts clear rows_denote params_denote u.name u.column t.target t.sort t.denotes t.has in
        let m = made-term p shape declared sorts_are_all rows params relations sorts clear rows_denote params_denote u.term t.sort c.0 (λ undef. is_sort p shape declared sorts_are_all g.text t.sort g.sort) in
        let fits : agree (Some g.text) (term_sort seen u.term) ≡ true = subst (λ (o : Option Text). agree o (term_sort seen u.term) ≡ true) g.of (passed-not _ (passed_first last [] c.1).0) in
        let same : m.sort ≡ t.sort = agreed p shape declared sorts_are_all rows params relations sorts clear rows_denote params_denote g.text (term_sort seen u.term) t.sort m.sort g.sort m.text m.wanted fits in record {
          update = record { target = t.target; term = m.term };
          good = ((t.denotes, m.denotes), (t.sort, t.has, subst (λ (s : SortId). sort_of shape relations sorts m.term ≡ Some s) same m.has));
          once = b.0;
        }

    -- one target has one name
    record IsOneTarget (name other : Text) (c d : Option Text) : Type 0 where
      names_same : name ≡ other
      columns_same_too : c ≡ d

    cell-names : (row other column more : Text) (m n : ℕ) → IsCell scope row column m n → IsCell scope other more m n → (row ≡ other) × (column ≡ more)
    cell-names row other column more m n h k =
        let rows_same : row ≡ other = one_value scope.rows m row other h.0 k.0 in
        let r : h.1.0 ≡ k.1.0 = one_value relations m h.1.0 k.1.0 h.1.1 k.1.1 in
        let q : h.1.2.0 ≡ k.1.2.0 = one_value all.relations k.1.0.n h.1.2.0 k.1.2.0 (subst (λ (z : RelId). slice_get all.relations z.n ≡ Some h.1.2.0) r h.1.2.1) k.1.2.1 in
        (rows_same, one_value k.1.2.0.columns n column more (subst (λ (z : RelNames). HasNumber z.columns column n) q h.1.2.2) k.1.2.2)

    target-names : (name other : Text) (c d : Option Text) (t : Target) → TargetDenotes scope name c t → TargetDenotes scope other d t → IsOneTarget name other c d
    target-names name other None None (target.Var v) h k = record { names_same = one_value all.vars v.n name other h k; columns_same_too = refl }
    target-names name other None (Some d) (target.Var v) h k = absurd k
    target-names name other (Some c) d (target.Var v) h k = absurd h
    target-names name other None d (target.Cell m n) h k = absurd h
    target-names name other (Some c) None (target.Cell m n) h k = absurd k
    target-names name other (Some c) (Some d) (target.Cell m n) h k =
        let same = cell-names name other c d m n h k in record { names_same = same.0; columns_same_too = ap (λ (x : Text). Some x) same.1 }

    pub record AreUpdatesMade (updates : List placed.Update) : Type 0 where
      pub made_of : List Update
      pub denotes : OneByOne (UpdateDenotes scope) (map update_of updates) made_of
      pub fits : All (UpdateFits shape relations sorts) made_of
      pub once : AllPairs (λ (x y : Update). x.target ≢ y.target) made_of

    pub made-updates : (updates : List placed.Update) → Passes (for_each (update_checks seen updates) updates) → AreUpdatesMade updates
    made-updates updates pass =
        let each : (k : ℕ) (u : placed.Update) → slice_get updates k ≡ Some u → IsUpdateMade updates k u = λ k u at. update-made updates k u (passed_each (update_checks seen updates) updates pass k u at) in
        let xs = one_by_one-made GoodUpdate updates (λ k u at. let m = each k u at in (m.update, m.good)) in
        let denotes : placed.Update → Update → Type 0 = λ u x. UpdateDenotes scope (update_of u) x in record {
          made_of = xs.0;
          denotes = one_by_one-mapped (UpdateDenotes scope) update_of updates xs.0 (one_by_one-weaker GoodUpdate denotes updates xs.0 xs.1 (λ u x h. h.0));
          fits = one_by_one-gives GoodUpdate (UpdateFits shape relations sorts) updates xs.0 xs.1 (λ k u x at h. h.1);
          once = all-apart (λ (x y : Update). x.target ≢ y.target) xs.0 (λ i j x y lt x_at y_at e.
              let u = one_by_one-from GoodUpdate updates xs.0 i x xs.1 x_at in
              let w = one_by_one-from GoodUpdate updates xs.0 j y xs.1 y_at in
              let same = target-names w.0.name.text u.0.name.text (text_of w.0.column) (text_of u.0.column) y.target w.2.0.0 (subst (λ (t : Target). TargetDenotes scope u.0.name.text (text_of u.0.column) t) e u.2.0.0) in
              let test : is_same_target w.0 u.0 ≡ true = and_from (bytes_eq w.0.name.text u.0.name.text) (is_same_column w.0.column u.0.column) (same_text w.0.name.text u.0.name.text same.names_same) (columns_same w.0.column u.0.column same.columns_same_too) in
              no_true _ (any_at (is_same_target w.0) (take j updates) i u.0 (at_take j updates i u.0 lt u.1) test) (each j w.0 w.1).once);
        }

  -- the cases of an `each`: the row behind the row parameters
  module _ (rows params : List Declared) (relations : List RelId) (sorts : List SortId) (e : placed.Each) (r : RelId) where
    abbrev row : Declared
    row = record { name = e.row; of = e.relation }

    abbrev more : List Declared
    more = rows ++ row ∷ []

    abbrev behind : List RelId
    behind = relations ++ r ∷ []

    abbrev within : denoted.Scope
    within = here p shape declared more params behind sorts

    abbrev looked : Scope
    looked = checked p shape declared more params behind sorts

    module _ (clear : IsClear within) (rows_denote : RowsDenote p shape declared more params behind sorts) (params_denote : ParamsDenote p shape declared more params behind sorts) (count : length rows ≡ length relations) (is_relation : HasNumber (relation_names all) e.relation.text r.n) where
      row_number : HasNumber (declared_texts more) e.row.text (length relations)
      row_number =
          map-at (λ (d : Declared). d.name.text) more (length relations) row
          (subst (λ (n : ℕ). slice_get more n ≡ Some row) (let q : length rows + 0 ≡ length relations = omega (arith, count) in q) (in_right rows (row ∷ []) 0 row refl))

      behind_at : slice_get behind (length relations) ≡ Some r
      behind_at = subst (λ (n : ℕ). slice_get behind n ≡ Some r) (let z : length relations + 0 ≡ length relations = omega arith in z) (in_right relations (r ∷ []) 0 r refl)

      abbrev GoodAssign : placed.Assignment → Assign → Type 0
      GoodAssign a x = AssignmentDenotes within (length relations) (assignment_of a) x × LiteralFits shape behind sorts (assign_literal (length relations) x)

      record IsAssignMade (assignments : List placed.Assignment) (k : ℕ) (a : placed.Assignment) : Type 0 where
        assign : Assign
        good : GoodAssign a assign
        once : is_among (map (λ (b : placed.Assignment). b.column.text) (take k assignments)) a.column.text ≡ false

      assign-made : (assignments : List placed.Assignment) (k : ℕ) (a : placed.Assignment) → Passes (assignment_checks looked e assignments k a) → IsAssignMade assignments k a
      assign-made assignments k a pass =
          let first : Check = used_check (e.row.text ∷ []) a.row in
          let second : Check = used_check (declared_texts (columns_named p e.relation.text)) a.column in
          let third : Check = check a.row.at RepeatedTarget (is_among (map (λ (b : placed.Assignment). b.column.text) (take k assignments)) a.column.text) in
          let last : Check = check a.at WrongSort (not (agree (declared_of (columns_named p e.relation.text) a.column.text) (term_sort looked a.term))) in
          let x = passed_first first (second ∷ third ∷ (term_checks looked a.term ++ (last ∷ []))) pass in
          let y = passed_first second (third ∷ (term_checks looked a.term ++ (last ∷ []))) x.1 in
          let z = passed_first third (term_checks looked a.term ++ (last ∷ [])) y.1 in
          let w = passed_both (term_checks looked a.term) (last ∷ []) z.1 in
          let name : e.row.text ≡ a.row.text = only_name (number_of (e.row.text ∷ []) a.row.text (passed-not _ x.0)) in
          let c = column-made p shape declared sorts_are_all e.relation.text r a.column.text is_relation (passed-not _ y.0) in
          let g = column-good p shape declared e.relation.text r a.column.text c.number c.sorts c.sort is_relation c.is_column c.found c.at in
          let cell : IsCell within a.row.text a.column.text (length relations) c.number =
          (subst (λ (n : Text). HasNumber (declared_texts more) n (length relations)) name row_number, (r, behind_at, c.is_column)) in
          let has : sort_of_base shape behind sorts (base.Cell (length relations) c.number) ≡ Some c.sort =
          and_then_from (λ (q : RelId). option_and_then (λ (cs : List SortId). slice_get cs c.number) (columns_of shape q)) (slice_get behind (length relations)) r c.sort behind_at
          (and_then_from (λ (cs : List SortId). slice_get cs c.number) (columns_of shape r) c.sorts c.sort c.found c.at) in
          let m = made-term p shape declared sorts_are_all more params behind sorts clear rows_denote params_denote a.term c.sort w.0 (λ undef. is_sort p shape declared sorts_are_all g.text c.sort g.sort) in
          let fits : agree (Some g.text) (term_sort looked a.term) ≡ true = subst (λ (o : Option Text). agree o (term_sort looked a.term) ≡ true) g.of (passed-not _ (passed_first last [] w.1).0) in
          let same : m.sort ≡ c.sort = agreed p shape declared sorts_are_all more params behind sorts clear rows_denote params_denote g.text (term_sort looked a.term) c.sort m.sort g.sort m.text m.wanted fits in record {
            assign = record { column = c.number; term = m.term };
            good = ((cell, m.denotes), (c.sort, base-sorted shape behind sorts (base.Cell (length relations) c.number) c.sort has, subst (λ (s : SortId). sort_of shape behind sorts m.term ≡ Some s) same m.has));
            once = z.0;
          }
        where
          only_name : ((i : ℕ) × HasNumber (e.row.text ∷ []) a.row.text i) → e.row.text ≡ a.row.text
          only_name h = at_zero h.0 h.1
            where
              at_zero : (i : ℕ) → HasNumber (e.row.text ∷ []) a.row.text i → e.row.text ≡ a.row.text
              at_zero zero q = some_is e.row.text a.row.text q
                where
                  some_is : (x y : Text) → Some x ≡ Some y → x ≡ y
                  some_is x y s = cc
              at_zero (suc i) q = absurd (let s : ◌≡◌ {A = Option Text} None (Some a.row.text) = q in cc)

      -- the n-th case of a step
      pub record IsCaseMade (n : ℕ) (c : placed.Case) : Type 0 where
        pub low : n < 8
        pub condition : List Literal
        pub condition_denotes : ConjunctionDenotes within (conjunction_of c.condition) condition
        pub condition_fits : All (LiteralFits shape behind sorts) condition
        pub condition_within : length condition ≤ 16
        pub assigns : List Assign
        pub assigns_denote : OneByOne (AssignmentDenotes within (length relations)) (map assignment_of c.assignments) assigns
        pub assigns_fit : All (λ (x : Assign). LiteralFits shape behind sorts (assign_literal (length relations) x)) assigns
        pub once : AllPairs (λ (x y : Assign). x.column ≢ y.column) assigns

      pub made-case : (n : ℕ) (c : placed.Case) → Passes (case_checks looked e n c) → IsCaseMade n c
      made-case n c pass =
          let a = passed_first (check c.at TooMany (nat_le 8 n)) (conjunction_checks looked 16 c.condition ++ for_each (assignment_checks looked e c.assignments) c.assignments) pass in
          let b = passed_both (conjunction_checks looked 16 c.condition) (for_each (assignment_checks looked e c.assignments) c.assignments) a.1 in
          let m = made-conjunction p shape declared sorts_are_all more params behind sorts clear rows_denote params_denote 16 c.condition b.0 in
          let each : (k : ℕ) (x : placed.Assignment) → slice_get c.assignments k ≡ Some x → IsAssignMade c.assignments k x = λ k x at. assign-made c.assignments k x (passed_each (assignment_checks looked e c.assignments) c.assignments b.1 k x at) in
          let xs = one_by_one-made GoodAssign c.assignments (λ k x at. let q = each k x at in (q.assign, q.good)) in
          let denotes : placed.Assignment → Assign → Type 0 = λ x y. AssignmentDenotes within (length relations) (assignment_of x) y in record {
            low = lower 8 n a.0;
            condition = m.made_of;
            condition_denotes = m.denotes;
            condition_fits = m.fits;
            condition_within = m.within;
            assigns = xs.0;
            assigns_denote = one_by_one-mapped (AssignmentDenotes within (length relations)) assignment_of c.assignments xs.0 (one_by_one-weaker GoodAssign denotes c.assignments xs.0 xs.1 (λ x y h. h.0));
            assigns_fit = one_by_one-gives GoodAssign (λ (x : Assign). LiteralFits shape behind sorts (assign_literal (length relations) x)) c.assignments xs.0 xs.1 (λ k x y at h. h.1);
            once = all-apart (λ (x y : Assign). x.column ≢ y.column) xs.0 (λ i j x y lt x_at y_at q.
                let u = one_by_one-from GoodAssign c.assignments xs.0 i x xs.1 x_at in
                let w = one_by_one-from GoodAssign c.assignments xs.0 j y xs.1 y_at in
                let same = cell-names more params behind sorts clear rows_denote params_denote w.0.row.text u.0.row.text w.0.column.text u.0.column.text (length relations) y.column w.2.0.0
                (subst (λ (n : ℕ). IsCell within u.0.row.text u.0.column.text (length relations) n) q u.2.0.0) in
                let taken : HasNumber (map (λ (b : placed.Assignment). b.column.text) (take j c.assignments)) w.0.column.text i =
                map-at (λ (b : placed.Assignment). b.column.text) (take j c.assignments) i u.0 (at_take j c.assignments i u.0 lt u.1) ∙ ap (λ (t : Text). Some t) (sym same.1) in
                no_true _ (among_at (map (λ (b : placed.Assignment). b.column.text) (take j c.assignments)) w.0.column.text i taken) (each j w.0 w.1).once);
          }
