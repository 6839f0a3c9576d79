-- The checks of the row of an `each` and of the assignments of its cases, part by part.
use Rattle.std.proofs.Common.{◌≡◌, ℕ, Bool, true, false, not, ◌||◌, List, [], ◌∷◌, ◌++◌, map, refl, sym, ◌∙◌, ap, subst, nat_eq}
use Rattle.std.specs.Prelude.{Option, Some, All, position}
use Rattle.std.specs.List.{list_any}
use Rattle.std.specs.Str.{bytes_eq}
use Rattle.ras_syntax.specs.Grammar.{Text}
use Rattle.ras_logic.specs.declared.ids.SortId.{SortId}
use Rattle.ras_logic.specs.declared.ids.RelId.{RelId}
use Rattle.ras_logic.specs.declared.term.Term.{Term}
use Rattle.ras_system.specs.declared.bulk.Assign.{Assign}
use Rattle.ras_names.specs.declared.spec_fault.SpecKind.TheVariants.{UnknownName, RepeatedTarget}
use Rattle.ras_names.specs.Placed as placed
use Rattle.ras_names.specs.Placed.{Name, Declared as Item}
use Rattle.ras_names.specs.Checks.{Check, check, first_of, is_among, declared_texts, declared_of, new_check, used_check}
use Rattle.ras_names.specs.TermChecks as checks
use Rattle.ras_names.specs.StepChecks.{relation_texts}
use Rattle.ras_names.proofs.Passing.{Passes, pass_first, pass_one, passed_first, passed-not}
use Rattle.ras_numbering.specs.Numbers.{number_in, relation_named}
use Rattle.ras_numbering.specs.TermValues.{term_value, sort_or}
use Rattle.ras_numbering.specs.FileValues.{assignment_value}
use Rattle.ras_scope.specs.declared.fault.SpecError.{SpecError}
use Rattle.ras_scope.specs.declared.scope.Scope.{Scope}
use Rattle.ras_scope.specs.declared.scope.EachRow.{EachRow}
use Rattle.ras_scope.specs.Answering.{Faults}
use Rattle.ras_scope.specs.Agreeing.{IsRelationText}
use Rattle.ras_scope.specs.Columns.{column_names, column_sorts}
use Rattle.ras_scope.specs.Finding.{Finds}
use Rattle.ras_scope.specs.Seeing.{Sees, step_texts}
use Rattle.ras_scope.specs.Sorting.{IsSortOf}
use Rattle.ras_terms.specs.Assigning.{assigned_checks}
use Rattle.ras_terms.specs.Cases.{IsRowOf, IsKnownColumn, columns_of, row_checks_behind, assignment_checks_behind}
use Rattle.ras_scope.proofs.Following.{faults_stay, faults_follow, between_fails, between_stays, between_passes}
use Rattle.ras_scope.proofs.Places.{among_append, number_is, numbers_among}
use Rattle.ras_scope.proofs.SameTexts.{text_eq, same}
use Rattle.ras_terms.proofs.SameSorts.{sort_or_is}
use Rattle.ras_scope.proofs.SeenNames.{sort_found, IsRelationFound, relation_found}

-- a name that is none of the names of the step
pub new_name : (s : Scope) (name : Text) → is_among s.declared.now.shared name ≡ false → is_among s.rows.now.names name ≡ false → is_among s.params.now.names name ≡ false
    → is_among (step_texts s) name ≡ false
new_name s name shared rows params =
    among_append s.declared.now.shared (s.rows.now.names ++ s.params.now.names) name ∙ (λ i. shared i || is_among (s.rows.now.names ++ s.params.now.names) name)
    ∙ among_append s.rows.now.names s.params.now.names name ∙ (λ i. rows i || is_among s.params.now.names name) ∙ params

module _ (s : Scope) (seen : checks.Scope) (sees : Sees s seen) where
  -- the relation of an `each`
  module _ (before : List placed.Each) (e : placed.Each) (pass : Passes (used_check s.declared.now.relations e.relation ∷ [])) where
    relation_passes : Passes (used_check (relation_texts seen.file) e.relation ∷ [])
    relation_passes = subst (λ (ts : List Text). Passes (used_check ts e.relation ∷ [])) sees.agrees.relations pass

    pub relation_known : IsRelationText seen.file e.relation.text
    relation_known = passed-not (is_among (relation_texts seen.file) e.relation.text) (passed_first (used_check (relation_texts seen.file) e.relation) [] relation_passes).0

    pub relation_is : (r : RelId) → position (bytes_eq e.relation.text) s.declared.now.relations ≡ Some r.n → relation_named seen.file e.relation.text ≡ r
    relation_is r h =
        let number : r.n ≡ number_in (relation_texts seen.file) e.relation.text =
        number_is (relation_texts seen.file) e.relation.text r.n (subst (λ (ts : List Text). position (bytes_eq e.relation.text) ts ≡ Some r.n) sees.agrees.relations h) in
        λ i. record { n = sym number i }

    pub relation_above : (above : List RelId) (r : RelId) → position (bytes_eq e.relation.text) s.declared.now.relations ≡ Some r.n
        → above ≡ map (λ (d : placed.Each). relation_named seen.file d.relation.text) before → All (λ (d : placed.Each). IsRelationText seen.file d.relation.text) before
        → list_any (λ (q : RelId). nat_eq q.n r.n) above ≡ is_among (map (λ (d : placed.Each). d.relation.text) before) e.relation.text
    relation_above above r h same known =
        (λ i. list_any (λ (q : RelId). nat_eq q.n (sym (relation_is r h) i).n) (same i))
        ∙ numbers_among (relation_texts seen.file) (λ (d : placed.Each). d.relation.text) (λ (q : RelId). q.n) (λ (d : placed.Each). relation_named seen.file d.relation.text) (λ d. refl) before e.relation.text known relation_known

    abbrev repeated_check : Check
    repeated_check = check e.relation.at RepeatedTarget (is_among (map (λ (d : placed.Each). d.relation.text) before) e.relation.text)

    module _ (names : List Text) (new : is_among names e.row.text ≡ false) where
      names_pass : Passes (new_check names e.row ∷ used_check (relation_texts seen.file) e.relation ∷ [])
      names_pass = pass_first (new_check names e.row) (used_check (relation_texts seen.file) e.relation ∷ []) new relation_passes

      pub row_repeats : is_among (map (λ (d : placed.Each). d.relation.text) before) e.relation.text ≡ true → first_of (row_checks_behind seen names before e) ≡ Some (record { at = e.relation.at; kind = RepeatedTarget })
      row_repeats h = between_fails (new_check names e.row ∷ used_check (relation_texts seen.file) e.relation ∷ []) [] repeated_check names_pass h

      pub row_passes : is_among (map (λ (d : placed.Each). d.relation.text) before) e.relation.text ≡ false → Passes (row_checks_behind seen names before e)
      row_passes h = between_passes (new_check names e.row ∷ used_check (relation_texts seen.file) e.relation ∷ []) [] repeated_check names_pass h refl

  -- an assignment to the row of an `each`
  module _ (row : EachRow) (e : placed.Each) (is : IsRowOf seen.file row e) (a : placed.Assignment) where
    abbrev row_check : Check
    row_check = used_check (e.row.text ∷ []) a.row

    abbrev column_check : Check
    column_check = used_check (declared_texts (columns_of seen e)) a.column

    abbrev own_sort : Option Text
    own_sort = declared_of (columns_of seen e) a.column.text

    abbrev own_checks : List Check
    own_checks = assigned_checks seen a.at own_sort a.term

    columns_found : IsRelationFound seen.file s.declared.now e.relation.text row.relation
    columns_found = relation_found seen.file s.declared.now e.relation.text row.relation sees.agrees is.known is.relation

    row_among : is_among (e.row.text ∷ []) a.row.text ≡ text_eq a.row.text row.name
    row_among = ap (λ (t : Text). bytes_eq a.row.text t || false) (sym is.name) ∙ or_false (bytes_eq a.row.text row.name) ∙ sym (same a.row.text row.name)
      where
        or_false : (b : Bool) → (b || false) ≡ b
        or_false true = refl
        or_false false = refl

    pub row_faults : (rest : List Check) → true ≡ not (text_eq a.row.text row.name) → first_of (row_check ∷ rest) ≡ Some (record { at = a.row.at; kind = UnknownName })
    row_faults rest h = let failed : not (is_among (e.row.text ∷ []) a.row.text) ≡ true = ap not row_among ∙ sym h in rw failed refl

    pub assigned_sort : (n : ℕ) (sort : SortId) → Finds (column_names s.declared.now.columns.items row.relation.n) (column_sorts s.declared.now.columns.items row.relation.n) a.column.text (n, sort)
        → IsSortOf seen.file own_sort (Some sort)
    assigned_sort n sort h =
        sort_found seen.file (columns_of seen e) (column_names s.declared.now.columns.items row.relation.n) (column_sorts s.declared.now.columns.items row.relation.n) a.column.text n sort
        columns_found.names columns_found.sorts columns_found.known h

    pub assigned_column : (n : ℕ) (sort : SortId) → Finds (column_names s.declared.now.columns.items row.relation.n) (column_sorts s.declared.now.columns.items row.relation.n) a.column.text (n, sort)
        → n ≡ number_in (declared_texts (columns_of seen e)) a.column.text
    assigned_column n sort h =
        number_is (declared_texts (columns_of seen e)) a.column.text n (subst (λ (ts : List Text). position (bytes_eq a.column.text) ts ≡ Some n) columns_found.names h.number)

    pub assigned_value : (n : ℕ) (sort : SortId) (t : Term) → Finds (column_names s.declared.now.columns.items row.relation.n) (column_sorts s.declared.now.columns.items row.relation.n) a.column.text (n, sort)
        → t ≡ term_value seen sort a.term → ◌≡◌ {A = Assign} (record { column = n; term = t }) (assignment_value seen (columns_of seen e) a)
    assigned_value n sort t h k =
        let column = assigned_column n sort h in
        let own : sort_or seen (record { n = 0 }) own_sort ≡ sort = sort_or_is seen own_sort sort (record { n = 0 }) (assigned_sort n sort h) in
        let term : t ≡ term_value seen (sort_or seen (record { n = 0 }) own_sort) a.term = k ∙ ap (λ (x : SortId). term_value seen x a.term) (sym own) in
        λ i. record { column = column i; term = term i }

    module _ (right_row : false ≡ not (text_eq a.row.text row.name)) where
      row_passed : Passes (row_check ∷ [])
      row_passed = pass_one row_check (ap not row_among ∙ sym right_row)

      pub column_faults : (rest : List Check) (x : SpecError) → Faults (used_check (column_names s.declared.now.columns.items row.relation.n) a.column ∷ []) x → Faults (row_check ∷ column_check ∷ rest) x
      column_faults rest x h =
          faults_follow (row_check ∷ []) (column_check ∷ rest) x row_passed
          (faults_stay (column_check ∷ []) rest x (subst (λ (ts : List Text). Faults (used_check ts a.column ∷ []) x) columns_found.names h))

      module _ (before : List placed.Assignment) (pass : Passes (used_check (column_names s.declared.now.columns.items row.relation.n) a.column ∷ [])) where
        column_passes : Passes (column_check ∷ [])
        column_passes = subst (λ (ts : List Text). Passes (used_check ts a.column ∷ [])) columns_found.names pass

        pub column_known : IsKnownColumn seen e a
        column_known = passed-not (is_among (declared_texts (columns_of seen e)) a.column.text) (passed_first column_check [] column_passes).0

        cell_passes : Passes (row_check ∷ column_check ∷ [])
        cell_passes = pass_first row_check (column_check ∷ []) (ap not row_among ∙ sym right_row) column_passes

        abbrev column_repeats : Bool
        column_repeats = is_among (map (λ (b : placed.Assignment). b.column.text) before) a.column.text

        abbrev column_repeated : Check
        column_repeated = check a.row.at RepeatedTarget column_repeats

        pub column_above : (above : List Assign) (n : ℕ) (sort : SortId)
            → Finds (column_names s.declared.now.columns.items row.relation.n) (column_sorts s.declared.now.columns.items row.relation.n) a.column.text (n, sort)
            → above ≡ map (assignment_value seen (columns_of seen e)) before → All (IsKnownColumn seen e) before
            → list_any (λ (x : Assign). nat_eq x.column n) above ≡ column_repeats
        column_above above n sort h same_above known =
            (λ i. list_any (λ (x : Assign). nat_eq x.column (assigned_column n sort h i)) (same_above i))
            ∙ numbers_among (declared_texts (columns_of seen e)) (λ (b : placed.Assignment). b.column.text) (λ (x : Assign). x.column) (assignment_value seen (columns_of seen e)) (λ b. refl) before a.column.text known column_known

        pub repeated_faults : column_repeats ≡ true → first_of (assignment_checks_behind seen e before a) ≡ Some (record { at = a.row.at; kind = RepeatedTarget })
        repeated_faults h = between_fails (row_check ∷ column_check ∷ []) own_checks column_repeated cell_passes h

        pub term_faults : (x : SpecError) → column_repeats ≡ false → Faults own_checks x → Faults (assignment_checks_behind seen e before a) x
        term_faults x h k = between_stays (row_check ∷ column_check ∷ []) own_checks column_repeated x cell_passes h k

        pub assignment_passes : column_repeats ≡ false → Passes own_checks → Passes (assignment_checks_behind seen e before a)
        assignment_passes h k = between_passes (row_check ∷ column_check ∷ []) own_checks column_repeated cell_passes h k

-- the column of an assignment whose checks pass
pub column_passed : (seen : checks.Scope) (e : placed.Each) (before : List placed.Assignment) (a : placed.Assignment) → Passes (assignment_checks_behind seen e before a) → IsKnownColumn seen e a
column_passed seen e before a h =
    let first : Check = used_check (e.row.text ∷ []) a.row in
    let second : Check = used_check (declared_texts (columns_of seen e)) a.column in
    let rest : List Check = check a.row.at RepeatedTarget (is_among (map (λ (b : placed.Assignment). b.column.text) before) a.column.text) ∷ assigned_checks seen a.at (declared_of (columns_of seen e) a.column.text) a.term in
    let p = passed_first first (second ∷ rest) h in
    passed-not (is_among (declared_texts (columns_of seen e)) a.column.text) (passed_first second rest p.1).0
