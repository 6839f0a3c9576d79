-- What a scope finds by a name is what the checks see there.
use Rattle.std.proofs.Common.{◌≡◌, ℕ, false, List, [], ◌∷◌, ◌++◌, map, refl, sym, ◌∙◌, ap, subst}
use Rattle.std.specs.Prelude.{Option, Some, None, slice_get, position, option_map, All}
use Rattle.std.specs.Option.{option_or}
use Rattle.std.specs.List.{find}
use Rattle.std.specs.Option.{option_map_or}
use Rattle.std.specs.Str.{bytes_eq}
use Rattle.std.proofs.lemmas.List.{map-append}
use Rattle.std.proofs.lemmas.List.Folds.{find-append}
use Rattle.std.proofs.lemmas.List.Elements.{All-map}
use Rattle.std.proofs.lemmas.Option.{slice_get-map}
use Rattle.ras_syntax.specs.Grammar.{Text}
use Rattle.ras_logic.specs.declared.ids.SortId.{SortId}
use Rattle.ras_logic.specs.declared.ids.RelId.{RelId}
use Rattle.ras_logic.specs.declared.term.Base.{Base}
use Rattle.ras_logic.specs.declared.term.Base.TheVariants.{Constant, Var, Param}
use Rattle.ras_names.specs.Placed as placed
use Rattle.ras_names.specs.Placed.{Name, Declared as Item, columns}
use Rattle.ras_names.specs.Checks.{Check, is_among, declared_texts, declared_of, used_check}
use Rattle.ras_names.specs.TermChecks as checks
use Rattle.ras_names.specs.TermChecks.{variable_sort, columns_named, columns_of_row}
use Rattle.ras_names.specs.StepChecks.{variable_texts, relation_texts}
use Rattle.ras_names.proofs.ClearNames.{all-at}
use Rattle.ras_names.proofs.Passing.{Passes, pass_both}
use Rattle.ras_names.proofs.Among.{map-map}
use Rattle.ras_numbering.specs.Numbers.{number_in, declared_sort, declared_relation, relation_named}
use Rattle.ras_numbering.specs.TermValues.{plain_value}
use Rattle.ras_numbering.specs.FileValues.{relation_value, variable_value}
use Rattle.ras_scope.specs.declared.fault.SpecError.{SpecError}
use Rattle.ras_scope.specs.Answering.{Faults}
use Rattle.ras_scope.specs.Finding.{Finds}
use Rattle.ras_scope.specs.Columns.{column_names, column_sorts}
use Rattle.ras_scope.specs.Agreeing.{Agrees, IsOfSort, IsSortText, IsRelationText}
use Rattle.ras_scope.specs.Scopes.{row_names, plain_names}
use Rattle.ras_scope.specs.Seeing.{Sees, row_relations}
use Rattle.ras_scope.specs.Sorting.{IsSortOf}
use Rattle.ras_scope.specs.declared.table.Table.{Table}
use Rattle.ras_scope.specs.declared.declared.Declared.{Declared}
use Rattle.ras_scope.specs.declared.scope.Scope.{Scope}
use Rattle.ras_scope.proofs.Following.{faults_follow}
use Rattle.ras_scope.proofs.Places.{number_of, no_number, number_is, IsAt, item_at, value_at, none_first}

abbrev key : Item → Text
key d = d.name.text

-- the sort of a declared item that is found
pub sort_found : (file : placed.File) (ds : List Item) (names : List Text) (values : List SortId) (name : Text) (n : ℕ) (s : SortId)
    → names ≡ declared_texts ds → values ≡ map (declared_sort file) ds → All (IsOfSort file) ds → Finds names values name (n, s)
    → IsSortOf file (declared_of ds name) (Some s)
sort_found file ds names values name n s same made known h =
    let w : IsAt key ds name n = item_at key ds name n (subst (λ (ts : List Text). position (bytes_eq name) ts ≡ Some n) same h.number) in
    let own : IsSortText file w.item.of.text = all-at (IsOfSort file) ds n w.item known w.at in
    let number : declared_sort file w.item ≡ s = value_at (declared_sort file) ds values n w.item s made w.at h.value in
    subst (λ (o : Option Text). IsSortOf file o (Some s)) (sym (ap (option_map (λ (d : Item). d.of.text)) w.first)) (own, number)

-- what is found in front of other items, or behind items without its name
sort_front : (file : placed.File) (ds es : List Item) (name : Text) (s : SortId) → IsSortOf file (declared_of ds name) (Some s) → IsSortOf file (declared_of (ds ++ es) name) (Some s)
sort_front file ds es name s h =
    subst (λ (o : Option Item). IsSortOf file (option_map (λ (d : Item). d.of.text) o) (Some s)) (sym (find-append (λ (d : Item). bytes_eq d.name.text name) ds es))
    (go (find (λ (d : Item). bytes_eq d.name.text name) ds) h)
  where
    go : (o : Option Item) → IsSortOf file (option_map (λ (d : Item). d.of.text) o) (Some s)
        → IsSortOf file (option_map (λ (d : Item). d.of.text) (option_or o (find (λ (d : Item). bytes_eq d.name.text name) es))) (Some s)
    go None k = absurd k
    go (Some d) k = k

of_behind : (ds es : List Item) (name : Text) → is_among (declared_texts ds) name ≡ false → declared_of (ds ++ es) name ≡ declared_of es name
of_behind ds es name h =
    ap (option_map (λ (d : Item). d.of.text)) (find-append (λ (d : Item). bytes_eq d.name.text name) ds es
    ∙ ap (λ (o : Option Item). option_or o (find (λ (d : Item). bytes_eq d.name.text name) es)) (none_first key ds name h))

-- a relation that is found has the columns of its text
pub record IsRelationFound (file : placed.File) (d : Declared) (text : Text) (r : RelId) : Type 0 where
  pub names : column_names d.columns.items r.n ≡ declared_texts (columns_named file text)
  pub sorts : column_sorts d.columns.items r.n ≡ map (declared_sort file) (columns_named file text)
  pub known : All (IsOfSort file) (columns_named file text)

pub relation_found : (file : placed.File) (d : Declared) (text : Text) (r : RelId) → Agrees file d → IsRelationText file text → relation_named file text ≡ r
    → IsRelationFound file d text r
relation_found file d text r agrees known is =
    let relation_key : placed.Relation → Text = λ q. q.name.text in
    let number : position (bytes_eq text) (relation_texts file) ≡ Some r.n = number_of (relation_texts file) text known ∙ ap (λ (q : RelId). Some q.n) is in
    let w : IsAt relation_key file.relations text r.n = item_at relation_key file.relations text r.n number in
    let own : columns_named file text ≡ columns w.item = ap (λ (o : Option placed.Relation). option_map_or columns o []) w.first in
    let names_at : option_map (λ (t : Table SortId). t.names) (slice_get d.columns.items r.n) ≡ Some (declared_texts (columns w.item)) =
    sym (slice_get-map (λ (t : Table SortId). t.names) d.columns.items r.n) ∙ ap (λ (ns : List (List Text)). slice_get ns r.n) agrees.column_names
    ∙ slice_get-map (λ (q : placed.Relation). declared_texts (columns q)) file.relations r.n ∙ ap (option_map (λ (q : placed.Relation). declared_texts (columns q))) w.at in
    let sorts_at : option_map (λ (t : Table SortId). t.values.items) (slice_get d.columns.items r.n) ≡ Some (relation_value file w.item) =
    sym (slice_get-map (λ (t : Table SortId). t.values.items) d.columns.items r.n) ∙ ap (λ (ns : List (List SortId)). slice_get ns r.n) agrees.column_values
    ∙ slice_get-map (relation_value file) file.relations r.n ∙ ap (option_map (relation_value file)) w.at in
    let all : All (IsOfSort file) (columns w.item) = all-at (λ (q : placed.Relation). All (IsOfSort file) (columns q)) file.relations r.n w.item agrees.column_sorts w.at in
    record {
      names = go (λ (t : Table SortId). t.names) (slice_get d.columns.items r.n) (declared_texts (columns w.item)) names_at ∙ sym (ap declared_texts own);
      sorts = go (λ (t : Table SortId). t.values.items) (slice_get d.columns.items r.n) (relation_value file w.item) sorts_at ∙ sym (ap (map (declared_sort file)) own);
      known = subst (All (IsOfSort file)) (sym own) all;
    }
  where
    go : {X : Type 0} (f : Table SortId → List X) (o : Option (Table SortId)) (xs : List X) → option_map f o ≡ Some xs → option_map_or f o [] ≡ xs
    go f None xs h = absurd (cc)
    go f (Some t) xs h = cc

module _ (s : Scope) (seen : checks.Scope) (sees : Sees s seen) where
  -- a row that is found: its number, and the relation behind its colon
  pub record IsRowFound (row : Text) (r : ℕ × RelId) : Type 0 where
    pub number : r.0 ≡ number_in (declared_texts seen.rows) row
    pub text : Text
    pub of : declared_of seen.rows row ≡ Some text
    pub known : IsRelationText seen.file text
    pub relation : relation_named seen.file text ≡ r.1

  pub row_found : (row : Text) (r : ℕ × RelId) → Finds (row_names s) (row_relations s) row r → IsRowFound row r
  row_found row r h =
      let number : position (bytes_eq row) (declared_texts seen.rows) ≡ Some r.0 = subst (λ (ts : List Text). position (bytes_eq row) ts ≡ Some r.0) sees.rows h.number in
      let w : IsAt key seen.rows row r.0 = item_at key seen.rows row r.0 number in record {
        number = number_is (declared_texts seen.rows) row r.0 number;
        text = w.item.of.text;
        of = ap (option_map (λ (d : Item). d.of.text)) w.first;
        known = all-at (λ (d : Item). IsRelationText seen.file d.of.text) seen.rows r.0 w.item sees.known_relations w.at;
        relation = value_at (declared_relation seen.file) seen.rows (row_relations s) r.0 w.item r.1 sees.relations w.at h.value;
      }

  -- the columns of its relation
  pub record IsRowColumns (row : Name) (r : RelId) : Type 0 where
    pub names : column_names s.declared.now.columns.items r.n ≡ declared_texts (columns_of_row seen row)
    pub sorts : column_sorts s.declared.now.columns.items r.n ≡ map (declared_sort seen.file) (columns_of_row seen row)
    pub known : All (IsOfSort seen.file) (columns_of_row seen row)

  pub row_columns : (row : Name) (r : ℕ × RelId) → Finds (row_names s) (row_relations s) row.text r → IsRowColumns row r.1
  row_columns row r h =
      let w : IsRowFound row.text r = row_found row.text r h in
      let found : IsRelationFound seen.file s.declared.now w.text r.1 = relation_found seen.file s.declared.now w.text r.1 sees.agrees w.known w.relation in
      let own : columns_of_row seen row ≡ columns_named seen.file w.text = ap (λ (o : Option Text). option_map_or (columns_named seen.file) o []) w.of in record {
        names = found.names ∙ sym (ap declared_texts own);
        sorts = found.sorts ∙ sym (ap (map (declared_sort seen.file)) own);
        known = subst (All (IsOfSort seen.file)) (sym own) found.known;
      }

  pub column_sort : (row column : Name) (r : ℕ × RelId) (n : ℕ) (sort : SortId) → Finds (row_names s) (row_relations s) row.text r
      → Finds (column_names s.declared.now.columns.items r.1.n) (column_sorts s.declared.now.columns.items r.1.n) column.text (n, sort)
      → IsSortOf seen.file (checks.cell_sort seen row column) (Some sort)
  column_sort row column r n sort h k =
      let w : IsRowColumns row r.1 = row_columns row r h in
      sort_found seen.file (columns_of_row seen row) (column_names s.declared.now.columns.items r.1.n) (column_sorts s.declared.now.columns.items r.1.n) column.text n sort w.names w.sorts w.known k

  pub column_number_is : (row column : Name) (r : ℕ × RelId) (n : ℕ) (sort : SortId) → Finds (row_names s) (row_relations s) row.text r
      → Finds (column_names s.declared.now.columns.items r.1.n) (column_sorts s.declared.now.columns.items r.1.n) column.text (n, sort)
      → n ≡ number_in (declared_texts (columns_of_row seen row)) column.text
  column_number_is row column r n sort h k =
      let w : IsRowColumns row r.1 = row_columns row r h in
      number_is (declared_texts (columns_of_row seen row)) column.text n (subst (λ (ts : List Text). position (bytes_eq column.text) ts ≡ Some n) w.names k.number)

  -- names alone
  vars_texts : declared_texts (map variable_sort seen.file.variables) ≡ variable_texts seen.file
  vars_texts = map-map key variable_sort seen.file.variables

  vars_sorts : map (declared_sort seen.file) (map variable_sort seen.file.variables) ≡ map (variable_value seen.file) seen.file.variables
  vars_sorts = map-map (declared_sort seen.file) variable_sort seen.file.variables

  pub plain_texts : plain_names s ≡ declared_texts (checks.plain_names seen)
  plain_texts =
      ap (λ (ts : List Text). ts ++ (s.declared.now.vars.names ++ s.params.now.names)) sees.agrees.constants
      ∙ ap (λ (ts : List Text). declared_texts seen.file.constants ++ ts)
      (ap (λ (ts : List Text). ts ++ s.params.now.names) (sees.agrees.variables ∙ sym vars_texts)
      ∙ ap (λ (ts : List Text). declared_texts (map variable_sort seen.file.variables) ++ ts) sees.params
      ∙ sym (map-append key (map variable_sort seen.file.variables) seen.params))
      ∙ sym (map-append key seen.file.constants (map variable_sort seen.file.variables ++ seen.params))

  -- a constant, a variable or a data parameter that is found
  pub record IsPlainFound (name : Text) (base : Base) (sort : SortId) : Type 0 where
    pub value : base ≡ plain_value seen name
    pub sorted : IsSortOf seen.file (declared_of (checks.plain_names seen) name) (Some sort)

  pub var_sort : (name : Text) (n : ℕ) (sort : SortId) → Finds s.declared.now.vars.names s.declared.now.vars.values.items name (n, sort)
      → IsSortOf seen.file (declared_of (map variable_sort seen.file.variables) name) (Some sort)
  var_sort name n sort h =
      let known : All (IsOfSort seen.file) (map variable_sort seen.file.variables) = All-map (IsOfSort seen.file) variable_sort seen.file.variables sees.agrees.variable_sorts in
      sort_found seen.file (map variable_sort seen.file.variables) s.declared.now.vars.names s.declared.now.vars.values.items name n sort (sees.agrees.variables ∙ sym vars_texts) (sees.agrees.variable_values ∙ sym vars_sorts) known h

  pub constant_found : (name : Text) (n : ℕ) (sort : SortId) → Finds s.declared.now.constants.names s.declared.now.constants.values.items name (n, sort)
      → IsPlainFound name (Constant (record { n = n })) sort
  constant_found name n sort h =
      let number : position (bytes_eq name) (declared_texts seen.file.constants) ≡ Some n = subst (λ (ts : List Text). position (bytes_eq name) ts ≡ Some n) sees.agrees.constants h.number in record {
        value = rw number refl;
        sorted = sort_front seen.file seen.file.constants (map variable_sort seen.file.variables ++ seen.params) name sort
            (sort_found seen.file seen.file.constants s.declared.now.constants.names s.declared.now.constants.values.items name n sort sees.agrees.constants sees.agrees.constant_values sees.agrees.constant_sorts h);
      }

  pub var_found : (name : Text) (n : ℕ) (sort : SortId) → is_among s.declared.now.constants.names name ≡ false
      → Finds s.declared.now.vars.names s.declared.now.vars.values.items name (n, sort) → IsPlainFound name (Var (record { n = n })) sort
  var_found name n sort no_constant h =
      let none : is_among (declared_texts seen.file.constants) name ≡ false = subst (λ (ts : List Text). is_among ts name ≡ false) sees.agrees.constants no_constant in
      let number : position (bytes_eq name) (variable_texts seen.file) ≡ Some n = subst (λ (ts : List Text). position (bytes_eq name) ts ≡ Some n) sees.agrees.variables h.number in
      let absent = no_number (declared_texts seen.file.constants) name none in record {
        value = rw (absent, number) refl;
        sorted = subst (λ (o : Option Text). IsSortOf seen.file o (Some sort)) (sym (of_behind seen.file.constants (map variable_sort seen.file.variables ++ seen.params) name none))
            (sort_front seen.file (map variable_sort seen.file.variables) seen.params name sort (var_sort name n sort h));
      }

  pub param_found : (name : Text) (n : ℕ) (sort : SortId) → is_among s.declared.now.constants.names name ≡ false → is_among s.declared.now.vars.names name ≡ false
      → Finds s.params.now.names s.params.now.values.items name (n, sort) → IsPlainFound name (Param n) sort
  param_found name n sort no_constant no_var h =
      let none : is_among (declared_texts seen.file.constants) name ≡ false = subst (λ (ts : List Text). is_among ts name ≡ false) sees.agrees.constants no_constant in
      let no_vars : is_among (variable_texts seen.file) name ≡ false = subst (λ (ts : List Text). is_among ts name ≡ false) sees.agrees.variables no_var in
      let number : position (bytes_eq name) (declared_texts seen.params) ≡ Some n = subst (λ (ts : List Text). position (bytes_eq name) ts ≡ Some n) sees.params h.number in
      let absent = no_number (declared_texts seen.file.constants) name none in
      let absent_var = no_number (variable_texts seen.file) name no_vars in record {
        value = rw (absent, absent_var, number) refl;
        sorted = subst (λ (o : Option Text). IsSortOf seen.file o (Some sort))
            (sym (of_behind seen.file.constants (map variable_sort seen.file.variables ++ seen.params) name none
            ∙ of_behind (map variable_sort seen.file.variables) seen.params name (subst (λ (ts : List Text). is_among ts name ≡ false) (sym vars_texts) no_vars)))
            (sort_found seen.file seen.params s.params.now.names s.params.now.values.items name n sort sees.params sees.sorts sees.known_sorts h);
      }

  -- the checks of a cell whose row is found
  abbrev row_check : Name → Check
  row_check row = used_check (declared_texts seen.rows) row

  row_passes : (row : Name) → Passes (used_check (row_names s) row ∷ []) → Passes (row_check row ∷ [])
  row_passes row h = subst (λ (ts : List Text). Passes (used_check ts row ∷ [])) sees.rows h

  pub cell_faults : (row column : Name) (r : ℕ × RelId) (e : SpecError) → Finds (row_names s) (row_relations s) row.text r → Passes (used_check (row_names s) row ∷ [])
      → Faults (used_check (column_names s.declared.now.columns.items r.1.n) column ∷ []) e → Faults (checks.cell_checks seen row column) e
  cell_faults row column r e h pass fault =
      let w : IsRowColumns row r.1 = row_columns row r h in
      faults_follow (row_check row ∷ []) (used_check (declared_texts (columns_of_row seen row)) column ∷ []) e (row_passes row pass)
      (subst (λ (ts : List Text). Faults (used_check ts column ∷ []) e) w.names fault)

  pub cell_passes : (row column : Name) (r : ℕ × RelId) → Finds (row_names s) (row_relations s) row.text r → Passes (used_check (row_names s) row ∷ [])
      → Passes (used_check (column_names s.declared.now.columns.items r.1.n) column ∷ []) → Passes (checks.cell_checks seen row column)
  cell_passes row column r h pass last =
      let w : IsRowColumns row r.1 = row_columns row r h in
      pass_both (row_check row ∷ []) (used_check (declared_texts (columns_of_row seen row)) column ∷ []) (row_passes row pass)
      (subst (λ (ts : List Text). Passes (used_check ts column ∷ [])) w.names last)
