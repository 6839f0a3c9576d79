-- Where a term or literal denotes, none of its checks fails.
use Rattle.std.proofs.Common.{◌≡◌, ℕ, ◌+◌, ◌<◌, ◌≤◌, true, List, [], ◌∷◌, ◌++◌, length, map, refl, sym, ◌∙◌, ap, subst, arith}
use Rattle.std.specs.Prelude.{Option, Some, None, slice_get, option_map, option_and_then, not, All, nat_le}
use Rattle.std.specs.Option.{option_map_or}
use Rattle.std.proofs.lemmas.List.{map-append}
use Rattle.std.proofs.lemmas.Option.{slice_get_within}
use Rattle.ras_logic.specs.declared.ids.SortId.{SortId}
use Rattle.ras_logic.specs.declared.ids.RelId.{RelId}
use Rattle.ras_logic.specs.declared.term.Base.{Base}
use Rattle.ras_logic.specs.declared.term.Base.TheVariants as base
use Rattle.ras_logic.specs.declared.term.Term.{Term}
use Rattle.ras_logic.specs.declared.literal.Literal.{Literal}
use Rattle.ras_logic.specs.declared.literal.Literal.TheVariants.{Equal}
use Rattle.ras_logic.specs.Shapes.{ShapeParts, columns_of}
use Rattle.ras_logic.specs.Terms.{base_term, sort_of, sort_of_base, sort_along}
use Rattle.ras_logic.specs.Formulas.{LiteralFits}
use Rattle.ras_logic.proofs.TermSorts.{and_then_through}
use Rattle.ras_logic.proofs.ByPlace.{map-at, map_from, one_value}
use Rattle.ras_system.specs.Systems.{SystemParts}
use Rattle.ras_syntax.specs.Grammar as grammar
use Rattle.ras_syntax.specs.Grammar.{Text}
use Rattle.ras_names.specs.declared.names.RelNames.{RelNames}
use Rattle.ras_names.specs.declared.names.Names.{Names}
use Rattle.ras_names.specs.declared.spec_fault.SpecKind.TheVariants.{WrongSort, TooWide}
use Rattle.ras_names.specs.Lists.{HasNumber, AreDifferent, OneByOne}
use Rattle.ras_names.specs.FileParts as parts
use Rattle.ras_names.specs.FileNames.{names_of, names_of_relation}
use Rattle.ras_names.specs.NewNames.{relation_names, AreNewNames}
use Rattle.ras_names.specs.Terms as denoted
use Rattle.ras_names.specs.Terms.{IsColumn, IsCell, IsNamed, TermDenotes, IsUndef, LiteralDenotes, ConjunctionDenotes}
use Rattle.ras_names.specs.Files.{IsSortNamed, FunctionDenotes, ColumnsDenote, FileDenotes}
use Rattle.ras_names.specs.Placed as placed
use Rattle.ras_names.specs.Placed.{Name, Declared, columns, literals, disjuncts, term_place, disjunct_place}
use Rattle.ras_names.specs.Unplaced.{function_of, constant_of, variable_of, column_of, relation_of, called_of, term_of, literal_of, conjunction_of, file_of}
use Rattle.ras_names.specs.Checks.{Check, check, is_among, declared_texts, declared_of, used_check}
use Rattle.ras_names.specs.TermChecks.{Scope, agree, variable_sort, columns_named, function_named, function_texts, source_of, target_of, plain_names, columns_of_row, cell_checks, cell_sort, base_checks, base_sort, sort_within, argument_checks, term_sort, term_checks, literal_checks, conjunction_checks, disjunct_checks}
use Rattle.ras_names.proofs.Numbered.{in_left, in_right, AreNumbered, different-numbered, numbered-append, apart-append}
use Rattle.ras_names.proofs.Together.{one_by_one-at, one_by_one-to, one_by_one-map}
use Rattle.ras_names.proofs.OneTerm.{IsClear, image-inside}
use Rattle.ras_names.proofs.ClearNames.{relations-numbered, all-at}
use Rattle.ras_names.proofs.NameLists.{functions_are, constants_are, vars_are, relations_are, columns_are}
use Rattle.ras_names.proofs.Passing.{Passes, pass_first, pass_one, pass_both, pass_each, not-passes}
use Rattle.ras_names.proofs.Among.{same_text, among_at, map-map, found_at, below}

-- what is declared with a name
pub record IsFound (ds : List Declared) (name : Text) (d : Declared) : Type 0 where
  pub among : is_among (declared_texts ds) name ≡ true
  pub of : declared_of ds name ≡ Some d.of.text

pub declared_found : (ds : List Declared) (k : ℕ) (d : Declared) (name : Text) → AreNumbered (declared_texts ds) → slice_get ds k ≡ Some d → d.name.text ≡ name → IsFound ds name d
declared_found ds k d name numbered at e = record {
  among = among_at (declared_texts ds) name k (map-at (λ (x : Declared). x.name.text) ds k d at ∙ ap (λ (n : Text). Some n) e);
  of = ap (option_map (λ (x : Declared). x.of.text)) (found_at (λ (x : Declared). x.name.text) ds k d name numbered at e);
}

pub some_not_none : (o : Option Text) (text : Text) → o ≡ Some text → o ≡ None → ⊥
some_not_none o text e n = let q : ◌≡◌ {A = Option Text} (Some text) None = sym e ∙ n in cc

pub bare-sort : (shape : ShapeParts) (rows : List RelId) (params : List SortId) (b : Base) (s : SortId) → sort_of shape rows params (base_term b) ≡ Some s
    → sort_of_base shape rows params b ≡ Some s
bare-sort shape rows params b s h =
    let t = and_then_through (sort_along shape.schema []) (sort_of_base shape rows params b) s h in t.first ∙ t.second

-- what a file says before its steps
pub record IsDeclared (file : grammar.File) (shape : ShapeParts) : Type 0 where
  pub new_names : AreNewNames (names_of file)
  pub functions : OneByOne (FunctionDenotes (names_of file)) file.functions shape.schema.functions
  pub constants : OneByOne (λ (c : grammar.Constant). IsSortNamed (names_of file) c.sort) file.constants shape.schema.constants
  pub variables : OneByOne (λ (v : grammar.Variable). IsSortNamed (names_of file) v.sort) file.variables shape.vars
  pub relations : OneByOne (ColumnsDenote (names_of file)) file.relations shape.relations

pub declared_by : (p : placed.File) (system : SystemParts) → FileDenotes (file_of p) system (names_of (file_of p)) → IsDeclared (file_of p) system.shape
declared_by p system h = record { new_names = h.new_names; functions = h.functions; constants = h.constants; variables = h.variables; relations = h.relations }

module _ (p : placed.File) (shape : ShapeParts) (denotes : IsDeclared (file_of p) shape) where
  abbrev pub names : Names
  names = names_of (file_of p)

  -- the sort has this name, or none
  abbrev pub IsSortText : Option Text → SortId → Type 0
  IsSortText None s = Unit {0}
  IsSortText (Some text) s = HasNumber names.sorts text s.n

  pub is_sort_text : (o : Option Text) (text : Text) (a : SortId) → o ≡ Some text → HasNumber names.sorts text a.n → IsSortText o a
  is_sort_text o text a e h = subst (λ (q : Option Text). IsSortText q a) (sym e) h

  pub agree-good : (s t : Option Text) (a : SortId) → IsSortText s a → IsSortText t a → (s ≡ None → t ≡ None → ⊥) → agree s t ≡ true
  agree-good None None a h k none = absurd (none refl refl)
  agree-good None (Some t) a h k none = refl
  agree-good (Some s) None a h k none = refl
  agree-good (Some s) (Some t) a h k none = same_text s t (one_value names.sorts a.n s t h k)

  columns_numbered : (k : ℕ) (q : RelNames) → slice_get names.relations k ≡ Some q → AreNumbered q.columns
  columns_numbered k q e = different-numbered q.columns (all-at (λ (r : RelNames). AreDifferent r.columns) names.relations k q denotes.new_names.columns e)

  -- a column of a relation that is named
  pub record IsGoodColumn (relation column : Text) (a : SortId) : Type 0 where
    pub among : is_among (declared_texts (columns_named p relation)) column ≡ true
    pub text : Text
    pub of : declared_of (columns_named p relation) column ≡ Some text
    pub sort : HasNumber names.sorts text a.n

  pub column-good : (relation : Text) (r : RelId) (column : Text) (n : ℕ) (sorts : List SortId) (a : SortId) → HasNumber (relation_names names) relation r.n
      → IsColumn names r column n → columns_of shape r ≡ Some sorts → slice_get sorts n ≡ Some a → IsGoodColumn relation column a
  column-good relation r column n sorts a is_relation is_column found at =
      let z = map_from (λ (q : placed.Relation). q.name.text) p.relations r.n relation (subst (λ (ts : List Text). HasNumber ts relation r.n) (relations_are p) is_relation) in
      let own : slice_get names.relations r.n ≡ Some (names_of_relation (relation_of z.0)) =
      map-at names_of_relation (map relation_of p.relations) r.n (relation_of z.0) (map-at relation_of p.relations r.n z.0 z.1) in
      let same : is_column.0 ≡ names_of_relation (relation_of z.0) = one_value names.relations r.n is_column.0 (names_of_relation (relation_of z.0)) is_column.1 own in
      let number : HasNumber (declared_texts (columns z.0)) column n =
      subst (λ (ts : List Text). HasNumber ts column n) (columns_are z.0) (subst (λ (q : RelNames). HasNumber q.columns column n) same is_column.2) in
      let y = map_from (λ (d : Declared). d.name.text) (columns z.0) n column number in
      let numbered : AreNumbered (declared_texts (columns z.0)) = subst AreNumbered (columns_are z.0) (columns_numbered r.n (names_of_relation (relation_of z.0)) own) in
      let is : columns_named p relation ≡ columns z.0 =
      ap (λ (o : Option placed.Relation). option_map_or columns o []) (found_at (λ (q : placed.Relation). q.name.text) p.relations r.n z.0 relation (subst AreNumbered (relations_are p) (relations-numbered names denotes.new_names)) z.1 z.2) in
      let good : IsFound (columns z.0) column y.0 = declared_found (columns z.0) n y.0 column numbered y.1 y.2 in
      let columns_sorts = one_by_one-at (ColumnsDenote names) (map relation_of p.relations) shape.relations r.n (relation_of z.0) sorts denotes.relations (map-at relation_of p.relations r.n z.0 z.1) found in record {
        among = subst (λ (ds : List Declared). is_among (declared_texts ds) column ≡ true) (sym is) good.among;
        text = y.0.of.text;
        of = subst (λ (ds : List Declared). declared_of ds column ≡ Some y.0.of.text) (sym is) good.of;
        sort = one_by_one-at (λ (c : grammar.Column). IsSortNamed names c.sort) (parts.columns (relation_of z.0)) sorts n (column_of y.0) a columns_sorts (map-at column_of (columns z.0) n y.0 y.1) at;
      }

  module _ (rows params : List Declared) (relations : List RelId) (sorts : List SortId) where
    -- the scope of a text, and that of the checks
    abbrev pub here : denoted.Scope
    here = record { names = names; rows = declared_texts rows; relations = relations; params = declared_texts params }

    abbrev pub checked : Scope
    checked = record { file = p; rows = rows; params = params }

    abbrev pub RowsDenote : Type 0
    RowsDenote = OneByOne (λ (r : Declared) (n : RelId). HasNumber (relation_names names) r.of.text n.n) rows relations

    abbrev pub ParamsDenote : Type 0
    ParamsDenote = OneByOne (λ (q : Declared) (s : SortId). HasNumber names.sorts q.of.text s.n) params sorts

    abbrev has_sort : Term → SortId → Type 0
    has_sort t s = sort_of shape relations sorts t ≡ Some s

    module _ (clear : IsClear here) (rows_denote : RowsDenote) (params_denote : ParamsDenote) where
      -- a cell of a row that may be used
      pub record IsGoodCell (row column : Name) (a : SortId) : Type 0 where
        pub passes : Passes (cell_checks checked row column)
        pub text : Text
        pub of : cell_sort checked row column ≡ Some text
        pub sort : HasNumber names.sorts text a.n

      pub cell-good : (row column : Name) (m n : ℕ) (a : SortId) → IsCell here row.text column.text m n → sort_of_base shape relations sorts (base.Cell m n) ≡ Some a
          → IsGoodCell row column a
      cell-good row column m n a cell sort =
          let w = map_from (λ (d : Declared). d.name.text) rows m row.text cell.0 in
          let found : IsFound rows row.text w.0 = declared_found rows m w.0 row.text clear.rows w.1 w.2 in
          let r : RelId = cell.1.0 in
          let is_relation : HasNumber (relation_names names) w.0.of.text r.n =
          one_by_one-at (λ (d : Declared) (n : RelId). HasNumber (relation_names names) d.of.text n.n) rows relations m w.0 r rows_denote w.1 cell.1.1 in
          let t = and_then_through (λ (q : RelId). option_and_then (λ (c : List SortId). slice_get c n) (columns_of shape q)) (slice_get relations m) a sort in
          let q = and_then_through (λ (c : List SortId). slice_get c n) (columns_of shape t.mid) a t.second in
          let same : t.mid ≡ r = one_value relations m t.mid r t.first cell.1.1 in
          let good : IsGoodColumn w.0.of.text column.text a =
          column-good w.0.of.text r column.text n q.mid a is_relation cell.1.2 (subst (λ (z : RelId). columns_of shape z ≡ Some q.mid) same q.first) q.second in
          let is : columns_of_row checked row ≡ columns_named p w.0.of.text = ap (λ (o : Option Text). option_map_or (columns_named p) o []) found.of in record {
            passes = pass_first (used_check (declared_texts rows) row) (used_check (declared_texts (columns_of_row checked row)) column ∷ []) (not-passes _ found.among)
                (pass_one (used_check (declared_texts (columns_of_row checked row)) column)
                (not-passes _ (subst (λ (ds : List Declared). is_among (declared_texts ds) column.text ≡ true) (sym is) good.among)));
            text = good.text;
            of = subst (λ (ds : List Declared). declared_of ds column.text ≡ Some good.text) (sym is) good.of;
            sort = good.sort;
          }

      -- names alone
      pub plain_texts : declared_texts (plain_names checked) ≡ names.constants ++ (names.vars ++ declared_texts params)
      plain_texts =
          let key : Declared → Text = λ d. d.name.text in
          let vars : declared_texts (map variable_sort p.variables) ≡ names.vars = map-map key variable_sort p.variables ∙ sym (vars_are p) in
          map-append key p.constants (map variable_sort p.variables ++ params)
          ∙ ap (λ (ts : List Text). ts ++ declared_texts (map variable_sort p.variables ++ params)) (sym (constants_are p))
          ∙ ap (λ (ts : List Text). names.constants ++ ts) (map-append key (map variable_sort p.variables) params ∙ ap (λ (ts : List Text). ts ++ declared_texts params) vars)

      plain_numbered : AreNumbered (declared_texts (plain_names checked))
      plain_numbered =
          subst AreNumbered (sym plain_texts)
          (numbered-append names.constants (names.vars ++ declared_texts params) clear.constants
          (numbered-append names.vars (declared_texts params) clear.vars clear.params clear.vars_params)
          (apart-append names.constants names.vars (declared_texts params) clear.constants_vars clear.constants_params))

      pub record IsGoodPlain (n : Name) (a : SortId) : Type 0 where
        pub passes : Passes (base_checks checked (placed.plain n))
        pub text : Text
        pub of : base_sort checked (placed.plain n) ≡ Some text
        pub sort : HasNumber names.sorts text a.n

      plain_at : (n : Name) (k : ℕ) (d : Declared) (a : SortId) → slice_get (plain_names checked) k ≡ Some d → d.name.text ≡ n.text → HasNumber names.sorts d.of.text a.n → IsGoodPlain n a
      plain_at n k d a at e sort =
          let found : IsFound (plain_names checked) n.text d = declared_found (plain_names checked) k d n.text plain_numbered at e in record {
            passes = pass_one (used_check (declared_texts (plain_names checked)) n) (not-passes _ found.among);
            text = d.of.text;
            of = found.of;
            sort = sort;
          }

      pub plain-good : (n : Name) (b : Base) (a : SortId) → IsNamed here n.text b → sort_of_base shape relations sorts b ≡ Some a → IsGoodPlain n a
      plain-good n (base.Var v) a named sort =
          let w = map_from (λ (x : placed.Variable). x.name.text) p.variables v.n n.text (subst (λ (ts : List Text). HasNumber ts n.text v.n) (vars_are p) named) in
          plain_at n (length p.constants + v.n) (variable_sort w.0) a
          (in_right p.constants (map variable_sort p.variables ++ params) v.n (variable_sort w.0) (in_left (map variable_sort p.variables) params v.n (variable_sort w.0) (map-at variable_sort p.variables v.n w.0 w.1))) w.2
          (one_by_one-at (λ (x : grammar.Variable). IsSortNamed names x.sort) (map variable_of p.variables) shape.vars v.n (variable_of w.0) a denotes.variables (map-at variable_of p.variables v.n w.0 w.1) sort)
      plain-good n (base.Constant c) a named sort =
          let w = map_from (λ (x : Declared). x.name.text) p.constants c.n n.text (subst (λ (ts : List Text). HasNumber ts n.text c.n) (constants_are p) named) in
          plain_at n c.n w.0 a (in_left p.constants (map variable_sort p.variables ++ params) c.n w.0 w.1) w.2
          (one_by_one-at (λ (x : grammar.Constant). IsSortNamed names x.sort) (map constant_of p.constants) shape.schema.constants c.n (constant_of w.0) a denotes.constants (map-at constant_of p.constants c.n w.0 w.1) sort)
      plain-good n (base.Param q) a named sort =
          let w = map_from (λ (x : Declared). x.name.text) params q n.text named in
          plain_at n (length p.constants + (length (map variable_sort p.variables) + q)) w.0 a
          (in_right p.constants (map variable_sort p.variables ++ params) (length (map variable_sort p.variables) + q) w.0 (in_right (map variable_sort p.variables) params q w.0 w.1)) w.2
          (one_by_one-at (λ (d : Declared) (s : SortId). HasNumber names.sorts d.of.text s.n) params sorts q w.0 a params_denote w.1 sort)
      plain-good n (base.Cell i j) a named sort = absurd named
      plain-good n (base.Undef s) a named sort = absurd named

      -- functions around a base
      pub record IsGoodWithin (fs : List Name) (b : placed.Base) (a : SortId) : Type 0 where
        pub functions : Passes (map (used_check (function_texts p.functions)) fs)
        pub inside : Passes (base_checks checked b)
        pub arguments : Passes (argument_checks checked fs b)
        pub sort : IsSortText (sort_within checked fs b) a
        pub undef_only : sort_within checked fs b ≡ None → IsUndef (called_of fs b)

      pub within-good : (fs : List Name) (b : placed.Base) (u : Term) (a : SortId) → TermDenotes here (called_of fs b) u → has_sort u a → IsGoodWithin fs b a
      within-good [] (placed.undef place) u a h sort = record { functions = refl; inside = refl; arguments = refl; sort = tt; undef_only = λ e. tt }
      within-good [] (placed.plain n) u a h sort =
          let good : IsGoodPlain n a = plain-good n h.0 a h.1 (bare-sort shape relations sorts h.0 a (subst (λ t. has_sort t a) h.2 sort)) in record {
            functions = refl;
            inside = good.passes;
            arguments = refl;
            sort = is_sort_text (base_sort checked (placed.plain n)) good.text a good.of good.sort;
            undef_only = λ e. absurd (some_not_none (base_sort checked (placed.plain n)) good.text good.of e);
          }
      within-good [] (placed.cell row column) u a h sort =
          let good : IsGoodCell row column a = cell-good row column h.0 h.1 a h.2 (bare-sort shape relations sorts (base.Cell h.0 h.1) a (subst (λ t. has_sort t a) h.3 sort)) in record {
            functions = refl;
            inside = good.passes;
            arguments = refl;
            sort = is_sort_text (cell_sort checked row column) good.text a good.of good.sort;
            undef_only = λ e. absurd (some_not_none (cell_sort checked row column) good.text good.of e);
          }
      within-good (f ∷ fs) b u a h sort =
          let inside = image-inside shape relations sorts h.0 h.1 a (subst (λ t. has_sort t a) h.4 sort) in
          let more : IsGoodWithin fs b inside.argument = within-good fs b h.0 inside.argument h.2 inside.known in
          let number : HasNumber (function_texts p.functions) f.text h.1.n = subst (λ (ts : List Text). HasNumber ts f.text h.1.n) (functions_are p) h.3 in
          let z = map_from (λ (g : placed.Function). g.name.text) p.functions h.1.n f.text number in
          let found : function_named p f.text ≡ Some z.0 =
          found_at (λ (g : placed.Function). g.name.text) p.functions h.1.n z.0 f.text (subst AreNumbered (functions_are p) clear.functions) z.1 z.2 in
          let source : source_of p f ≡ Some z.0.source.text = ap (option_map (λ (g : placed.Function). g.source.text)) found in
          let target : target_of p f ≡ Some z.0.target.text = ap (option_map (λ (g : placed.Function). g.target.text)) found in
          let denotes_it : FunctionDenotes names (function_of z.0) inside.decl =
          one_by_one-at (FunctionDenotes names) (map function_of p.functions) shape.schema.functions h.1.n (function_of z.0) inside.decl denotes.functions (map-at function_of p.functions h.1.n z.0 z.1) inside.is_decl in
          let source_sort : IsSortText (source_of p f) inside.argument =
          is_sort_text (source_of p f) z.0.source.text inside.argument source (subst (λ (s : SortId). HasNumber names.sorts z.0.source.text s.n) inside.source denotes_it.source) in
          let last : Check = check f.at WrongSort (not (agree (source_of p f) (sort_within checked fs b))) in record {
            functions = pass_first (used_check (function_texts p.functions) f) (map (used_check (function_texts p.functions)) fs) (not-passes _ (among_at (function_texts p.functions) f.text h.1.n number)) more.functions;
            inside = more.inside;
            arguments = pass_both (argument_checks checked fs b) (last ∷ []) more.arguments
                (pass_one last (not-passes _ (agree-good (source_of p f) (sort_within checked fs b) inside.argument source_sort more.sort (λ n m. some_not_none (source_of p f) z.0.source.text source n))));
            sort = is_sort_text (target_of p f) z.0.target.text a target (subst (λ (s : SortId). HasNumber names.sorts z.0.target.text s.n) inside.target_is denotes_it.target);
            undef_only = λ e. absurd (some_not_none (target_of p f) z.0.target.text target e);
          }

      pub term-passes : (t : placed.Term) (u : Term) (a : SortId) → TermDenotes here (term_of t) u → has_sort u a → Passes (term_checks checked t)
      term-passes t u a h sort =
          let good = within-good t.functions t.base u a h sort in
          pass_both (map (used_check (function_texts p.functions)) t.functions) (base_checks checked t.base ++ argument_checks checked t.functions t.base) good.functions
          (pass_both (base_checks checked t.base) (argument_checks checked t.functions t.base) good.inside good.arguments)

      pub literal-passes : (limit n : ℕ) (l : placed.Literal) (x : Literal) → n < limit → LiteralDenotes here (literal_of l) x → LiteralFits shape relations sorts x
          → Passes (literal_checks checked limit n l)
      literal-passes limit n l (Equal left right same) lt h fits =
          let a : SortId = fits.0 in
          let one = within-good l.left.functions l.left.base left a h.0 fits.1 in
          let other = within-good l.right.functions l.right.base right a h.1 fits.2 in
          let last : Check = check l.at WrongSort (not (agree (term_sort checked l.left) (term_sort checked l.right))) in
          pass_first (check (term_place l.left) TooWide (nat_le limit n)) (term_checks checked l.left ++ (term_checks checked l.right ++ (last ∷ []))) (below limit n limit lt (omega arith))
          (pass_both (term_checks checked l.left) (term_checks checked l.right ++ (last ∷ [])) (term-passes l.left left a h.0 fits.1)
          (pass_both (term_checks checked l.right) (last ∷ []) (term-passes l.right right a h.1 fits.2)
          (pass_one last (not-passes _ (agree-good (term_sort checked l.left) (term_sort checked l.right) a one.sort other.sort (λ e i. h.3 (one.undef_only e, other.undef_only i)))))))

      pub conjunction-passes : (limit : ℕ) (c : placed.Conjunction) (xs : List Literal) → length xs ≤ limit → ConjunctionDenotes here (conjunction_of c) xs
          → All (LiteralFits shape relations sorts) xs → Passes (conjunction_checks checked limit c)
      conjunction-passes limit c xs le h fits =
          let unplaced : OneByOne (λ (l : placed.Literal) (x : Literal). LiteralDenotes here (literal_of l) x) (literals c) xs =
          one_by_one-map (LiteralDenotes here) literal_of (literals c) xs (subst (λ (ls : List grammar.Literal). OneByOne (LiteralDenotes here) ls xs) (literals_are c) h) in
          pass_each (literal_checks checked limit) (literals c) (λ k l e.
          let x = one_by_one-to (λ (m : placed.Literal) (y : Literal). LiteralDenotes here (literal_of m) y) (literals c) xs k l unplaced e in
          literal-passes limit k l x.0 (let lt : k < length xs = slice_get_within xs k x.0 x.1 in omega (arith, lt, le)) x.2 (all-at (LiteralFits shape relations sorts) xs k x.0 fits x.1))
        where
          literals_are : (d : placed.Conjunction) → parts.literals (conjunction_of d) ≡ map literal_of (literals d)
          literals_are (placed.always place) = refl
          literals_are (placed.all l ls) = refl

      -- a guard whose first disjunct has the number n
      pub disjunct-passes : (n : ℕ) (c : placed.Conjunction) (xs : List Literal) → n < 64 → length xs ≤ 128 → ConjunctionDenotes here (conjunction_of c) xs
          → All (LiteralFits shape relations sorts) xs → Passes (disjunct_checks checked n c)
      disjunct-passes n c xs lt le h fits =
          pass_first (check (disjunct_place c) TooWide (nat_le 64 n)) (conjunction_checks checked 128 c) (below 64 n 64 lt (omega arith)) (conjunction-passes 128 c xs le h fits)
