-- Where the checks of a term or literal pass, it denotes.
use Rattle.std.proofs.Common.{◌≡◌, ℕ, ◌<◌, ◌≤◌, true, false, List, [], ◌∷◌, ◌++◌, length, map, refl, sym, ◌∙◌, ap, subst, arith, ⊎_elim}
use Rattle.std.specs.Prelude.{Option, Some, None, slice_get, option_map, option_and_then, not, All, nat_le}
use Rattle.std.specs.Option.{option_map_or}
use Rattle.std.proofs.lemmas.List.{length-map}
use Rattle.std.proofs.lemmas.Option.{slice_get_within}
use Rattle.ras_logic.specs.declared.ids.SortId.{SortId}
use Rattle.ras_logic.specs.declared.ids.FunId.{FunId}
use Rattle.ras_logic.specs.declared.ids.RelId.{RelId}
use Rattle.ras_logic.specs.declared.function.FunDecl.{FunDecl}
use Rattle.ras_logic.specs.declared.term.Base.{Base}
use Rattle.ras_logic.specs.declared.term.Base.TheVariants as base
use Rattle.ras_logic.specs.declared.term.Term.{Term}
use Rattle.ras_logic.specs.declared.literal.Literal.{Literal}
use Rattle.ras_logic.specs.declared.literal.Literal.TheVariants.{Equal}
use Rattle.ras_logic.specs.Shapes.{ShapeParts, columns_of}
use Rattle.ras_logic.specs.Terms.{base_term, image_term, undef_term, sort_of, sort_of_base, sort_after, sort_along}
use Rattle.ras_logic.specs.Formulas.{LiteralFits}
use Rattle.ras_logic.proofs.TermSorts.{and_then_through, and_then_from, sort_along-append, sort_after-known, sort_of-undef}
use Rattle.ras_syntax.specs.Grammar as grammar
use Rattle.ras_syntax.specs.Grammar.{Text}
use Rattle.ras_names.specs.declared.names.Names.{Names}
use Rattle.ras_names.specs.declared.spec_fault.SpecKind.TheVariants.{WrongSort, TooWide}
use Rattle.ras_names.specs.Lists.{HasNumber, OneByOne}
use Rattle.ras_names.specs.FileParts as parts
use Rattle.ras_names.specs.FileNames.{names_of_relation}
use Rattle.ras_names.specs.NewNames.{relation_names}
use Rattle.ras_names.specs.Terms as denoted
use Rattle.ras_names.specs.Terms.{IsColumn, IsCell, IsNamed, TermDenotes, IsUndef, LiteralDenotes, ConjunctionDenotes}
use Rattle.ras_names.specs.Files.{IsSortNamed, FunctionDenotes, ColumnsDenote}
use Rattle.ras_names.specs.Placed as placed
use Rattle.ras_names.specs.Placed.{Name, Declared, columns, literals, term_place, disjunct_place}
use Rattle.ras_names.specs.Unplaced.{function_of, constant_of, variable_of, column_of, relation_of, called_of, term_of, literal_of, conjunction_of, file_of}
use Rattle.ras_names.specs.Checks.{Check, check, is_among, declared_texts, used_check}
use Rattle.ras_names.specs.TermChecks.{Scope, agree, columns_named, function_named, function_texts, source_of, target_of, plain_names, columns_of_row, cell_checks, cell_sort, base_checks, base_sort, sort_within, argument_checks, term_sort, term_checks, literal_checks, conjunction_checks, disjunct_checks}
use Rattle.ras_names.proofs.Numbered.{in_either_at, AreNumbered}
use Rattle.ras_names.proofs.Together.{one_by_one-to, one_by_one-made, one_by_one-mapped, one_by_one-length, one_by_one-gives, one_by_one-weaker}
use Rattle.ras_names.proofs.OneTerm.{IsClear}
use Rattle.ras_names.proofs.OneStep.{is_undef_or_not}
use Rattle.ras_names.proofs.ClearNames.{relations-numbered, sorts-numbered}
use Rattle.ras_names.proofs.Passing.{Passes, passed_first, passed_both, passed_each, passed-not}
use Rattle.ras_names.proofs.Among.{text_same, found_at}
use Rattle.ras_names.proofs.NameLists.{functions_are, constants_are, vars_are, relations_are, columns_are}
use Rattle.ras_names.proofs.PassTerms.{IsDeclared, names, IsSortText, is_sort_text, IsFound, declared_found, here, checked, RowsDenote, ParamsDenote, cell-good, plain-good, plain_texts}
use Rattle.ras_names.proofs.MadeNames.{within_limit}
use Rattle.std.proofs.lemmas.Map.Views.{Contains-from_any}
use Rattle.ras_logic.proofs.ByPlace.{contains-at, map-at, map_from}

-- a name that is among others has a number
pub number_of : (names : List Text) (name : Text) → is_among names name ≡ true → (k : ℕ) × HasNumber names name k
number_of names name h = contains-at names name (Contains-from_any text_same name names h)

-- the sort of the image of a term
pub image-sorted : (shape : ShapeParts) (rows : List RelId) (params : List SortId) (t : Term) (f : FunId) (d : FunDecl) → sort_of shape rows params t ≡ Some d.source
    → slice_get shape.schema.functions f.n ≡ Some d → sort_of shape rows params (image_term t f) ≡ Some d.target
image-sorted shape rows params t f d h known =
    let schema = shape.schema in
    let a = and_then_through (sort_along schema t.path) (sort_of_base shape rows params t.base) d.source h in
    let last : sort_along schema (f ∷ []) d.source ≡ Some d.target = and_then_from (sort_along schema []) (sort_after schema f d.source) d.target d.target (sort_after-known schema f d known) refl in
    and_then_from (sort_along schema (t.path ++ f ∷ [])) (sort_of_base shape rows params t.base) a.mid d.target a.first
    (sort_along-append schema t.path (f ∷ []) a.mid ∙ and_then_from (sort_along schema (f ∷ [])) (sort_along schema t.path a.mid) d.source d.target a.second last)

pub base-sorted : (shape : ShapeParts) (rows : List RelId) (params : List SortId) (b : Base) (s : SortId) → sort_of_base shape rows params b ≡ Some s
    → sort_of shape rows params (base_term b) ≡ Some s
base-sorted shape rows params b s h = and_then_from (sort_along shape.schema []) (sort_of_base shape rows params b) s s h refl

module _ (p : placed.File) (shape : ShapeParts) (declared : IsDeclared (file_of p) shape) (sorts_are_all : shape.schema.sorts ≡ length p.sorts) where
  abbrev all : Names
  all = names p shape declared

  pub is_sort : (text : Text) (a : SortId) → HasNumber all.sorts text a.n → a.n < shape.schema.sorts
  is_sort text a h =
      let lt : a.n < length all.sorts = slice_get_within all.sorts a.n text h in
      let e : length all.sorts ≡ length p.sorts = length-map (map (λ (n : Name). record { name = n.text }) p.sorts) (λ (s : grammar.Sort). s.name) ∙ length-map p.sorts (λ (n : Name). record { name = n.text }) in
      omega (arith, lt, e, sorts_are_all)

  -- one sort of one name
  pub one_sort : (text : Text) (a b : SortId) → HasNumber all.sorts text a.n → HasNumber all.sorts text b.n → a ≡ b
  one_sort text a b h k = ap (λ (n : ℕ). record { n = n }) (sorts-numbered all declared.new_names text a.n b.n h k)

  -- a column that is found by its name
  pub record IsColumnMade (r : RelId) (column : Text) : Type 0 where
    pub number : ℕ
    pub is_column : IsColumn all r column number
    pub sorts : List SortId
    pub found : columns_of shape r ≡ Some sorts
    pub sort : SortId
    pub at : slice_get sorts number ≡ Some sort

  pub column-made : (relation : Text) (r : RelId) (column : Text) → HasNumber (relation_names all) relation r.n → is_among (declared_texts (columns_named p relation)) column ≡ true
      → IsColumnMade r column
  column-made relation r column h among =
      let z = map_from (λ (q : placed.Relation). q.name.text) p.relations r.n relation (subst (λ (ts : List Text). HasNumber ts relation r.n) (relations_are p) h) in
      let is : columns_named p relation ≡ columns z.0 =
      ap (λ (o : Option placed.Relation). option_map_or columns o [])
      (found_at (λ (q : placed.Relation). q.name.text) p.relations r.n z.0 relation (subst AreNumbered (relations_are p) (relations-numbered all declared.new_names)) z.1 z.2) in
      let number = number_of (declared_texts (columns z.0)) column (subst (λ (ds : List Declared). is_among (declared_texts ds) column ≡ true) is among) in
      let sorts = one_by_one-to (ColumnsDenote all) (map relation_of p.relations) shape.relations r.n (relation_of z.0) declared.relations (map-at relation_of p.relations r.n z.0 z.1) in
      let y = map_from (λ (d : Declared). d.name.text) (columns z.0) number.0 column number.1 in
      let sort = one_by_one-to (λ (c : grammar.Column). IsSortNamed all c.sort) (parts.columns (relation_of z.0)) sorts.0 number.0 (column_of y.0) sorts.2 (map-at column_of (columns z.0) number.0 y.0 y.1) in record {
        number = number.0;
        is_column = (
          names_of_relation (relation_of z.0),
          map-at names_of_relation (map relation_of p.relations) r.n (relation_of z.0) (map-at relation_of p.relations r.n z.0 z.1),
          subst (λ (ts : List Text). HasNumber ts column number.0) (sym (columns_are z.0)) number.1,
        );
        sorts = sorts.0;
        found = sorts.1;
        sort = sort.0;
        at = sort.1;
      }

  module _ (rows params : List Declared) (relations : List RelId) (sorts : List SortId) (clear : IsClear (here p shape declared rows params relations sorts)) (rows_denote : RowsDenote p shape declared rows params relations sorts) (params_denote : ParamsDenote p shape declared rows params relations sorts) where
    abbrev scope : denoted.Scope
    scope = here p shape declared rows params relations sorts

    abbrev seen : Scope
    seen = checked p shape declared rows params relations sorts

    abbrev has_sort : Term → SortId → Type 0
    has_sort t s = sort_of shape relations sorts t ≡ Some s

    -- `row.column`
    pub record IsCellMade (row column : Name) : Type 0 where
      pub row_number : ℕ
      pub number : ℕ
      pub is_cell : IsCell scope row.text column.text row_number number
      pub sort : SortId
      pub has : sort_of_base shape relations sorts (base.Cell row_number number) ≡ Some sort

    pub cell-made : (row column : Name) → Passes (cell_checks seen row column) → IsCellMade row column
    cell-made row column pass =
        let second : Check = used_check (declared_texts (columns_of_row seen row)) column in
        let a = passed_first (used_check (declared_texts rows) row) (second ∷ []) pass in
        let b = passed_first second [] a.1 in
        let m = number_of (declared_texts rows) row.text (passed-not _ a.0) in
        let w = map_from (λ (d : Declared). d.name.text) rows m.0 row.text m.1 in
        let r = one_by_one-to (λ (d : Declared) (n : RelId). HasNumber (relation_names all) d.of.text n.n) rows relations m.0 w.0 rows_denote w.1 in
        let found : IsFound rows row.text w.0 = declared_found rows m.0 w.0 row.text clear.rows w.1 w.2 in
        let is : columns_of_row seen row ≡ columns_named p w.0.of.text = ap (λ (o : Option Text). option_map_or (columns_named p) o []) found.of in
        let c = column-made w.0.of.text r.0 column.text r.2 (subst (λ (ds : List Declared). is_among (declared_texts ds) column.text ≡ true) is (passed-not _ b.0)) in record {
          row_number = m.0;
          number = c.number;
          is_cell = (m.1, (r.0, r.1, c.is_column));
          sort = c.sort;
          has = and_then_from (λ (q : RelId). option_and_then (λ (cs : List SortId). slice_get cs c.number) (columns_of shape q)) (slice_get relations m.0) r.0 c.sort r.1
              (and_then_from (λ (cs : List SortId). slice_get cs c.number) (columns_of shape r.0) c.sorts c.sort c.found c.at);
        }

    -- a name alone
    record IsPlainMade (n : Name) : Type 0 where
      base : Base
      named : IsNamed scope n.text base
      sort : SortId
      has : sort_of_base shape relations sorts base ≡ Some sort

    plain-made : (n : Name) → is_among (declared_texts (plain_names seen)) n.text ≡ true → IsPlainMade n
    plain-made n among =
        let k = number_of (declared_texts (plain_names seen)) n.text among in
        let number : HasNumber (all.constants ++ (all.vars ++ declared_texts params)) n.text k.0 =
        subst (λ (ts : List Text). HasNumber ts n.text k.0) (plain_texts p shape declared rows params relations sorts clear rows_denote params_denote) k.1 in
        ⊎_elim (λ c. of_constant k.0 c)
        (λ later. ⊎_elim (λ v. of_var later.0 v) (λ q. of_param q.0 q.2) (in_either_at all.vars (declared_texts params) later.0 n.text later.2))
        (in_either_at all.constants (all.vars ++ declared_texts params) k.0 n.text number)
      where
        of_constant : (i : ℕ) → HasNumber all.constants n.text i → IsPlainMade n
        of_constant i h =
            let w = map_from (λ (x : Declared). x.name.text) p.constants i n.text (subst (λ (ts : List Text). HasNumber ts n.text i) (constants_are p) h) in
            let s = one_by_one-to (λ (x : grammar.Constant). IsSortNamed all x.sort) (map constant_of p.constants) shape.schema.constants i (constant_of w.0) declared.constants (map-at constant_of p.constants i w.0 w.1) in
            record { base = base.Constant (record { n = i }); named = h; sort = s.0; has = s.1 }

        of_var : (i : ℕ) → HasNumber all.vars n.text i → IsPlainMade n
        of_var i h =
            let w = map_from (λ (x : placed.Variable). x.name.text) p.variables i n.text (subst (λ (ts : List Text). HasNumber ts n.text i) (vars_are p) h) in
            let s = one_by_one-to (λ (x : grammar.Variable). IsSortNamed all x.sort) (map variable_of p.variables) shape.vars i (variable_of w.0) declared.variables (map-at variable_of p.variables i w.0 w.1) in
            record { base = base.Var (record { n = i }); named = h; sort = s.0; has = s.1 }

        of_param : (i : ℕ) → HasNumber (declared_texts params) n.text i → IsPlainMade n
        of_param i h =
            let w = map_from (λ (x : Declared). x.name.text) params i n.text h in
            let s = one_by_one-to (λ (x : Declared) (a : SortId). HasNumber all.sorts x.of.text a.n) params sorts i w.0 params_denote w.1 in
            record { base = base.Param i; named = h; sort = s.0; has = s.1 }

    -- A term, where this sort is wanted of a bare undef.
    pub record IsMade (fs : List Name) (b : placed.Base) (w : SortId) : Type 0 where
      pub term : Term
      pub sort : SortId
      pub denotes : TermDenotes scope (called_of fs b) term
      pub has : has_sort term sort
      pub is_sort_of : sort.n < shape.schema.sorts
      pub text : IsSortText p shape declared (sort_within seen fs b) sort
      pub wanted : sort_within seen fs b ≡ None → sort ≡ w
      pub some : (IsUndef (called_of fs b) → ⊥) → sort_within seen fs b ≡ None → ⊥

    none_is : (o : Option Text) (text : Text) (A : Type 0) → o ≡ Some text → o ≡ None → A
    none_is o text A e n = absurd (let q : ◌≡◌ {A = Option Text} (Some text) None = sym e ∙ n in cc)

    -- a sort that agrees with a named one is that one
    pub agreed : (text : Text) (o : Option Text) (a s : SortId) → HasNumber all.sorts text a.n → IsSortText p shape declared o s → (o ≡ None → s ≡ a) → agree (Some text) o ≡ true → s ≡ a
    agreed text None a s h k wanted e = wanted refl
    agreed text (Some u) a s h k wanted e = one_sort u s a k (subst (λ (t : Text). HasNumber all.sorts t a.n) (text_same text u e) h)

    pub made-within : (fs : List Name) (b : placed.Base) (w : SortId) → Passes (map (used_check (function_texts p.functions)) fs) → Passes (base_checks seen b) → Passes (argument_checks seen fs b)
        → (IsUndef (called_of fs b) → w.n < shape.schema.sorts) → IsMade fs b w
    made-within [] (placed.undef place) w names_pass base_pass pass good = record {
      term = undef_term w;
      sort = w;
      denotes = (w, refl);
      has = sort_of-undef shape relations sorts w (good tt);
      is_sort_of = good tt;
      text = tt;
      wanted = λ e. refl;
      some = λ is_not e. is_not tt;
    }
    made-within [] (placed.plain n) w names_pass base_pass pass good =
        let m = plain-made n (passed-not _ (passed_first (used_check (declared_texts (plain_names seen)) n) [] base_pass).0) in
        let g = plain-good p shape declared rows params relations sorts clear rows_denote params_denote n m.base m.sort m.named m.has in record {
          term = base_term m.base;
          sort = m.sort;
          denotes = (m.base, m.named, refl);
          has = base-sorted shape relations sorts m.base m.sort m.has;
          is_sort_of = is_sort g.text m.sort g.sort;
          text = is_sort_text p shape declared (base_sort seen (placed.plain n)) g.text m.sort g.of g.sort;
          wanted = none_is (base_sort seen (placed.plain n)) g.text (m.sort ≡ w) g.of;
          some = λ is_not. none_is (base_sort seen (placed.plain n)) g.text ⊥ g.of;
        }
    made-within [] (placed.cell row column) w names_pass base_pass pass good =
        let m = cell-made row column base_pass in
        let g = cell-good p shape declared rows params relations sorts clear rows_denote params_denote row column m.row_number m.number m.sort m.is_cell m.has in record {
          term = base_term (base.Cell m.row_number m.number);
          sort = m.sort;
          denotes = (m.row_number, m.number, m.is_cell, refl);
          has = base-sorted shape relations sorts (base.Cell m.row_number m.number) m.sort m.has;
          is_sort_of = is_sort g.text m.sort g.sort;
          text = is_sort_text p shape declared (cell_sort seen row column) g.text m.sort g.of g.sort;
          wanted = none_is (cell_sort seen row column) g.text (m.sort ≡ w) g.of;
          some = λ is_not. none_is (cell_sort seen row column) g.text ⊥ g.of;
        }
    made-within (f ∷ fs) b w names_pass base_pass pass good =
        let n = passed_first (used_check (function_texts p.functions) f) (map (used_check (function_texts p.functions)) fs) names_pass in
        let last : Check = check f.at WrongSort (not (agree (source_of p f) (sort_within seen fs b))) in
        let arguments = passed_both (argument_checks seen fs b) (last ∷ []) pass in
        let k = number_of (function_texts p.functions) f.text (passed-not _ n.0) in
        let z = map_from (λ (g : placed.Function). g.name.text) p.functions k.0 f.text k.1 in
        let number : HasNumber all.functions f.text k.0 = subst (λ (ts : List Text). HasNumber ts f.text k.0) (sym (functions_are p)) k.1 in
        let found : function_named p f.text ≡ Some z.0 =
        found_at (λ (g : placed.Function). g.name.text) p.functions k.0 z.0 f.text (subst AreNumbered (functions_are p) clear.functions) z.1 z.2 in
        let source : source_of p f ≡ Some z.0.source.text = ap (option_map (λ (g : placed.Function). g.source.text)) found in
        let target : target_of p f ≡ Some z.0.target.text = ap (option_map (λ (g : placed.Function). g.target.text)) found in
        let d = one_by_one-to (FunctionDenotes all) (map function_of p.functions) shape.schema.functions k.0 (function_of z.0) declared.functions (map-at function_of p.functions k.0 z.0 z.1) in
        let inner : IsMade fs b d.0.source = made-within fs b d.0.source n.1 base_pass arguments.0 (λ undef. is_sort z.0.source.text d.0.source d.2.source) in
        let fits : agree (Some z.0.source.text) (sort_within seen fs b) ≡ true =
        subst (λ (o : Option Text). agree o (sort_within seen fs b) ≡ true) source (passed-not _ (passed_first last [] arguments.1).0) in
        let same : inner.sort ≡ d.0.source = agreed z.0.source.text (sort_within seen fs b) d.0.source inner.sort d.2.source inner.text inner.wanted fits in
        let id : FunId = record { n = k.0 } in record {
          term = image_term inner.term id;
          sort = d.0.target;
          denotes = (inner.term, id, inner.denotes, number, refl);
          has = image-sorted shape relations sorts inner.term id d.0 (subst (has_sort inner.term) same inner.has) d.1;
          is_sort_of = is_sort z.0.target.text d.0.target d.2.target;
          text = is_sort_text p shape declared (target_of p f) z.0.target.text d.0.target target d.2.target;
          wanted = none_is (target_of p f) z.0.target.text (d.0.target ≡ w) target;
          some = λ is_not. none_is (target_of p f) z.0.target.text ⊥ target;
        }

    pub made-term : (t : placed.Term) (w : SortId) → Passes (term_checks seen t) → (IsUndef (term_of t) → w.n < shape.schema.sorts) → IsMade t.functions t.base w
    made-term t w pass good =
        let a = passed_both (map (used_check (function_texts p.functions)) t.functions) (base_checks seen t.base ++ argument_checks seen t.functions t.base) pass in
        let b = passed_both (base_checks seen t.base) (argument_checks seen t.functions t.base) a.1 in
        made-within t.functions t.base w a.0 b.0 b.1 good

    -- both sides of a sign that agree have one sort
    pub sides : (s t : Option Text) (a b : SortId) → IsSortText p shape declared s a → IsSortText p shape declared t b → (t ≡ None → b ≡ a) → (s ≡ None → ⊥) → agree s t ≡ true → b ≡ a
    sides None t a b h k wanted some e = absurd (some refl)
    sides (Some s) t a b h k wanted some e = agreed s t a b h k wanted e

    undef_none : (fs : List Name) (b : placed.Base) → IsUndef (called_of fs b) → sort_within seen fs b ≡ None
    undef_none [] (placed.undef place) h = refl
    undef_none [] (placed.plain n) h = absurd h
    undef_none [] (placed.cell row column) h = absurd h
    undef_none (f ∷ fs) b h = absurd h

    not_both : (o : Option Text) → agree None o ≡ true → o ≡ None → ⊥
    not_both None h e = cc
    not_both (Some t) h e = cc

    abbrev pub Good : placed.Literal → Literal → Type 0
    Good l x = LiteralDenotes scope (literal_of l) x × LiteralFits shape relations sorts x

    pub made-literal : (limit n : ℕ) (l : placed.Literal) → Passes (literal_checks seen limit n l) → (nat_le limit n ≡ false) × ((x : Literal) × Good l x)
    made-literal limit n l pass =
        let last : Check = check l.at WrongSort (not (agree (term_sort seen l.left) (term_sort seen l.right))) in
        let a = passed_first (check (term_place l.left) TooWide (nat_le limit n)) (term_checks seen l.left ++ (term_checks seen l.right ++ (last ∷ []))) pass in
        let b = passed_both (term_checks seen l.left) (term_checks seen l.right ++ (last ∷ [])) a.1 in
        let c = passed_both (term_checks seen l.right) (last ∷ []) b.1 in
        let fits : agree (term_sort seen l.left) (term_sort seen l.right) ≡ true = passed-not _ (passed_first last [] c.1).0 in
        (a.0, ⊎_elim (λ u. left_undef b.0 c.0 fits u) (λ u. left_not b.0 c.0 fits u) (is_undef_or_not (term_of l.left)))
      where
        any_sort : SortId
        any_sort = record { n = 0 }

        left_undef : Passes (term_checks seen l.left) → Passes (term_checks seen l.right) → agree (term_sort seen l.left) (term_sort seen l.right) ≡ true → IsUndef (term_of l.left) → (x : Literal) × Good l x
        left_undef one other fits u =
            let none : term_sort seen l.left ≡ None = undef_none l.left.functions l.left.base u in
            let some : term_sort seen l.right ≡ None → ⊥ = not_both (term_sort seen l.right) (subst (λ (o : Option Text). agree o (term_sort seen l.right) ≡ true) none fits) in
            let no_undef : IsUndef (term_of l.right) → ⊥ = λ v. some (undef_none l.right.functions l.right.base v) in
            let r = made-term l.right any_sort other (λ v. absurd (no_undef v)) in
            let q = made-term l.left r.sort one (λ v. r.is_sort_of) in
            (Equal q.term r.term l.equal, ((q.denotes, r.denotes, refl, λ h. no_undef h.1), (r.sort, subst (has_sort q.term) (q.wanted none) q.has, r.has)))

        left_not : Passes (term_checks seen l.left) → Passes (term_checks seen l.right) → agree (term_sort seen l.left) (term_sort seen l.right) ≡ true → (IsUndef (term_of l.left) → ⊥) → (x : Literal) × Good l x
        left_not one other fits u =
            let q = made-term l.left any_sort one (λ v. absurd (u v)) in
            let r = made-term l.right q.sort other (λ v. q.is_sort_of) in
            let same : r.sort ≡ q.sort = sides (term_sort seen l.left) (term_sort seen l.right) q.sort r.sort q.text r.text r.wanted (q.some u) fits in
            (Equal q.term r.term l.equal, ((q.denotes, r.denotes, refl, λ h. u h.0), (q.sort, q.has, subst (has_sort r.term) same r.has)))

    pub record IsConjunctionMade (limit : ℕ) (c : placed.Conjunction) : Type 0 where
      pub made_of : List Literal
      pub denotes : ConjunctionDenotes scope (conjunction_of c) made_of
      pub fits : All (LiteralFits shape relations sorts) made_of
      pub within : length made_of ≤ limit

    pub made-conjunction : (limit : ℕ) (c : placed.Conjunction) → Passes (conjunction_checks seen limit c) → IsConjunctionMade limit c
    made-conjunction limit c pass =
        let xs = one_by_one-made Good (literals c) (λ k l at. (made-literal limit k l (passed_each (literal_checks seen limit) (literals c) pass k l at)).1) in
        let denotes : placed.Literal → Literal → Type 0 = λ l x. LiteralDenotes scope (literal_of l) x in
        let bare : OneByOne denotes (literals c) xs.0 = one_by_one-weaker Good denotes (literals c) xs.0 xs.1 (λ l x h. h.0) in
        let count : length (literals c) ≡ length xs.0 = one_by_one-length Good (literals c) xs.0 xs.1 in
        let le : length (literals c) ≤ limit = within_limit limit (literals c) (λ k l at. (made-literal limit k l (passed_each (literal_checks seen limit) (literals c) pass k l at)).0) in record {
          made_of = xs.0;
          denotes = subst (λ (ls : List grammar.Literal). OneByOne (LiteralDenotes scope) ls xs.0) (sym (literals_are c)) (one_by_one-mapped (LiteralDenotes scope) literal_of (literals c) xs.0 bare);
          fits = one_by_one-gives Good (LiteralFits shape relations sorts) (literals c) xs.0 xs.1 (λ k l x at h. h.1);
          within = omega (arith, count, le);
        }
      where
        literals_are : (d : placed.Conjunction) → parts.literals (conjunction_of d) ≡ map literal_of (literals d)
        literals_are (placed.always place) = refl
        literals_are (placed.all l ls) = refl

    -- the n-th disjunct
    pub made-disjunct : (n : ℕ) (c : placed.Conjunction) → Passes (disjunct_checks seen n c) → (nat_le 64 n ≡ false) × IsConjunctionMade 128 c
    made-disjunct n c pass =
        let a = passed_first (check (disjunct_place c) TooWide (nat_le 64 n)) (conjunction_checks seen 128 c) pass in (a.0, made-conjunction 128 c a.1)
