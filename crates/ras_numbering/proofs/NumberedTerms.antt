-- A term or literal that is denoted, and has a sort, is the value of the text.
use Rattle.std.proofs.Common.{◌≡◌, ℕ, List, [], ◌∷◌, map, refl, sym, ◌∙◌, ap, subst}
use Rattle.std.specs.Prelude.{Option, Some, None, slice_get, option_map, All, position, reverse}
use Rattle.std.specs.Option.{option_map_or}
use Rattle.std.specs.Str.{bytes_eq}
use Rattle.std.proofs.lemmas.List.{reverse-append}
use Rattle.ras_logic.specs.declared.ids.SortId.{SortId}
use Rattle.ras_logic.specs.declared.ids.FunId.{FunId}
use Rattle.ras_logic.specs.declared.ids.ConstId.{ConstId}
use Rattle.ras_logic.specs.declared.ids.RelId.{RelId}
use Rattle.ras_logic.specs.declared.term.Base.{Base}
use Rattle.ras_logic.specs.declared.term.Base.TheVariants as base
use Rattle.ras_logic.specs.declared.term.Term.{Term}
use Rattle.ras_logic.specs.declared.literal.Literal.{Literal}
use Rattle.ras_logic.specs.declared.literal.Literal.TheVariants.{Equal}
use Rattle.ras_logic.specs.Shapes.{ShapeParts}
use Rattle.ras_logic.specs.Terms.{base_term, image_term, sort_of}
use Rattle.ras_logic.specs.Formulas.{LiteralFits}
use Rattle.ras_logic.proofs.TermSorts.{undef-sort}
use Rattle.ras_logic.proofs.ByPlace.{map-at, map_from, one_value}
use Rattle.ras_syntax.specs.Grammar as grammar
use Rattle.ras_syntax.specs.Grammar.{Text}
use Rattle.ras_names.specs.declared.names.RelNames.{RelNames}
use Rattle.ras_names.specs.declared.names.Names.{Names}
use Rattle.ras_names.specs.Lists.{HasNumber, AreDifferent, OneByOne}
use Rattle.ras_names.specs.FileParts as parts
use Rattle.ras_names.specs.FileNames.{names_of_relation}
use Rattle.ras_names.specs.NewNames.{relation_names}
use Rattle.ras_names.specs.Terms as denoted
use Rattle.ras_names.specs.Terms.{IsColumn, IsCell, IsNamed, TermDenotes, IsUndef, LiteralDenotes, ConjunctionDenotes}
use Rattle.ras_names.specs.Files.{FunctionDenotes}
use Rattle.ras_names.specs.Placed as placed
use Rattle.ras_names.specs.Placed.{Name, Declared, columns, literals, disjuncts}
use Rattle.ras_names.specs.Unplaced.{function_of, relation_of, called_of, term_of, literal_of, conjunction_of, file_of}
use Rattle.ras_names.specs.Checks.{texts, declared_texts}
use Rattle.ras_names.specs.TermChecks.{Scope, columns_named, function_named, function_texts, source_of, columns_of_row, term_sort}
use Rattle.ras_names.specs.StepChecks.{variable_texts, relation_texts}
use Rattle.ras_names.proofs.Numbered.{AreNumbered, different-numbered}
use Rattle.ras_names.proofs.Together.{one_by_one-at, one_by_one-map, one_by_one-all}
use Rattle.ras_names.proofs.OneTerm.{IsClear, image-inside}
use Rattle.ras_names.proofs.ClearNames.{relations-numbered, sorts-numbered, constants-numbered, all-at}
use Rattle.ras_names.proofs.NameLists.{sorts_are, functions_are, constants_are, vars_are, relations_are, columns_are}
use Rattle.ras_names.proofs.Among.{found_at}
use Rattle.ras_names.proofs.PassTerms.{IsDeclared, names, IsSortText, is_sort_text, IsFound, declared_found, some_not_none, here, checked, RowsDenote, ParamsDenote, within-good}
use Rattle.ras_numbering.specs.Numbers.{number_in, sort_named, function_of_name, constant_of_name, relation_named}
use Rattle.ras_numbering.specs.TermValues.{plain_value, row_number, column_number, base_value, sort_or, wanted_within, term_value, literal_sort, literal_value, conjunction_value, guard_value}
use Rattle.ras_numbering.proofs.FirstPlaces.{position_is, position_none, number_is, map_is}

module _ (p : placed.File) (shape : ShapeParts) (denotes : IsDeclared (file_of p) shape) where
  abbrev all : Names
  all = names p shape denotes

  -- a name of the file, in the list that the checks read
  listed : (own seen : List Text) (name : Text) (n : ℕ) → own ≡ seen → AreNumbered own → HasNumber own name n → number_in seen name ≡ n
  listed own seen name n same numbered h = number_is seen name n (subst AreNumbered same numbered) (subst (λ (ts : List Text). HasNumber ts name n) same h)

  pub sort-is : (name : Text) (s : SortId) → HasNumber all.sorts name s.n → sort_named p name ≡ s
  sort-is name s h = ap (λ (n : ℕ). record { n = n }) (listed all.sorts (texts p.sorts) name s.n (sorts_are p) (sorts-numbered all denotes.new_names) h)

  pub relation-is : (name : Text) (r : RelId) → HasNumber (relation_names all) name r.n → relation_named p name ≡ r
  relation-is name r h =
      ap (λ (n : ℕ). record { n = n }) (listed (relation_names all) (relation_texts p) name r.n (relations_are p) (relations-numbered all denotes.new_names) h)

  pub constant-is : (name : Name) (c : ConstId) → HasNumber all.constants name.text c.n → constant_of_name p name ≡ c
  constant-is name c h =
      ap (λ (n : ℕ). record { n = n }) (listed all.constants (declared_texts p.constants) name.text c.n (constants_are p) (constants-numbered all denotes.new_names) h)

  pub column-is : (relation : Text) (r : RelId) (column : Text) (n : ℕ) → HasNumber (relation_names all) relation r.n → IsColumn all r column n
      → number_in (declared_texts (columns_named p relation)) column ≡ n
  column-is relation r column n is_relation is_column =
      let z = map_from (λ (q : placed.Relation). q.name.text) p.relations r.n relation (subst (λ (ts : List Text). HasNumber ts relation r.n) (relations_are p) is_relation) in
      let own : slice_get all.relations r.n ≡ Some (names_of_relation (relation_of z.0)) =
      map-at names_of_relation (map relation_of p.relations) r.n (relation_of z.0) (map-at relation_of p.relations r.n z.0 z.1) in
      let same : is_column.0 ≡ names_of_relation (relation_of z.0) = one_value all.relations r.n is_column.0 (names_of_relation (relation_of z.0)) is_column.1 own in
      let numbered : AreNumbered (names_of_relation (relation_of z.0)).columns =
      different-numbered (names_of_relation (relation_of z.0)).columns
      (all-at (λ (q : RelNames). AreDifferent q.columns) all.relations r.n (names_of_relation (relation_of z.0)) denotes.new_names.columns own) in
      let is : columns_named p relation ≡ columns z.0 =
      ap (λ (o : Option placed.Relation). option_map_or columns o [])
      (found_at (λ (q : placed.Relation). q.name.text) p.relations r.n z.0 relation (subst AreNumbered (relations_are p) (relations-numbered all denotes.new_names)) z.1 z.2) in
      ap (λ (ds : List Declared). number_in (declared_texts ds) column) is
      ∙ listed (names_of_relation (relation_of z.0)).columns (declared_texts (columns z.0)) column n (columns_are z.0) numbered
      (subst (λ (q : RelNames). HasNumber q.columns column n) same is_column.2)

  module _ (rows params : List Declared) (relations : List RelId) (sorts : List SortId) (clear : IsClear (here p shape denotes rows params relations sorts)) (rows_denote : RowsDenote p shape denotes rows params relations sorts) (params_denote : ParamsDenote p shape denotes rows params relations sorts) where
    abbrev scope : denoted.Scope
    scope = here p shape denotes rows params relations sorts

    abbrev seen : Scope
    seen = checked p shape denotes rows params relations sorts

    abbrev has_sort : Term → SortId → Type 0
    has_sort t s = sort_of shape relations sorts t ≡ Some s

    -- the numbers of `row.column`
    pub record IsNumberedCell (row column : Name) (m n : ℕ) : Type 0 where
      pub row_is : row_number seen row ≡ m
      pub column_is : column_number seen row column ≡ n

    pub cell-is : (row column : Name) (m n : ℕ) → IsCell scope row.text column.text m n → IsNumberedCell row column m n
    cell-is row column m n cell =
        let w = map_from (λ (d : Declared). d.name.text) rows m row.text cell.0 in
        let found : IsFound rows row.text w.0 = declared_found rows m w.0 row.text clear.rows w.1 w.2 in
        let r : RelId = cell.1.0 in
        let is_relation : HasNumber (relation_names all) w.0.of.text r.n =
        one_by_one-at (λ (d : Declared) (k : RelId). HasNumber (relation_names all) d.of.text k.n) rows relations m w.0 r rows_denote w.1 cell.1.1 in
        let is : columns_of_row seen row ≡ columns_named p w.0.of.text = ap (λ (o : Option Text). option_map_or (columns_named p) o []) found.of in record {
          row_is = number_is (declared_texts rows) row.text m clear.rows cell.0;
          column_is = ap (λ (ds : List Declared). number_in (declared_texts ds) column.text) is ∙ column-is w.0.of.text r column.text n is_relation cell.1.2;
        }

    -- a name alone
    abbrev of_param : Text → Base
    of_param name = base.Param (number_in (declared_texts params) name)

    abbrev of_var : Text → Option ℕ → Base
    of_var name o = option_map_or (λ (v : ℕ). base.Var (record { n = v })) o (of_param name)

    abbrev of_constant : Text → Option ℕ → Base
    of_constant name o = option_map_or (λ (c : ℕ). base.Constant (record { n = c })) o (of_var name (position (bytes_eq name) (variable_texts p)))

    no_constant : (name : Text) → ((k : ℕ) → HasNumber all.constants name k → ⊥) → plain_value seen name ≡ of_var name (position (bytes_eq name) (variable_texts p))
    no_constant name none =
        ap (of_constant name) (position_none (declared_texts p.constants) name (λ k h. none k (subst (λ (ts : List Text). HasNumber ts name k) (sym (constants_are p)) h)))

    pub plain-is : (name : Text) (b : Base) → IsNamed scope name b → plain_value seen name ≡ b
    plain-is name (base.Var v) h =
        let own : HasNumber (variable_texts p) name v.n = subst (λ (ts : List Text). HasNumber ts name v.n) (vars_are p) h in
        no_constant name (λ k c. clear.constants_vars name k v.n c h)
        ∙ ap (of_var name) (position_is (variable_texts p) name v.n (subst AreNumbered (vars_are p) clear.vars) own)
    plain-is name (base.Constant c) h =
        let own : HasNumber (declared_texts p.constants) name c.n = subst (λ (ts : List Text). HasNumber ts name c.n) (constants_are p) h in
        ap (of_constant name) (position_is (declared_texts p.constants) name c.n (subst AreNumbered (constants_are p) clear.constants) own)
    plain-is name (base.Param q) h =
        no_constant name (λ k c. clear.constants_params name k q c h)
        ∙ ap (of_var name) (position_none (variable_texts p) name (λ k v. clear.vars_params name k q (subst (λ (ts : List Text). HasNumber ts name k) (sym (vars_are p)) v) h))
        ∙ ap base.Param (number_is (declared_texts params) name q clear.params h)
    plain-is name (base.Cell m n) h = absurd h
    plain-is name (base.Undef s) h = absurd h

    -- the sort of a text that has one, and else this one
    pub sort_or-is : (o : Option Text) (a w : SortId) → IsSortText p shape denotes o a → (o ≡ None → w ≡ a) → sort_or seen w o ≡ a
    sort_or-is None a w h wanted = wanted refl
    sort_or-is (Some text) a w h wanted = sort-is text a h

    abbrev value_within : SortId → List Name → placed.Base → Term
    value_within w fs b = record { base = base_value seen (wanted_within seen w fs) b; path = reverse (map (function_of_name p) fs) }

    within-is : (fs : List Name) (b : placed.Base) (u : Term) (a w : SortId) → TermDenotes scope (called_of fs b) u → has_sort u a → (IsUndef (called_of fs b) → w ≡ a)
        → value_within w fs b ≡ u
    within-is [] (placed.undef place) u a w h sort wanted =
        let s : h.0 ≡ a = undef-sort shape relations sorts h.0 a (subst (λ (t : Term). has_sort t a) h.1 sort) in
        ap (λ (q : SortId). base_term (base.Undef q)) (wanted tt ∙ sym s) ∙ sym h.1
    within-is [] (placed.plain n) u a w h sort wanted = ap base_term (plain-is n.text h.0 h.1) ∙ sym h.2
    within-is [] (placed.cell row column) u a w h sort wanted =
        let is = cell-is row column h.0 h.1 h.2 in
        ap (λ (m : ℕ). base_term (base.Cell m (column_number seen row column))) is.row_is ∙ ap (λ (n : ℕ). base_term (base.Cell h.0 n)) is.column_is ∙ sym h.3
    within-is (f ∷ fs) b u a w h sort wanted =
        let inside = image-inside shape relations sorts h.0 h.1 a (subst (λ (t : Term). has_sort t a) h.4 sort) in
        let number : HasNumber (function_texts p.functions) f.text h.1.n = subst (λ (ts : List Text). HasNumber ts f.text h.1.n) (functions_are p) h.3 in
        let numbered : AreNumbered (function_texts p.functions) = subst AreNumbered (functions_are p) clear.functions in
        let z = map_from (λ (g : placed.Function). g.name.text) p.functions h.1.n f.text number in
        let found : function_named p f.text ≡ Some z.0 = found_at (λ (g : placed.Function). g.name.text) p.functions h.1.n z.0 f.text numbered z.1 z.2 in
        let source : source_of p f ≡ Some z.0.source.text = ap (option_map (λ (g : placed.Function). g.source.text)) found in
        let denotes_it : FunctionDenotes all (function_of z.0) inside.decl =
        one_by_one-at (FunctionDenotes all) (map function_of p.functions) shape.schema.functions h.1.n (function_of z.0) inside.decl denotes.functions (map-at function_of p.functions h.1.n z.0 z.1) inside.is_decl in
        let source_sort : IsSortText p shape denotes (source_of p f) inside.argument =
        is_sort_text p shape denotes (source_of p f) z.0.source.text inside.argument source (subst (λ (s : SortId). HasNumber all.sorts z.0.source.text s.n) inside.source denotes_it.source) in
        let next : SortId = sort_or seen w (source_of p f) in
        let next_is : next ≡ inside.argument = sort_or-is (source_of p f) inside.argument w source_sort (λ e. absurd (some_not_none (source_of p f) z.0.source.text source e)) in
        let rest : value_within next fs b ≡ h.0 = within-is fs b h.0 inside.argument next h.2 inside.known (λ undef. next_is) in
        let one : function_of_name p f ≡ h.1 = ap (λ (n : ℕ). record { n = n }) (number_is (function_texts p.functions) f.text h.1.n numbered number) in
        let longer : List FunId → Term = λ q. record { base = base_value seen (wanted_within seen next fs) b; path = q } in
        ap longer (reverse-append (function_of_name p f ∷ []) (map (function_of_name p) fs)) ∙ ap (λ (t : Term). image_term t (function_of_name p f)) rest ∙ ap (image_term h.0) one ∙ sym h.4

    -- where its place wants this sort
    pub term-is : (t : placed.Term) (u : Term) (a w : SortId) → TermDenotes scope (term_of t) u → has_sort u a → (IsUndef (term_of t) → w ≡ a) → term_value seen w t ≡ u
    term-is t u a w h sort wanted = within-is t.functions t.base u a w h sort wanted

    pub literal-is : (l : placed.Literal) (x : Literal) → LiteralDenotes scope (literal_of l) x → LiteralFits shape relations sorts x → literal_value seen l ≡ x
    literal-is l (Equal left right same) h fits =
        let a : SortId = fits.0 in
        let one = within-good p shape denotes rows params relations sorts clear rows_denote params_denote l.left.functions l.left.base left a h.0 fits.1 in
        let other = within-good p shape denotes rows params relations sorts clear rows_denote params_denote l.right.functions l.right.base right a h.1 fits.2 in
        let zero : SortId = record { n = 0 } in
        let wanted : literal_sort seen l ≡ a =
        sort_or-is (term_sort seen l.left) a (sort_or seen zero (term_sort seen l.right)) one.sort
        (λ e. sort_or-is (term_sort seen l.right) a zero other.sort (λ i. absurd (h.3 (one.undef_only e, other.undef_only i)))) in
        let w : SortId = literal_sort seen l in
        ap (λ (t : Term). Equal t (term_value seen w l.right) l.equal) (term-is l.left left a w h.0 fits.1 (λ undef. wanted))
        ∙ ap (λ (t : Term). Equal left t l.equal) (term-is l.right right a w h.1 fits.2 (λ undef. wanted))
        ∙ ap (Equal left right) (sym h.2)

    pub conjunction-is : (c : placed.Conjunction) (xs : List Literal) → ConjunctionDenotes scope (conjunction_of c) xs → All (LiteralFits shape relations sorts) xs → conjunction_value seen c ≡ xs
    conjunction-is c xs h fits =
        let denotes_it : placed.Literal → Literal → Type 0 = λ l x. LiteralDenotes scope (literal_of l) x in
        let good : placed.Literal → Literal → Type 0 = λ l x. denotes_it l x × LiteralFits shape relations sorts x in
        let unplaced : OneByOne denotes_it (literals c) xs =
        one_by_one-map (LiteralDenotes scope) literal_of (literals c) xs (subst (λ (ls : List grammar.Literal). OneByOne (LiteralDenotes scope) ls xs) (literals_are c) h) in
        map_is good (literal_value seen) (literals c) xs (one_by_one-all denotes_it (LiteralFits shape relations sorts) (literals c) xs unplaced fits) (λ k l x at both. literal-is l x both.0 both.1)
      where
        literals_are : (d : placed.Conjunction) → parts.literals (conjunction_of d) ≡ map literal_of (literals d)
        literals_are (placed.always place) = refl
        literals_are (placed.all l ls) = refl

    pub guard-is : (g : placed.Guard) (xs : List (List Literal)) → OneByOne (ConjunctionDenotes scope) (map conjunction_of (disjuncts g)) xs → All (All (LiteralFits shape relations sorts)) xs
        → guard_value seen g ≡ xs
    guard-is g xs h fits =
        let denotes_it : placed.Conjunction → List Literal → Type 0 = λ c ls. ConjunctionDenotes scope (conjunction_of c) ls in
        let good : placed.Conjunction → List Literal → Type 0 = λ c ls. denotes_it c ls × All (LiteralFits shape relations sorts) ls in
        map_is good (conjunction_value seen) (disjuncts g) xs
        (one_by_one-all denotes_it (All (LiteralFits shape relations sorts)) (disjuncts g) xs (one_by_one-map (ConjunctionDenotes scope) conjunction_of (disjuncts g) xs h) fits)
        (λ k c ls at both. conjunction-is c ls both.0 both.1)
