-- What is seen inside an `each`, and all `each` of a step one after the other.
use Rattle.std.proofs.Common.{◌≡◌, ℕ, ◌+◌, ◌<◌, ◌≤◌, List, [], ◌∷◌, ◌++◌, map, length, get_or, take, refl, sym, ◌∙◌, ap, subst, arith, append-nil}
use Rattle.std.specs.Prelude.{Option, Some, None, All, flat_map}
use Rattle.std.proofs.lemmas.List.{map-append, length-append, length-map, flat_map_more, take-map, take_all}
use Rattle.std.proofs.lemmas.List.Elements.{All-push}
use Rattle.ras_syntax.specs.Grammar.{Text}
use Rattle.ras_syntax.specs.declared.tree.Each.{Each}
use Rattle.ras_logic.specs.declared.ids.RelId.{RelId}
use Rattle.ras_system.specs.declared.bulk.Bulk.{Bulk}
use Rattle.ras_names.specs.Placed as placed
use Rattle.ras_names.specs.Placed.{Declared as Item}
use Rattle.ras_names.specs.Checks.{Check, for_each, for_each_from, declared_texts}
use Rattle.ras_names.specs.TermChecks as checks
use Rattle.ras_names.specs.StepChecks.{case_checks, case_count, each_checks, with_row}
use Rattle.ras_names.proofs.Passing.{Passes, pass_both}
use Rattle.ras_numbering.specs.Numbers.{relation_named, declared_relation}
use Rattle.ras_numbering.specs.FileValues.{case_value, each_value, cases_value}
use Rattle.ras_scope.specs.declared.fault.SpecError.{SpecError}
use Rattle.ras_scope.specs.declared.scope.Scope.{Scope}
use Rattle.ras_scope.specs.declared.scope.EachRow.{EachRow}
use Rattle.ras_scope.specs.Answering.{Faults}
use Rattle.ras_scope.specs.Agreeing.{IsRelationText}
use Rattle.ras_scope.specs.Placing.{placed_each}
use Rattle.ras_scope.specs.Scopes.{each_names}
use Rattle.ras_scope.specs.Seeing.{Sees, each_relations}
use Rattle.ras_terms.specs.Cases.{IsRowOf, row_checks_behind}
use Rattle.ras_scope.proofs.Following.{faults_stay, faults_follow, Passed, passed_none, passed_more, passed_stop, passed_end}
use Rattle.ras_scope.proofs.Reading.{places_more}

-- inside an `each` its row is seen too
pub row_seen : (s : Scope) (seen : checks.Scope) (row : EachRow) (e : placed.Each) → Sees s seen → s.each ≡ None → IsRowOf seen.file row e → Sees (record s { each = Some row }) (with_row seen e)
row_seen s seen row e sees none is =
    let item : Item = record { name = e.row; of = e.relation } in
    let names : s.rows.now.names ≡ declared_texts seen.rows = sym (append-nil s.rows.now.names) ∙ sym (ap (λ (o : Option EachRow). s.rows.now.names ++ each_names o) none) ∙ sees.rows in
    let relations : s.rows.now.values.items ≡ map (declared_relation seen.file) seen.rows =
    sym (append-nil s.rows.now.values.items) ∙ sym (ap (λ (o : Option EachRow). s.rows.now.values.items ++ each_relations o) none) ∙ sees.relations in record {
      agrees = sees.agrees;
      rows = (λ i. names i ++ is.name i ∷ []) ∙ sym (map-append (λ (d : Item). d.name.text) seen.rows (item ∷ []));
      relations = (λ i. relations i ++ sym is.relation i ∷ []) ∙ sym (map-append (declared_relation seen.file) seen.rows (item ∷ []));
      known_relations = All-push (λ (d : Item). IsRelationText seen.file d.of.text) seen.rows item sees.known_relations is.known;
      params = sees.params;
      sorts = sees.sorts;
      known_sorts = sees.known_sorts;
    }

-- as many cases as there are `if`
cases_counted : (seen : checks.Scope) (es : List placed.Each) → length (cases_value seen es) ≡ case_count es
cases_counted seen [] = refl
cases_counted seen (e ∷ es) =
    let own : List Bulk = each_value (with_row seen e) e in
    let one : length own ≡ length (placed.cases e) = length-map (placed.cases e) (case_value (with_row seen e) e) in
    let values : length (own ++ cases_value seen es) ≡ length own + length (cases_value seen es) = length-append own (cases_value seen es) in
    let counts : length (placed.cases e ++ flat_map placed.cases es) ≡ length (placed.cases e) + case_count es = length-append (placed.cases e) (flat_map placed.cases es) in
    let rest : length (cases_value seen es) ≡ case_count es = cases_counted seen es in omega (arith, one, values, counts, rest)

abbrev pub relation_of : placed.File → placed.Each → RelId
relation_of file e = relation_named file e.relation.text

-- the first n of the `each` are read
pub record AreEachsRead (seen : checks.Scope) (names : List Text) (xs : List Each) (n : ℕ) (bulk : List Bulk) (relations : List RelId) : Type 0 where
  pub passed : Passed 0 (each_checks seen names (map placed_each xs)) placed_each xs n
  pub cases : bulk ≡ cases_value seen (map placed_each (take n xs))
  pub above : relations ≡ map (relation_of seen.file) (map placed_each (take n xs))
  pub known : All (λ (e : placed.Each). IsRelationText seen.file e.relation.text) (map placed_each (take n xs))

module _ (seen : checks.Scope) (names : List Text) (xs : List Each) where
  abbrev all : List placed.Each
  all = map placed_each xs

  abbrev above_of : ℕ → List placed.Each
  above_of n = map placed_each (take n xs)

  pub no_eachs : (bulk : List Bulk) (relations : List RelId) → bulk ≡ [] → relations ≡ [] → AreEachsRead seen names xs 0 bulk relations
  no_eachs bulk relations no_bulk no_relations = record {
    passed = passed_none 0 (each_checks seen names all) placed_each xs;
    cases = no_bulk;
    above = no_relations;
    known = λ k d lt. absurd (omega (arith, lt));
  }

  own_checks : (n : ℕ) (e : placed.Each)
      → row_checks_behind seen names (above_of n) e ++ for_each_from (case_count (above_of n)) (case_checks (with_row seen e) e) (placed.cases e) ≡ each_checks seen names all n e
  own_checks n e =
      ap (λ (above : List placed.Each). row_checks_behind seen names above e ++ for_each_from (case_count above) (case_checks (with_row seen e) e) (placed.cases e)) (sym (take-map placed_each n xs))

  module _ (n : ℕ) (x : Each) (bulk : List Bulk) (relations : List RelId) (lt : n < length xs) (here : x ≡ get_or xs n x) (h : AreEachsRead seen names xs n bulk relations) where
    abbrev e : placed.Each
    e = placed_each x

    abbrev row_checks : List Check
    row_checks = row_checks_behind seen names (above_of n) e

    abbrev inner_checks : ℕ → List Check
    inner_checks k = for_each_from k (case_checks (with_row seen e) e) (placed.cases e)

    count : length bulk ≡ case_count (above_of n)
    count = ap length h.cases ∙ cases_counted seen (above_of n)

    stop : (error : SpecError) → Faults (each_checks seen names all n e) error → Faults (for_each (each_checks seen names all) all) error
    stop error fault =
        passed_stop 0 (each_checks seen names all) placed_each xs n x error lt here h.passed
        (subst (λ (k : ℕ). Faults (each_checks seen names all k e) error) (let q : n ≡ 0 + n = omega arith in q) fault)

    pub row_stops : (error : SpecError) → Faults row_checks error → Faults (for_each (each_checks seen names all) all) error
    row_stops error fault =
        stop error (subst (λ (cs : List Check). Faults cs error) (own_checks n e) (faults_stay row_checks (inner_checks (case_count (above_of n))) error fault))

    pub cases_stop : (error : SpecError) → Passes row_checks → Faults (inner_checks (length bulk)) error → Faults (for_each (each_checks seen names all) all) error
    cases_stop error pass fault =
        stop error (subst (λ (cs : List Check). Faults cs error) (own_checks n e)
        (faults_follow row_checks (inner_checks (case_count (above_of n))) error pass (subst (λ (k : ℕ). Faults (inner_checks k) error) count fault)))

    pub each_more : (grown : List Bulk) (longer : List RelId) (relation : RelId) → Passes row_checks → Passes (inner_checks (length bulk)) → grown ≡ bulk ++ each_value (with_row seen e) e
        → longer ≡ relations ++ relation ∷ [] → relation_of seen.file e ≡ relation → IsRelationText seen.file e.relation.text → AreEachsRead seen names xs (n + 1) grown longer
    each_more grown longer relation pass inner is are number text =
        let more : above_of (n + 1) ≡ above_of n ++ e ∷ [] = places_more placed_each xs n x lt here in
        let own : Passes (each_checks seen names all n e) =
        subst Passes (own_checks n e) (pass_both row_checks (inner_checks (case_count (above_of n))) pass (subst (λ (k : ℕ). Passes (inner_checks k)) count inner)) in record {
          passed = passed_more 0 (each_checks seen names all) placed_each xs n x lt here h.passed
              (subst (λ (k : ℕ). Passes (each_checks seen names all k e)) (let q : n ≡ 0 + n = omega arith in q) own);
          cases = is ∙ ap (λ (bs : List Bulk). bs ++ each_value (with_row seen e) e) h.cases
              ∙ flat_map_more (λ (d : placed.Each). each_value (with_row seen d) d) [] (above_of n) e ∙ sym (ap (cases_value seen) more);
          above = are ∙ (λ i. h.above i ++ sym number i ∷ []) ∙ sym (map-append (relation_of seen.file) (above_of n) (e ∷ [])) ∙ sym (ap (map (relation_of seen.file)) more);
          known = subst (All (λ (d : placed.Each). IsRelationText seen.file d.relation.text)) (sym more)
              (All-push (λ (d : placed.Each). IsRelationText seen.file d.relation.text) (above_of n) e h.known text);
        }

  pub eachs_pass : (n : ℕ) (bulk : List Bulk) (relations : List RelId) → length xs ≤ n → AreEachsRead seen names xs n bulk relations → Passes (for_each (each_checks seen names all) all)
  eachs_pass n bulk relations le h = passed_end 0 (each_checks seen names all) placed_each xs n le h.passed

  pub eachs_read : (n : ℕ) (bulk : List Bulk) (relations : List RelId) → length xs ≤ n → AreEachsRead seen names xs n bulk relations → bulk ≡ cases_value seen all
  eachs_read n bulk relations le h = h.cases ∙ ap (λ (ys : List Each). cases_value seen (map placed_each ys)) (take_all n xs le)
