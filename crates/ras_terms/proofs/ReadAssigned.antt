-- The checks of a term that is assigned, and of the target that it is assigned to.
use Rattle.std.proofs.Common.{◌≡◌, ℕ, Bool, true, false, not, ◌&&◌, ◌||◌, List, [], ◌∷◌, map, refl, sym, ◌∙◌, ap, subst, nat_eq}
use Rattle.std.specs.Prelude.{Option, Some, None, All}
use Rattle.std.specs.List.{list_any}
use Rattle.std.specs.Option.{option_map_or}
use Rattle.std.specs.Str.{bytes_eq}
use Rattle.std.proofs.lemmas.List.Elements.{All-head, All-tail}
use Rattle.std.proofs.lemmas.Slice.Eq.{bytes_eq-Decides}
use Rattle.ras_syntax.specs.Grammar.{Text}
use Rattle.ras_logic.specs.declared.ids.SortId.{SortId}
use Rattle.ras_system.specs.declared.update.Target.{Target}
use Rattle.ras_system.specs.declared.update.Update.{Update}
use Rattle.ras_names.specs.declared.spec_fault.SpecKind.TheVariants.{WrongSort, RepeatedTarget}
use Rattle.ras_names.specs.Placed as placed
use Rattle.ras_names.specs.Placed.{Name}
use Rattle.ras_names.specs.Checks.{Check, check, first_of, is_among, declared_texts, declared_of, used_check}
use Rattle.ras_names.specs.TermChecks.{Scope, agree, term_sort, term_checks, columns_named}
use Rattle.ras_names.specs.StepChecks.{variable_texts, is_same_column, is_same_target, target_checks, target_sort}
use Rattle.ras_names.proofs.Passing.{Passes, passed_first, passed_both, passed-not, pass_both, pass_one}
use Rattle.ras_numbering.specs.Numbers.{number_in}
use Rattle.ras_numbering.specs.FileValues.{target_value, update_value}
use Rattle.ras_scope.specs.declared.fault.SpecError.{SpecError}
use Rattle.ras_scope.specs.declared.fault.SpecError.TheVariants.{Fault}
use Rattle.ras_terms.specs.declared.terms.Meaning.{Meaning}
use Rattle.ras_scope.specs.Answering.{Faults}
use Rattle.ras_scope.specs.Sorting.{IsSortOf}
use Rattle.ras_terms.specs.Meanings.{sort_alone}
use Rattle.ras_terms.specs.Calling.{IsTermRead}
use Rattle.ras_terms.specs.Assigning.{assigned_checks, update_checks_behind, same_target, IsKnownTarget}
use Rattle.ras_scope.proofs.Following.{faults_stay, faults_follow}
use Rattle.ras_scope.proofs.Places.{either_way, same_number, numbers_either_way}
use Rattle.ras_terms.proofs.SameSorts.{agree_numbers}

module _ (seen : Scope) (place : ℕ) (wanted : Option Text) (t : placed.Term) where
  abbrev sign_check : Check
  sign_check = check place WrongSort (not (agree wanted (term_sort seen t)))

  pub term_faults : (e : SpecError) → Faults (term_checks seen t) e → Faults (assigned_checks seen place wanted t) e
  term_faults e h = faults_stay (term_checks seen t) (sign_check ∷ []) e h

  module _ (sort : SortId) (m : Meaning) (sorted : IsSortOf seen.file wanted (Some sort)) (pass : Passes (term_checks seen t)) (read : IsTermRead seen t m) where
    agrees : (own : SortId) → Some own ≡ sort_alone m → agree wanted (term_sort seen t) ≡ nat_eq own.n sort.n
    agrees own is =
        agree_numbers seen.file wanted (term_sort seen t) sort own sorted (subst (IsSortOf seen.file (term_sort seen t)) (sym is) read.sort) ∙ numbers_either_way sort.n own.n

    pub sign_faults : (own : SortId) → Some own ≡ sort_alone m → not (nat_eq own.n sort.n) ≡ true → first_of (assigned_checks seen place wanted t) ≡ Some (record { at = place; kind = WrongSort })
    sign_faults own is differ =
        let failed : not (agree wanted (term_sort seen t)) ≡ true = ap not (agrees own is) ∙ differ in
        let first : first_of (sign_check ∷ []) ≡ Some (record { at = place; kind = WrongSort }) = rw failed refl in
        faults_follow (term_checks seen t) (sign_check ∷ []) (Fault (record { at = place; kind = WrongSort })) pass first

    pub sign_passes : (own : SortId) → Some own ≡ sort_alone m → not (nat_eq own.n sort.n) ≡ false → Passes (assigned_checks seen place wanted t)
    sign_passes own is same = pass_both (term_checks seen t) (sign_check ∷ []) pass (pass_one sign_check (ap not (agrees own is) ∙ same))

-- two targets whose names are known are one by their numbers where they are one by their names
and_true : (b : Bool) → (b && true) ≡ b
and_true true = refl
and_true false = refl

and_false : (b : Bool) → (b && false) ≡ false
and_false true = refl
and_false false = refl

used_known : (names : List Text) (n : Name) (rest : List Check) → Passes (used_check names n ∷ rest) → (is_among names n.text ≡ true) × Passes rest
used_known names n rest h = let p = passed_first (used_check names n) rest h in (passed-not _ p.0, p.1)

cells : (a b p q : Bool) → a ≡ p → (a ≡ true → b ≡ q) → (a && b) ≡ (p && q)
cells true b p q h k = λ i. h i && k refl i
cells false b p q h k = λ i. h i && q

target_is : (seen : Scope) (n m : Name) (c d : Option Name) → Passes (target_checks seen n c) → Passes (target_checks seen m d)
    → same_target (target_value seen m d) (target_value seen n c) ≡ (bytes_eq n.text m.text && is_same_column c d)
target_is seen n m None None h k =
    let one = used_known (variable_texts seen.file) n [] h in
    let other = used_known (variable_texts seen.file) m [] k in
    sym (same_number (variable_texts seen.file) m.text n.text other.0 one.0) ∙ either_way m.text n.text ∙ sym (and_true (bytes_eq n.text m.text))
target_is seen n m None (Some d) h k = sym (and_false (bytes_eq n.text m.text))
target_is seen n m (Some c) None h k = sym (and_false (bytes_eq n.text m.text))
target_is seen n m (Some c) (Some d) h k =
    let one = used_known (declared_texts seen.rows) n (used_check (columns n.text) c ∷ []) h in
    let other = used_known (declared_texts seen.rows) m (used_check (columns m.text) d ∷ []) k in
    let row : nat_eq (number_in (declared_texts seen.rows) m.text) (number_in (declared_texts seen.rows) n.text) ≡ bytes_eq n.text m.text =
    sym (same_number (declared_texts seen.rows) m.text n.text other.0 one.0) ∙ either_way m.text n.text in
    cells (nat_eq (number_in (declared_texts seen.rows) m.text) (number_in (declared_texts seen.rows) n.text)) (nat_eq (number_in (columns m.text) d.text) (number_in (columns n.text) c.text))
    (bytes_eq n.text m.text) (bytes_eq c.text d.text) row
    (λ e. let same : m.text ≡ n.text = sym ((bytes_eq-Decides n.text m.text).0 (sym row ∙ e)) in
    let known : is_among (columns m.text) c.text ≡ true = subst (λ (t : Text). is_among (columns t) c.text ≡ true) (sym same) (used_known (columns n.text) c [] one.1).0 in
    ap (λ (t : Text). nat_eq (number_in (columns m.text) d.text) (number_in (columns t) c.text)) (sym same)
    ∙ sym (same_number (columns m.text) d.text c.text (used_known (columns m.text) d [] other.1).0 known) ∙ either_way d.text c.text)
  where
    columns : Text → List Text
    columns row = declared_texts (option_map_or (columns_named seen.file) (declared_of seen.rows row) [])

-- whether a target is assigned above
pub assigned_above : (seen : Scope) (u : placed.Update) (ws : List placed.Update) (above : List Update) (target : Target) → above ≡ map (update_value seen) ws → target ≡ target_value seen u.name u.column
    → IsKnownTarget seen u → All (IsKnownTarget seen) ws → list_any (λ (w : Update). same_target w.target target) above ≡ list_any (is_same_target u) ws
assigned_above seen u ws above target same is h all = (λ i. list_any (λ (w : Update). same_target w.target (is i)) (same i)) ∙ go ws all
  where
    go : (vs : List placed.Update) → All (IsKnownTarget seen) vs → list_any (λ (w : Update). same_target w.target (target_value seen u.name u.column)) (map (update_value seen) vs) ≡ list_any (is_same_target u) vs
    go [] k = refl
    go (v ∷ vs) k =
        let first = target_is seen u.name v.name u.column v.column h (All-head (IsKnownTarget seen) v vs k) in
        let rest = go vs (All-tail (IsKnownTarget seen) v vs k) in
        λ i. first i || rest i

pub target_passes : (seen : Scope) (ws : List placed.Update) (u : placed.Update) → Passes (update_checks_behind seen ws u) → IsKnownTarget seen u
target_passes seen ws u h =
    (passed_both (target_checks seen u.name u.column) (check u.name.at RepeatedTarget (list_any (is_same_target u) ws) ∷ assigned_checks seen u.at (target_sort seen u.name u.column) u.term) h).0
