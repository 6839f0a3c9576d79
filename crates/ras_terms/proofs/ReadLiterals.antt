-- The checks of a literal, part by part, and what it says where they pass.
use Rattle.std.proofs.Common.{◌≡◌, Bool, true, false, not, cond, List, [], ◌∷◌, ◌++◌, refl, sym, ◌∙◌, ap, nat_eq}
use Rattle.std.specs.Prelude.{Option, Some, None, is_some}
use Rattle.std.proofs.lemmas.Option.{same_Some}
use Rattle.ras_syntax.specs.Grammar.{Text}
use Rattle.ras_syntax.specs.declared.tree.Comparison.{Comparison}
use Rattle.ras_syntax.specs.declared.tree.Comparison.TheVariants.{Equal, NotEqual}
use Rattle.ras_syntax.specs.contracts.tree.Comparison.{the_type}
use denote.Enum.Bare.{sameb}
use Rattle.ras_scope.specs.Placing.{is_equal}
use Rattle.ras_logic.specs.declared.ids.SortId.{SortId}
use Rattle.ras_names.specs.declared.spec_fault.SpecKind.TheVariants.{WrongSort}
use Rattle.ras_names.specs.Placed as placed
use Rattle.ras_names.specs.Checks.{Check, check, first_of}
use Rattle.ras_names.specs.TermChecks.{Scope, agree, term_sort, term_checks}
use Rattle.ras_names.proofs.Passing.{Passes, pass_both, pass_one}
use Rattle.ras_numbering.specs.TermValues.{sort_or, literal_sort}
use Rattle.ras_scope.specs.declared.fault.SpecError.{SpecError}
use Rattle.ras_scope.specs.declared.fault.SpecError.TheVariants.{Fault}
use Rattle.ras_terms.specs.declared.terms.Meaning.{Meaning}
use Rattle.ras_scope.specs.Answering.{Faults}
use Rattle.ras_scope.specs.Sorting.{IsSortOf}
use Rattle.ras_terms.specs.Meanings.{sort_alone}
use Rattle.ras_terms.specs.Calling.{IsTermRead}
use Rattle.ras_terms.specs.Literals.{common, side_checks}
use Rattle.ras_scope.proofs.Following.{faults_stay, faults_follow}
use Rattle.ras_terms.proofs.SameSorts.{agree_numbers}

common_agrees : (seen : Scope) (o p : Option Text) (a b : Option SortId) → IsSortOf seen.file o a → IsSortOf seen.file p b → agree o p ≡ is_some (common a b)
common_agrees seen None None None None h k = refl
common_agrees seen None (Some t) None (Some b) h k = refl
common_agrees seen (Some s) None (Some a) None h k = refl
common_agrees seen (Some s) (Some t) (Some a) (Some b) h k = agree_numbers seen.file (Some s) (Some t) a b h k ∙ go (nat_eq a.n b.n)
  where
    go : (same : Bool) → same ≡ is_some {T = SortId} (cond same (Some a) None)
    go true = refl
    go false = refl
common_agrees seen None p (Some a) b h k = absurd h
common_agrees seen (Some s) p None b h k = absurd h
common_agrees seen o None a (Some b) h k = absurd k
common_agrees seen o (Some t) a None h k = absurd k

common_is : (seen : Scope) (o p : Option Text) (a b : Option SortId) (s least : SortId) → IsSortOf seen.file o a → IsSortOf seen.file p b → common a b ≡ Some s
    → s ≡ sort_or seen (sort_or seen least p) o
common_is seen None None None None s least h k e = absurd (cc)
common_is seen None (Some t) None (Some b) s least h k e = sym (same_Some b s e) ∙ sym k.1
common_is seen (Some u) None (Some a) None s least h k e = sym (same_Some a s e) ∙ sym h.1
common_is seen (Some u) (Some t) (Some a) (Some b) s least h k e = go (nat_eq a.n b.n) e ∙ sym h.1
  where
    go : (same : Bool) → cond same (Some a) None ≡ Some s → s ≡ a
    go true q = sym (same_Some a s q)
    go false q = absurd (cc)
common_is seen None p (Some a) b s least h k e = absurd h
common_is seen (Some u) p None b s least h k e = absurd h
common_is seen o None a (Some b) s least h k e = absurd k
common_is seen o (Some t) a None s least h k e = absurd k

module _ (seen : Scope) (l : placed.Literal) where
  abbrev sign_check : Check
  sign_check = check l.at WrongSort (not (agree (term_sort seen l.left) (term_sort seen l.right)))

  abbrev right_checks : List Check
  right_checks = term_checks seen l.right ++ sign_check ∷ []

  pub left_faults : (e : SpecError) → Faults (term_checks seen l.left) e → Faults (side_checks seen l) e
  left_faults e h = faults_stay (term_checks seen l.left) right_checks e h

  pub right_faults : (e : SpecError) → Passes (term_checks seen l.left) → Faults (term_checks seen l.right) e → Faults (side_checks seen l) e
  right_faults e pass h = faults_follow (term_checks seen l.left) right_checks e pass (faults_stay (term_checks seen l.right) (sign_check ∷ []) e h)

  module _ (left right : Meaning) (one : IsTermRead seen l.left left) (other : IsTermRead seen l.right right) (left_pass : Passes (term_checks seen l.left)) (right_pass : Passes (term_checks seen l.right)) where
    agrees : agree (term_sort seen l.left) (term_sort seen l.right) ≡ is_some (common (sort_alone left) (sort_alone right))
    agrees = common_agrees seen (term_sort seen l.left) (term_sort seen l.right) (sort_alone left) (sort_alone right) one.sort other.sort

    pub sign_faults : common (sort_alone left) (sort_alone right) ≡ None → first_of (side_checks seen l) ≡ Some (record { at = l.at; kind = WrongSort })
    sign_faults none =
        let failed : agree (term_sort seen l.left) (term_sort seen l.right) ≡ false = agrees ∙ ap is_some none in
        let first : first_of (sign_check ∷ []) ≡ Some (record { at = l.at; kind = WrongSort }) = rw failed refl in
        faults_follow (term_checks seen l.left) right_checks (Fault (record { at = l.at; kind = WrongSort })) left_pass
        (faults_follow (term_checks seen l.right) (sign_check ∷ []) (Fault (record { at = l.at; kind = WrongSort })) right_pass first)

    pub sides_pass : (s : SortId) → common (sort_alone left) (sort_alone right) ≡ Some s → Passes (side_checks seen l)
    sides_pass s some =
        let passed : not (agree (term_sort seen l.left) (term_sort seen l.right)) ≡ false = ap not (agrees ∙ ap is_some some) in
        pass_both (term_checks seen l.left) right_checks left_pass (pass_both (term_checks seen l.right) (sign_check ∷ []) right_pass (pass_one sign_check passed))

    pub sort_is_common : (s : SortId) → common (sort_alone left) (sort_alone right) ≡ Some s → s ≡ literal_sort seen l
    sort_is_common s some = common_is seen (term_sort seen l.left) (term_sort seen l.right) (sort_alone left) (sort_alone right) s (record { n = 0 }) one.sort other.sort some

-- the sign of a literal
pub same_comparison : (c : Comparison) → sameb the_type c Equal ≡ is_equal c
same_comparison Equal = refl
same_comparison NotEqual = refl
