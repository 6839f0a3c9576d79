-- The disjuncts of an unsafe item: they name no data parameters, and are few where their checks pass.
use Rattle.std.proofs.Common.{◌≡◌, ℕ, ◌+◌, ◌<◌, ◌≤◌, Bool, true, false, List, [], ◌∷◌, ◌++◌, length, get_or, map, refl, sym, ◌∙◌, ap, arith, not, ◌||◌, append-nil}
use Rattle.std.specs.Prelude.{All, flat_map, nat_le, position}
use Rattle.std.specs.Option.{option_map_or}
use Rattle.std.specs.Str.{bytes_eq}
use Rattle.std.proofs.lemmas.Bool.{leb-false}
use Rattle.std.proofs.lemmas.List.{length-map, length-append, map-append}
use Rattle.std.proofs.lemmas.List.Elements.{All-map}
use Rattle.std.proofs.lemmas.Option.{slice_get-get_or}
use Rattle.ras_logic.specs.declared.ids.SortId.{SortId}
use Rattle.ras_logic.specs.declared.term.Base.{Base}
use Rattle.ras_logic.specs.declared.term.Base.TheVariants.{Var, Param}
use Rattle.ras_logic.specs.Formulas.{HasNoParam, IsNoParam}
use Rattle.ras_syntax.specs.Grammar.{Text}
use Rattle.ras_names.specs.Placed as placed
use Rattle.ras_names.specs.Placed.{disjuncts, literals, term_place, disjunct_place}
use Rattle.ras_names.specs.declared.spec_fault.SpecKind.TheVariants.{WrongSort, TooWide}
use Rattle.ras_names.specs.Checks.{Check, check, for_each_from, is_among, declared_texts, used_check}
use Rattle.ras_names.specs.TermChecks.{Scope, agree, variable_sort, function_texts, plain_names, base_checks, argument_checks, term_sort, term_checks, literal_checks, conjunction_checks, disjunct_checks, guard_checks}
use Rattle.ras_names.specs.StepChecks.{variable_texts}
use Rattle.ras_names.specs.FileChecks.{goal_count}
use Rattle.ras_names.proofs.Passing.{Passes, passed_first, passed_both, passed_each_from}
use Rattle.ras_names.proofs.Among.{map-map}
use Rattle.ras_numbering.specs.Numbers.{number_in}
use Rattle.ras_numbering.specs.TermValues.{base_value, plain_value, wanted_within, term_value, literal_value, conjunction_value, guard_value, literal_sort}
use Rattle.ras_numbering.specs.FileValues.{goal_values, goal_value}
use Rattle.ras_scope.proofs.Places.{number_of, no_number, among_append}
use Rattle.ras_declarations.proofs.NewNames.{used_known}

pass_at : {A : Type 0} (n : ℕ) (checks : ℕ → A → List Check) (xs : List A) (k : ℕ) (d : A) → k < length xs → Passes (for_each_from n checks xs) → Passes (checks (n + k) (get_or xs k d))
pass_at n checks xs k d lt h = passed_each_from n checks xs h k (get_or xs k d) (slice_get-get_or xs k d lt)

-- where the checks pass, the disjuncts are at most 64
pub few_disjuncts : (seen : Scope) (above : ℕ) (g : placed.Guard) → Passes (guard_checks seen above g) → length (disjuncts g) ≤ 64
few_disjuncts seen above g h =
    let last : ℕ = length g.others in
    let end : placed.Conjunction = get_or (disjuncts g) last g.first in
    let pass = pass_at above (disjunct_checks seen) (disjuncts g) last g.first (omega arith) h in
    let below : above + last < 64 = leb-false 64 (above + last) (passed_first (check (disjunct_place end) TooWide (nat_le 64 (above + last))) (conjunction_checks seen 128 end) pass).0 in omega (arith, below)

-- a name that is known stands for no data parameter where there are none
module _ (seen : Scope) (none : seen.params ≡ []) where
  names_are : declared_texts (plain_names seen) ≡ declared_texts seen.file.constants ++ variable_texts seen.file
  names_are =
      map-append (λ (d : placed.Declared). d.name.text) seen.file.constants (map variable_sort seen.file.variables ++ seen.params)
      ∙ ap (λ (ts : List Text). declared_texts seen.file.constants ++ ts)
      (map-append (λ (d : placed.Declared). d.name.text) (map variable_sort seen.file.variables) seen.params
      ∙ (λ i. map-map (λ (d : placed.Declared). d.name.text) variable_sort seen.file.variables i ++ declared_texts (none i))
      ∙ append-nil (variable_texts seen.file))

  plain_no_param : (name : Text) → is_among (declared_texts (plain_names seen)) name ≡ true → IsNoParam (plain_value seen name)
  plain_no_param name h =
      go (is_among (declared_texts seen.file.constants) name) (is_among (variable_texts seen.file) name) refl refl
      (sym (among_append (declared_texts seen.file.constants) (variable_texts seen.file) name) ∙ ap (λ (ts : List Text). is_among ts name) (sym names_are) ∙ h)
    where
      variable : Base
      variable = option_map_or (λ (v : ℕ). Var (record { n = v })) (position (bytes_eq name) (variable_texts seen.file)) (Param (number_in (declared_texts seen.params) name))

      go : (b c : Bool) → is_among (declared_texts seen.file.constants) name ≡ b → is_among (variable_texts seen.file) name ≡ c → (b || c) ≡ true → IsNoParam (plain_value seen name)
      go true c one two either = rw (number_of (declared_texts seen.file.constants) name one) tt
      go false true one two either = rw (no_number (declared_texts seen.file.constants) name one, number_of (variable_texts seen.file) name two) tt
      go false false one two either = absurd (cc)

  base_no_param : (wanted : SortId) (b : placed.Base) → Passes (base_checks seen b) → IsNoParam (base_value seen wanted b)
  base_no_param wanted (placed.undef place) h = tt
  base_no_param wanted (placed.plain n) h = plain_no_param n.text (used_known (declared_texts (plain_names seen)) n h)
  base_no_param wanted (placed.cell row column) h = tt

  term_no_param : (wanted : SortId) (t : placed.Term) → Passes (term_checks seen t) → IsNoParam (term_value seen wanted t).base
  term_no_param wanted t h =
      let rest = (passed_both (map (used_check (function_texts seen.file.functions)) t.functions) (base_checks seen t.base ++ argument_checks seen t.functions t.base) h).1 in
      base_no_param (wanted_within seen wanted t.functions) t.base (passed_both (base_checks seen t.base) (argument_checks seen t.functions t.base) rest).0

  literal_no_param : (limit n : ℕ) (l : placed.Literal) → Passes (literal_checks seen limit n l) → HasNoParam (literal_value seen l)
  literal_no_param limit n l h =
      let last : List Check = check l.at WrongSort (not (agree (term_sort seen l.left) (term_sort seen l.right))) ∷ [] in
      let rest = (passed_first (check (term_place l.left) TooWide (nat_le limit n)) (term_checks seen l.left ++ (term_checks seen l.right ++ last)) h).1 in
      let left = passed_both (term_checks seen l.left) (term_checks seen l.right ++ last) rest in
      let right = passed_both (term_checks seen l.right) last left.1 in
      (term_no_param (literal_sort seen l) l.left left.0, term_no_param (literal_sort seen l) l.right right.0)

  conjunction_no_param : (limit : ℕ) (c : placed.Conjunction) → Passes (conjunction_checks seen limit c) → All HasNoParam (conjunction_value seen c)
  conjunction_no_param limit c h =
      All-map HasNoParam (literal_value seen) (literals c) (λ k d lt. literal_no_param limit (0 + k) (get_or (literals c) k d) (pass_at 0 (literal_checks seen limit) (literals c) k d lt h))

  pub guard_no_param : (above : ℕ) (g : placed.Guard) → Passes (guard_checks seen above g) → All (All HasNoParam) (guard_value seen g)
  guard_no_param above g h =
      All-map (All HasNoParam) (conjunction_value seen) (disjuncts g) (λ k d lt.
      let pass = pass_at above (disjunct_checks seen) (disjuncts g) k d lt h in
      let one : placed.Conjunction = get_or (disjuncts g) k d in
      conjunction_no_param 128 one (passed_first (check (disjunct_place one) TooWide (nat_le 64 (above + k))) (conjunction_checks seen 128 one) pass).1)

-- the goals of some items are as many as their disjuncts
pub goals_count : (p : placed.File) (gs : List placed.Goal) → length (flat_map (goal_values p) gs) ≡ goal_count gs
goals_count p [] = refl
goals_count p (g ∷ gs) =
    let a = length-append (goal_values p g) (flat_map (goal_values p) gs) in
    let b = length-append (disjuncts g.guard) (flat_map (λ (x : placed.Goal). disjuncts x.guard) gs) in
    let e = length-map (disjuncts g.guard) (λ (c : placed.Conjunction). goal_value p g c) in
    let rest = goals_count p gs in omega (arith, a, b, e, rest)
