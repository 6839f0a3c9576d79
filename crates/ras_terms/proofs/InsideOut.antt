-- Functions that are applied one after the other, from the inside out.
use Rattle.std.proofs.Common.{◌≡◌, ℕ, zero, suc, ◌+◌, ◌-◌, ◌<◌, ◌≤◌, true, false, not, List, [], ◌∷◌, ◌++◌, map, length, get_or, drop, drop-cons, reverse, refl, sym, ◌∙◌, ap, subst, arith, nat_eq}
use Rattle.std.specs.Prelude.{Some}
use Rattle.std.proofs.lemmas.List.{drop_all, reverse-append}
use Rattle.ras_logic.specs.declared.ids.SortId.{SortId}
use Rattle.ras_logic.specs.declared.ids.FunId.{FunId}
use Rattle.ras_names.specs.declared.spec_fault.SpecKind.TheVariants.{WrongSort}
use Rattle.ras_names.specs.Checks.{Check, check, first_of}
use Rattle.ras_names.proofs.Passing.{Passes, pass_both, pass_one}
use Rattle.ras_scope.specs.declared.fault.SpecError.{SpecError}
use Rattle.ras_scope.specs.declared.fault.SpecError.TheVariants.{Fault}
use Rattle.ras_terms.specs.declared.terms.Called.{Called}
use Rattle.ras_scope.specs.Answering.{Faults}
use Rattle.ras_terms.specs.Calling.{sort_behind, source_checks}
use Rattle.ras_scope.proofs.Following.{first_follows, faults_stay}

abbrev function_of : Called → FunId
function_of c = c.function

-- what stands at a place past the end
abbrev no_call : Called
no_call = record { at = 0; function = record { n = 0 }; decl = record { source = record { n = 0 }; target = record { n = 0 }; total = false } }

-- the function before the last n
abbrev pub before_last : List Called → ℕ → Called
before_last called n = get_or called (length called - 1 - n) no_call

-- the last n functions are applied
pub record AreApplied (start : SortId) (called : List Called) (n : ℕ) (path : List FunId) (sort : SortId) : Type 0 where
  pub functions : path ≡ reverse (map function_of (drop (length called - n) called))
  pub sort_is : sort ≡ sort_behind start (drop (length called - n) called)
  pub passes : Passes (source_checks start (drop (length called - n) called))

pub applied_none : (start : SortId) (called : List Called) → AreApplied start called 0 [] start
applied_none start called =
    let nothing : drop (length called - 0) called ≡ [] = drop_all (length called - 0) called (omega arith) in record {
      functions = rw nothing refl;
      sort_is = rw nothing refl;
      passes = rw nothing refl;
    }

-- the function before those that are applied
next_is : (called : List Called) (n : ℕ) → n < length called → drop (length called - (n + 1)) called ≡ before_last called n ∷ drop (length called - n) called
next_is called n lt =
    let k : length called - (n + 1) ≡ length called - 1 - n = omega arith in
    let more : suc (length called - 1 - n) ≡ length called - n = omega arith in
    let low : length called - 1 - n < length called = omega arith in
    let cons : drop (length called - 1 - n) called ≡ before_last called n ∷ drop (suc (length called - 1 - n)) called = drop-cons called (length called - 1 - n) no_call low in
    ap (λ (j : ℕ). drop j called) k ∙ cons ∙ ap (λ (j : ℕ). before_last called n ∷ drop j called) more

pub applied_more : (start : SortId) (called : List Called) (n : ℕ) (path : List FunId) (sort : SortId) → n < length called → AreApplied start called n path sort
    → not (nat_eq (before_last called n).decl.source.n sort.n) ≡ false → AreApplied start called (n + 1) (path ++ (before_last called n).function ∷ []) (before_last called n).decl.target
applied_more start called n path sort lt before same =
    let rest : List Called = drop (length called - n) called in
    let c : Called = before_last called n in
    let next : drop (length called - (n + 1)) called ≡ c ∷ rest = next_is called n lt in
    let turned : reverse (map function_of (c ∷ rest)) ≡ reverse (map function_of rest) ++ c.function ∷ [] = reverse-append (c.function ∷ []) (map function_of rest) in
    let passed : not (nat_eq c.decl.source.n (sort_behind start rest).n) ≡ false = ap (λ (s : SortId). not (nat_eq c.decl.source.n s.n)) (sym before.sort_is) ∙ same in record {
      functions = ap (λ (fs : List FunId). fs ++ c.function ∷ []) before.functions ∙ sym turned ∙ sym (ap (λ (cs : List Called). reverse (map function_of cs)) next);
      sort_is = sym (ap (sort_behind start) next);
      passes = subst (λ (cs : List Called). Passes (source_checks start cs)) (sym next)
          (pass_both (source_checks start rest) (check c.at WrongSort (not (nat_eq c.decl.source.n (sort_behind start rest).n)) ∷ []) before.passes
          (pass_one (check c.at WrongSort (not (nat_eq c.decl.source.n (sort_behind start rest).n))) passed));
    }

outer_faults : (start : SortId) (called : List Called) (n : ℕ) (e : SpecError) → Faults (source_checks start (drop n called)) e → Faults (source_checks start called) e
outer_faults start called zero e h = h
outer_faults start [] (suc n) e h = h
outer_faults start (c ∷ cs) (suc n) e h =
    faults_stay (source_checks start cs) (check c.at WrongSort (not (nat_eq c.decl.source.n (sort_behind start cs).n)) ∷ []) e (outer_faults start cs n e h)

pub applied_stop : (start : SortId) (called : List Called) (n : ℕ) (path : List FunId) (sort : SortId) → n < length called → AreApplied start called n path sort
    → not (nat_eq (before_last called n).decl.source.n sort.n) ≡ true → first_of (source_checks start called) ≡ Some (record { at = (before_last called n).at; kind = WrongSort })
applied_stop start called n path sort lt before differ =
    let rest : List Called = drop (length called - n) called in
    let c : Called = before_last called n in
    let next : drop (length called - (n + 1)) called ≡ c ∷ rest = next_is called n lt in
    let own : Check = check c.at WrongSort (not (nat_eq c.decl.source.n (sort_behind start rest).n)) in
    let failed : not (nat_eq c.decl.source.n (sort_behind start rest).n) ≡ true = ap (λ (s : SortId). not (nat_eq c.decl.source.n s.n)) (sym before.sort_is) ∙ differ in
    let first : first_of (own ∷ []) ≡ Some (record { at = c.at; kind = WrongSort }) = rw failed refl in
    outer_faults start called (length called - (n + 1)) (Fault (record { at = c.at; kind = WrongSort }))
    (ap (λ (cs : List Called). first_of (source_checks start cs)) next ∙ first_follows (source_checks start rest) (own ∷ []) before.passes ∙ first)

pub record AreAllApplied (start : SortId) (called : List Called) (path : List FunId) (sort : SortId) : Type 0 where
  pub functions : path ≡ reverse (map function_of called)
  pub sort_is : sort ≡ sort_behind start called
  pub passes : Passes (source_checks start called)

pub applied_end : (start : SortId) (called : List Called) (n : ℕ) (path : List FunId) (sort : SortId) → length called ≤ n → AreApplied start called n path sort → AreAllApplied start called path sort
applied_end start called n path sort le h =
    let zero_left : length called - n ≡ 0 = omega arith in
    let all : drop (length called - n) called ≡ called = ap (λ (k : ℕ). drop k called) zero_left in record {
      functions = h.functions ∙ ap (λ (cs : List Called). reverse (map function_of cs)) all;
      sort_is = h.sort_is ∙ ap (sort_behind start) all;
      passes = sym (ap (λ (cs : List Called). first_of (source_checks start cs)) all) ∙ h.passes;
    }
