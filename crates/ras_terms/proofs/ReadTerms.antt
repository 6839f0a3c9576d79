-- The checks of a term, part by part, and what it says where they pass.
use Rattle.std.proofs.Common.{◌≡◌, List, ◌++◌, map, sym, ◌∙◌, ap, subst}
use Rattle.std.specs.Prelude.{Option, Some, None, Result, Ok, Err, IfOk}
use Rattle.ras_logic.specs.declared.ids.SortId.{SortId}
use Rattle.ras_logic.specs.declared.term.Base.{Base}
use Rattle.ras_names.specs.Placed as placed
use Rattle.ras_names.specs.Placed.{Name}
use Rattle.ras_names.specs.Checks.{Check, first_of, used_check}
use Rattle.ras_names.specs.TermChecks as checks
use Rattle.ras_names.specs.TermChecks.{function_texts, base_checks, argument_checks, term_checks}
use Rattle.ras_names.proofs.Passing.{Passes, pass_both}
use Rattle.ras_scope.specs.declared.fault.SpecError.{SpecError}
use Rattle.ras_terms.specs.declared.terms.Called.{Called}
use Rattle.ras_terms.specs.declared.terms.Meaning.{Meaning}
use Rattle.ras_terms.specs.declared.terms.Meaning.TheVariants.{Undef}
use Rattle.ras_scope.specs.declared.scope.Scope.{Scope}
use Rattle.ras_scope.specs.Answering.{Answers, Faults}
use Rattle.ras_scope.specs.Seeing.{Sees}
use Rattle.ras_terms.specs.Calling.{called_value, source_checks, applied, start_of, IsBaseRead, IsTermRead}
use Rattle.ras_scope.proofs.Following.{faults_stay, faults_follow, answers_follow}
use Rattle.ras_terms.proofs.Applying.{AreFunctions, functions_known, IsApplied, applied_to, IsBare, bare_undef}

module _ (s : Scope) (seen : checks.Scope) (sees : Sees s seen) (t : placed.Term) where
  abbrev function_checks : List Check
  function_checks = map (used_check (function_texts seen.file.functions)) t.functions

  abbrev rest_checks : List Check
  rest_checks = base_checks seen t.base ++ argument_checks seen t.functions t.base

  function_checks_are : (names : List Name) → names ≡ t.functions → map (used_check s.declared.now.functions.names) names ≡ function_checks
  function_checks_are names same = λ i. map (used_check (sees.agrees.functions i)) (same i)

  pub functions_pass : (names : List Name) → names ≡ t.functions → Passes (map (used_check s.declared.now.functions.names) names) → Passes function_checks
  functions_pass names same h = sym (ap first_of (function_checks_are names same)) ∙ h

  pub function_faults : (names : List Name) (e : SpecError) → names ≡ t.functions → Faults (map (used_check s.declared.now.functions.names) names) e → Faults (term_checks seen t) e
  function_faults names e same h = faults_stay function_checks rest_checks e (subst (λ (cs : List Check). Faults cs e) (function_checks_are names same) h)

  module _ (functions : Passes function_checks) where
    pub base_faults : (e : SpecError) → Faults (base_checks seen t.base) e → Faults (term_checks seen t) e
    base_faults e h = faults_follow function_checks rest_checks e functions (faults_stay (base_checks seen t.base) (argument_checks seen t.functions t.base) e h)

    module _ (base : Passes (base_checks seen t.base)) (called : List Called) (same : called ≡ map (called_value seen.file) t.functions) (read : Option (Base × SortId)) (base_read : IsBaseRead seen t.base read) where
      known : AreFunctions seen.file t.functions
      known = functions_known seen.file t.functions functions

      start_is : start_of called read ≡ start_of (map (called_value seen.file) t.functions) read
      start_is = ap (λ (cs : List Called). start_of cs read) same

      is_applied : (found : Base × SortId) → start_of called read ≡ Some found → IsApplied seen sees.agrees.function_sorts t.base t.functions found
      is_applied found e = applied_to seen sees.agrees.function_sorts t.base t.functions read found known base_read (sym start_is ∙ e)

      is_bare : start_of called read ≡ None → IsBare seen sees.agrees.function_sorts t.base t.functions
      is_bare e = bare_undef seen sees.agrees.function_sorts t.base t.functions read known base_read (sym start_is ∙ e)

      pub applied_checks : (found : Base × SortId) (r : Result Meaning SpecError) → start_of called read ≡ Some found → Answers (source_checks found.1 called) r → Answers (term_checks seen t) r
      applied_checks found r e h =
          let own : source_checks found.1 called ≡ argument_checks seen t.functions t.base = ap (source_checks found.1) same ∙ (is_applied found e).checks in
          answers_follow function_checks rest_checks r functions
          (answers_follow (base_checks seen t.base) (argument_checks seen t.functions t.base) r base (subst (λ (cs : List Check). Answers cs r) own h))

      pub applied_read : (found : Base × SortId) (r : Result Meaning SpecError) → start_of called read ≡ Some found → IfOk r (λ m. m ≡ applied found.0 found.1 called) → IfOk r (IsTermRead seen t)
      applied_read found (Err x) e h = tt
      applied_read found (Ok m) e h =
          let is : m ≡ applied found.0 found.1 (map (called_value seen.file) t.functions) = h ∙ ap (applied found.0 found.1) same in
          subst (IsTermRead seen t) (sym is) (is_applied found e).read

      pub bare_checks : start_of called read ≡ None → Passes (term_checks seen t)
      bare_checks e =
          pass_both function_checks rest_checks functions (pass_both (base_checks seen t.base) (argument_checks seen t.functions t.base) base (ap first_of (is_bare e).checks))

      pub bare_read : start_of called read ≡ None → IsTermRead seen t Undef
      bare_read e = (is_bare e).read
