-- The functions of a term, by their numbers, are applied as by their names.
use Rattle.std.proofs.Common.{◌≡◌, ℕ, suc, ◌-◌, true, not, List, [], ◌∷◌, ◌++◌, map, length, reverse, refl, sym, ◌∙◌, ap, subst, arith, nat_eq}
use Rattle.std.specs.Prelude.{Option, Some, None, All, slice_get, position, option_map}
use Rattle.std.specs.Option.{option_map_or}
use Rattle.std.specs.Str.{bytes_eq}
use Rattle.std.proofs.lemmas.Bool.Decides.{Decides-eqb}
use Rattle.std.proofs.lemmas.Option.{same_Some}
use Rattle.ras_syntax.specs.Grammar.{Text}
use Rattle.ras_logic.specs.declared.ids.SortId.{SortId}
use Rattle.ras_logic.specs.declared.function.FunDecl.{FunDecl}
use Rattle.ras_logic.specs.declared.term.Base.{Base}
use Rattle.ras_logic.specs.declared.term.Base.TheVariants as base
use Rattle.ras_names.specs.declared.spec_fault.SpecKind.TheVariants.{WrongSort}
use Rattle.ras_names.specs.Placed as placed
use Rattle.ras_names.specs.Placed.{Name}
use Rattle.ras_names.specs.Checks.{check, is_among, used_check}
use Rattle.ras_names.specs.TermChecks.{Scope, agree, function_texts, source_of, target_of, base_sort, sort_within, argument_checks}
use Rattle.ras_names.proofs.ClearNames.{all-at}
use Rattle.ras_names.proofs.Among.{map-map}
use Rattle.ras_names.proofs.Passing.{Passes, passed_first, passed-not}
use Rattle.ras_numbering.specs.Numbers.{number_in, function_of_name}
use Rattle.ras_numbering.specs.TermValues.{base_value, wanted_within, term_value, sort_or}
use Rattle.ras_numbering.specs.FileValues.{function_value}
use Rattle.ras_scope.specs.Agreeing.{Agrees, HasSortTexts}
use Rattle.ras_scope.specs.Finding.{Finds}
use Rattle.ras_terms.specs.Meanings.{term_at}
use Rattle.ras_scope.specs.Sorting.{IsSortOf}
use Rattle.ras_terms.specs.Calling.{decl_named, called_value, sort_behind, source_checks, applied, start_of, IsBaseRead, IsTermRead}
use Rattle.ras_terms.specs.declared.terms.Called.{Called}
use Rattle.ras_terms.specs.declared.terms.Meaning.TheVariants.{Undef}
use Rattle.ras_scope.specs.declared.declared.Declared.{Declared}
use Rattle.ras_scope.proofs.Places.{number_of, number_is, IsAt, item_at, value_at}
use Rattle.ras_terms.proofs.SameSorts.{agree_numbers, agree_none, sort_or_is}

abbrev function_key : placed.Function → Text
function_key f = f.name.text

abbrev no_decl : FunDecl
no_decl = record { source = record { n = 0 }; target = record { n = 0 }; total = true }

-- a function that is found
pub function_found : (file : placed.File) (d : Declared) (f : Name) (n : ℕ) (decl : FunDecl) → Agrees file d → Finds d.functions.names d.functions.values.items f.text (n, decl)
    → ◌≡◌ {A = Called} (record { at = f.at; function = record { n = n }; decl = decl }) (called_value file f)
function_found file d f n decl agrees h =
    let number : position (bytes_eq f.text) (function_texts file.functions) ≡ Some n = subst (λ (ts : List Text). position (bytes_eq f.text) ts ≡ Some n) agrees.functions h.number in
    let w : IsAt function_key file.functions f.text n = item_at function_key file.functions f.text n number in
    let is : n ≡ number_in (function_texts file.functions) f.text = number_is (function_texts file.functions) f.text n number in
    let made : function_value file w.item ≡ decl = value_at (function_value file) file.functions d.functions.values.items n w.item decl agrees.function_values w.at h.value in
    let named : decl_named file f ≡ function_value file w.item = ap (λ (o : Option placed.Function). option_map_or (function_value file) o no_decl) w.first in
    let same : decl ≡ decl_named file f = sym (named ∙ made) in
    λ i. record { at = f.at; function = record { n = is i }; decl = same i }

-- all are names of functions
abbrev pub AreFunctions : placed.File → List Name → Type 0
AreFunctions file [] = Unit {0}
AreFunctions file (f ∷ fs) = (is_among (function_texts file.functions) f.text ≡ true) × AreFunctions file fs

pub functions_known : (file : placed.File) (fs : List Name) → Passes (map (used_check (function_texts file.functions)) fs) → AreFunctions file fs
functions_known file [] h = tt
functions_known file (f ∷ fs) h =
    let p = passed_first (used_check (function_texts file.functions) f) (map (used_check (function_texts file.functions)) fs) h in (passed-not _ p.0, functions_known file fs p.1)

module _ (file : placed.File) (sorts : All (HasSortTexts file) file.functions) (f : Name) (known : is_among (function_texts file.functions) f.text ≡ true) where
  here : IsAt function_key file.functions f.text (number_in (function_texts file.functions) f.text)
  here = item_at function_key file.functions f.text (number_in (function_texts file.functions) f.text) (number_of (function_texts file.functions) f.text known)

  own_sorts : HasSortTexts file here.item
  own_sorts = all-at (HasSortTexts file) file.functions (number_in (function_texts file.functions) f.text) here.item sorts here.at

  pub source_sorted : IsSortOf file (source_of file f) (Some (decl_named file f).source)
  source_sorted =
      subst (λ (o : Option placed.Function). IsSortOf file (option_map (λ (d : placed.Function). d.source.text) o) (Some (option_map_or (function_value file) o no_decl).source)) (sym here.first) (own_sorts.0, refl)

  pub target_sorted : IsSortOf file (target_of file f) (Some (decl_named file f).target)
  target_sorted =
      subst (λ (o : Option placed.Function). IsSortOf file (option_map (λ (d : placed.Function). d.target.text) o) (Some (option_map_or (function_value file) o no_decl).target)) (sym here.first) (own_sorts.1, refl)

-- the innermost function
abbrev last_or : Name → List Name → Name
last_or f [] = f
last_or f (g ∷ fs) = last_or g fs

last_at : {A : Type 0} (made : Name → A) (f : Name) (fs : List Name) → slice_get (map made (f ∷ fs)) (length (map made (f ∷ fs)) - 1) ≡ Some (made (last_or f fs))
last_at {A} made f fs = subst (λ (n : ℕ). slice_get (map made (f ∷ fs)) n ≡ Some (made (last_or f fs))) (let q : length (map made fs) ≡ suc (length (map made fs)) - 1 = omega arith in q) (go f fs)
  where
    go : (g : Name) (gs : List Name) → slice_get (map made (g ∷ gs)) (length (map made gs)) ≡ Some (made (last_or g gs))
    go g [] = refl
    go g (h ∷ gs) = go h gs

module _ (seen : Scope) (sorts : All (HasSortTexts seen.file) seen.file.functions) (b : placed.Base) where
  abbrev called : List Name → List Called
  called fs = map (called_value seen.file) fs

  abbrev source : Name → SortId
  source f = (decl_named seen.file f).source

  -- the innermost function is applied to its source, by numbers as by names
  abbrev Fits : SortId → List Name → Type 0
  Fits start [] = Unit {0}
  Fits start (f ∷ []) = agree (source_of seen.file f) (base_sort seen b) ≡ nat_eq (source f).n start.n
  Fits start (f ∷ g ∷ fs) = Fits start (g ∷ fs)

  checks_are : (start : SortId) (fs : List Name) → AreFunctions seen.file fs → Fits start fs → source_checks start (called fs) ≡ argument_checks seen fs b
  checks_are start [] k h = refl
  checks_are start (f ∷ []) k h = λ i. check f.at WrongSort (not (sym h i)) ∷ []
  checks_are start (f ∷ g ∷ fs) k h =
      let inner = checks_are start (g ∷ fs) k.1 h in
      let same : agree (source_of seen.file f) (target_of seen.file g) ≡ nat_eq (source f).n (decl_named seen.file g).target.n =
      agree_numbers seen.file (source_of seen.file f) (target_of seen.file g) (source f) (decl_named seen.file g).target (source_sorted seen.file sorts f k.0) (target_sorted seen.file sorts g k.1.0) in
      λ i. inner i ++ check f.at WrongSort (not (sym same i)) ∷ []

  sort_is : (start : SortId) (fs : List Name) → AreFunctions seen.file fs → IsSortOf seen.file (base_sort seen b) (Some start) → IsSortOf seen.file (sort_within seen fs b) (Some (sort_behind start (called fs)))
  sort_is start [] k h = h
  sort_is start (f ∷ fs) k h = target_sorted seen.file sorts f k.0

  fits_sorted : (start : SortId) (fs : List Name) → AreFunctions seen.file fs → IsSortOf seen.file (base_sort seen b) (Some start) → Fits start fs
  fits_sorted start [] k h = tt
  fits_sorted start (f ∷ []) k h = agree_numbers seen.file (source_of seen.file f) (base_sort seen b) (source f) start (source_sorted seen.file sorts f k.0) h
  fits_sorted start (f ∷ g ∷ fs) k h = fits_sorted start (g ∷ fs) k.1 h

  fits_undef : (f : Name) (fs : List Name) → AreFunctions seen.file (f ∷ fs) → base_sort seen b ≡ None → Fits (source (last_or f fs)) (f ∷ fs)
  fits_undef f [] k none =
      agree_none seen.file (source_of seen.file f) (base_sort seen b) (source f) (source_sorted seen.file sorts f k.0) none ∙ sym ((Decides-eqb (source f).n (source f).n).1 refl)
  fits_undef f (g ∷ fs) k none = fits_undef g fs k.1 none

  wanted_last : (wanted : SortId) (f : Name) (fs : List Name) → AreFunctions seen.file (f ∷ fs) → wanted_within seen wanted (f ∷ fs) ≡ source (last_or f fs)
  wanted_last wanted f [] k = sort_or_is seen (source_of seen.file f) (source f) wanted (source_sorted seen.file sorts f k.0)
  wanted_last wanted f (g ∷ fs) k = wanted_last (sort_or seen wanted (source_of seen.file f)) g fs k.1

  -- the functions that are applied to what stands inside
  pub record IsApplied (fs : List Name) (found : Base × SortId) : Type 0 where
    pub checks : source_checks found.1 (called fs) ≡ argument_checks seen fs b
    pub read : IsTermRead seen (record { functions = fs; base = b }) (applied found.0 found.1 (called fs))

  term_is : (fs : List Name) (found : Base × SortId) (wanted : SortId) → found.0 ≡ base_value seen (wanted_within seen wanted fs) b
      → term_at wanted (applied found.0 found.1 (called fs)) ≡ term_value seen wanted (record { functions = fs; base = b })
  term_is fs found wanted is =
      let path : map (λ (c : Called). c.function) (called fs) ≡ map (function_of_name seen.file) fs = map-map (λ (c : Called). c.function) (called_value seen.file) fs in
      λ i. record { base = is i; path = reverse (path i) }

  applied_sorted : (fs : List Name) (found : Base × SortId) → AreFunctions seen.file fs → IsBaseRead seen b (Some found) → IsApplied fs found
  applied_sorted fs found k h = record {
    checks = checks_are found.1 fs k (fits_sorted found.1 fs k h.1);
    read = record { value = λ wanted. term_is fs found wanted (sym (h.0 (wanted_within seen wanted fs))); sort = sort_is found.1 fs k h.1 };
  }

  applied_undef : (f : Name) (fs : List Name) → AreFunctions seen.file (f ∷ fs) → IsBaseRead seen b None → IsApplied (f ∷ fs) (base.Undef (source (last_or f fs)), source (last_or f fs))
  applied_undef f fs k h = record {
    checks = checks_are (source (last_or f fs)) (f ∷ fs) k (fits_undef f fs k h.1);
    read = record {
      value = λ wanted. term_is (f ∷ fs) (base.Undef (source (last_or f fs)), source (last_or f fs)) wanted
          (ap (λ (s : SortId). base.Undef s) (sym (wanted_last wanted f fs k)) ∙ sym (h.0 (wanted_within seen wanted (f ∷ fs))));
      sort = target_sorted seen.file sorts f k.0;
    };
  }

  pub applied_to : (fs : List Name) (read : Option (Base × SortId)) (found : Base × SortId) → AreFunctions seen.file fs → IsBaseRead seen b read → start_of (called fs) read ≡ Some found → IsApplied fs found
  applied_to fs (Some p) found k h e = subst (IsApplied fs) (same_Some p found e) (applied_sorted fs p k h)
  applied_to [] None found k h e = absurd (cc)
  applied_to (f ∷ fs) None found k h e =
      let last : start_of (called (f ∷ fs)) None ≡ Some (base.Undef (source (last_or f fs)), source (last_or f fs)) =
      ap (option_map (λ (c : Called). (base.Undef c.decl.source, c.decl.source))) (last_at (called_value seen.file) f fs) in
      subst (IsApplied (f ∷ fs)) (same_Some (base.Undef (source (last_or f fs)), source (last_or f fs)) found (sym last ∙ e)) (applied_undef f fs k h)

  -- nothing is applied to `undef`
  pub record IsBare (fs : List Name) : Type 0 where
    pub checks : argument_checks seen fs b ≡ []
    pub read : IsTermRead seen (record { functions = fs; base = b }) Undef

  pub bare_undef : (fs : List Name) (read : Option (Base × SortId)) → AreFunctions seen.file fs → IsBaseRead seen b read → start_of (called fs) read ≡ None → IsBare fs
  bare_undef fs (Some p) k h e = absurd (cc)
  bare_undef [] None k h e = record {
    checks = refl;
    read = record {
      value = λ wanted i. record { base = sym (h.0 wanted) i; path = [] };
      sort = subst (λ (o : Option Text). IsSortOf seen.file o None) (sym h.1) tt;
    };
  }
  bare_undef (f ∷ fs) None k h e =
      let last : start_of (called (f ∷ fs)) None ≡ Some (base.Undef (source (last_or f fs)), source (last_or f fs)) =
      ap (option_map (λ (c : Called). (base.Undef c.decl.source, c.decl.source))) (last_at (called_value seen.file) f fs) in
      absurd (let q : ◌≡◌ {A = Option (Base × SortId)} (Some (base.Undef (source (last_or f fs)), source (last_or f fs))) None = sym last ∙ e in cc)
