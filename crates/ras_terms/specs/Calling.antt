-- The functions of a term, from the outside in, and what they are applied to.
use Rattle.std.specs.Prelude.{◌≡◌, ◌-◌, true, not, List, [], ◌∷◌, ◌++◌, Option, Some, None, length, map, reverse, slice_get, nat_eq, option_map}
use Rattle.std.specs.Option.{option_map_or}
use Rattle.ras_logic.specs.declared.ids.SortId.{SortId}
use Rattle.ras_logic.specs.declared.function.FunDecl.{FunDecl}
use Rattle.ras_logic.specs.declared.term.Base.{Base}
use Rattle.ras_logic.specs.declared.term.Base.TheVariants as base
use Rattle.ras_names.specs.declared.spec_fault.SpecKind.TheVariants.{WrongSort}
use Rattle.ras_names.specs.Placed as placed
use Rattle.ras_names.specs.Placed.{Name}
use Rattle.ras_names.specs.Checks.{Check, check}
use Rattle.ras_names.specs.TermChecks.{Scope, function_named, base_sort, term_sort}
use Rattle.ras_numbering.specs.Numbers.{function_of_name}
use Rattle.ras_numbering.specs.TermValues.{base_value, term_value}
use Rattle.ras_numbering.specs.FileValues.{function_value}
use Rattle.ras_terms.specs.Meanings.{sort_alone, term_at}
use Rattle.ras_scope.specs.Sorting.{IsSortOf}
use Rattle.ras_terms.specs.declared.terms.Called.{Called}
use Rattle.ras_terms.specs.declared.terms.Meaning.{Meaning}
use Rattle.ras_terms.specs.declared.terms.Meaning.TheVariants.{Sorted}

module _ (file : placed.File) where
  -- the sorts of the function of this name; where there is none, these say nothing
  abbrev pub decl_named : Name → FunDecl
  decl_named f = option_map_or (function_value file) (function_named file f.text) (record { source = record { n = 0 }; target = record { n = 0 }; total = true })

  abbrev pub called_value : Name → Called
  called_value f = record { at = f.at; function = function_of_name file f; decl = decl_named f }

-- the sort of what the functions give, where they are applied to something of this sort
abbrev pub sort_behind : SortId → List Called → SortId
sort_behind start [] = start
sort_behind start (c ∷ cs) = c.decl.target

-- from the inside out, each function is applied to its source
abbrev pub source_checks : SortId → List Called → List Check
source_checks start [] = []
source_checks start (c ∷ cs) = source_checks start cs ++ check c.at WrongSort (not (nat_eq c.decl.source.n (sort_behind start cs).n)) ∷ []

abbrev pub applied : Base → SortId → List Called → Meaning
applied b start called = Sorted (record { base = b; path = reverse (map (λ (c : Called). c.function) called) }) (sort_behind start called)

-- what the functions are applied to: `undef` is one of the source of the innermost
abbrev pub start_of : List Called → Option (Base × SortId) → Option (Base × SortId)
start_of called (Some found) = Some found
start_of called None = option_map (λ (c : Called). (base.Undef c.decl.source, c.decl.source)) (slice_get called (length called - 1))

module _ (seen : Scope) where
  -- what stands inside all functions: nothing yet for `undef`, which takes the sort that is wanted there
  abbrev pub IsBaseRead : placed.Base → Option (Base × SortId) → Type 0
  IsBaseRead b None = ((wanted : SortId) → base_value seen wanted b ≡ base.Undef wanted) × (base_sort seen b ≡ None)
  IsBaseRead b (Some found) = ((wanted : SortId) → base_value seen wanted b ≡ found.0) × IsSortOf seen.file (base_sort seen b) (Some found.1)

  -- what a term says: the term, whatever sort its place wants, and its own sort
  pub record IsTermRead (t : placed.Term) (m : Meaning) : Type 0 where
    pub value : (wanted : SortId) → term_at wanted m ≡ term_value seen wanted t
    pub sort : IsSortOf seen.file (term_sort seen t) (sort_alone m)
