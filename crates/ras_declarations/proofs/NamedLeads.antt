-- Functions lead by numbers just as by the names of their sorts.
use Rattle.std.proofs.Common.{◌≡◌, ℕ, zero, suc, ◌<◌, Bool, ◌&&◌, ◌||◌, List, [], ◌∷◌, length, map, refl, sym, arith, nat_eq}
use Rattle.std.specs.Prelude.{All, position, Some}
use Rattle.std.specs.List.{list_any}
use Rattle.std.specs.Str.{bytes_eq}
use Rattle.std.proofs.lemmas.Option.{slice_get_within}
use Rattle.ras_syntax.specs.Grammar.{Text}
use Rattle.ras_logic.specs.declared.function.FunDecl.{FunDecl}
use Rattle.ras_logic.proofs.Walks.{lead}
use Rattle.ras_names.specs.Placed as placed
use Rattle.ras_names.specs.Checks.{texts}
use Rattle.ras_names.specs.FileChecks.{leads}
use Rattle.ras_numbering.specs.Numbers.{number_in}
use Rattle.ras_numbering.specs.FileValues.{function_value}
use Rattle.ras_scope.specs.Agreeing.{IsSortText, HasSortTexts}
use Rattle.ras_scope.proofs.Places.{name_at, same_number}

-- the number of a name is below their count
pub number_below : (names : List Text) (name : Text) (n : ℕ) → position (bytes_eq name) names ≡ Some n → n < length names
number_below names name n h = slice_get_within names n name (name_at names name n h)

module _ (p : placed.File) where
  abbrev number : Text → ℕ
  number t = number_in (texts p.sorts) t

  steps : (fs : List placed.Function) → All (HasSortTexts p) fs → (q : ℕ → Bool) (r : Text → Bool) (from : Text) → IsSortText p from
      → ((t : Text) → IsSortText p t → q (number t) ≡ r t)
      → list_any (λ (f : FunDecl). nat_eq f.source.n (number from) && q f.target.n) (map (function_value p) fs) ≡ list_any (λ (f : placed.Function). bytes_eq f.source.text from && r f.target.text) fs
  steps [] all q r from known each = refl
  steps (f ∷ fs) all q r from known each =
      let own : HasSortTexts p f = all 0 f (omega arith) in
      λ i. (sym (same_number (texts p.sorts) f.source.text from own.0 known) i && each f.target.text own.1 i)
      || steps fs (λ k d lt. all (suc k) d (omega (arith, lt))) q r from known each i

  -- from a sort to a sort
  pub leads_same : (fs : List placed.Function) (n : ℕ) (from to : Text) → All (HasSortTexts p) fs → IsSortText p from → IsSortText p to
      → lead (map (function_value p) fs) n (number from) (number to) ≡ leads fs n from to
  leads_same fs zero from to all known goal = sym (same_number (texts p.sorts) from to known goal)
  leads_same fs (suc n) from to all known goal =
      λ i. sym (same_number (texts p.sorts) from to known goal) i
      || steps fs all (λ (k : ℕ). lead (map (function_value p) fs) n k (number to)) (λ (t : Text). leads fs n t to) from known (λ t h. leads_same fs n t to all h goal) i
