-- The value that the first fitting assignment gives.
use Rattle.std.proofs.Common.{◌≡◌, ℕ, ◌+◌, ◌<◌, ◌≤◌, Bool, true, false, List, [], ◌∷◌, ◌++◌, length, take, drop, get_or, refl, sym, ◌∙◌, ap, subst}
use Rattle.std.specs.Prelude.{Option, option_map, find, map}
use Rattle.std.specs.List.{enumerate_from}
use Rattle.std.specs.Option.{option_map_or}
use Rattle.std.proofs.lemmas.List.{get_or_default}
use Rattle.ras_logic.specs.declared.raw_db.RawDb.{RawDb}
use Rattle.ras_logic.specs.declared.values.Values.{Values}
use Rattle.ras_logic.specs.declared.term.Term.{Term}
use Rattle.ras_logic.specs.Truth.{value}
use Rattle.ras_system.specs.Steps.{written}
use Rattle.ras_steps.proofs.Lists.{rest_at, rest_done, numbered_more}

module _ {A : Type 0} (d : RawDb) (v : Values) (own : ℕ) (p : A → Bool) (f : A → Term) where
  abbrev pub assigned : List A → ℕ
  assigned xs = option_map_or (value d v) (option_map f (find p xs)) own

  assigned_first : (x : A) (xs : List A) → p x ≡ true → assigned (x ∷ xs) ≡ value d v (f x)
  assigned_first x xs e = rw e

  assigned_later : (x : A) (xs : List A) → p x ≡ false → assigned (x ∷ xs) ≡ assigned xs
  assigned_later x xs e = rw e

  pub assigned_here : (xs : List A) (i : ℕ) (x : A) → i < length xs → x ≡ get_or xs i x → assigned xs ≡ assigned (drop i xs) → p x ≡ true → assigned xs ≡ value d v (f x)
  assigned_here xs i x lt here rest e = rest_at assigned xs i x lt here rest ∙ assigned_first x (drop (i + 1) xs) e

  pub assigned_other : (xs : List A) (i : ℕ) (x : A) → i < length xs → x ≡ get_or xs i x → assigned xs ≡ assigned (drop i xs) → p x ≡ false
      → assigned xs ≡ assigned (drop (i + 1) xs)
  assigned_other xs i x lt here rest e = rest_at assigned xs i x lt here rest ∙ assigned_later x (drop (i + 1) xs) e

  pub assigned_none : (xs : List A) (i : ℕ) → length xs ≤ i → assigned xs ≡ assigned (drop i xs) → assigned xs ≡ own
  assigned_none xs i ended rest = rest_done assigned xs i ended rest

-- one place more
pub written_more : (d : RawDb) (v : Values) (term_for : ℕ → Option Term) (old : List ℕ) (i : ℕ) → i < length old
    → written d v term_for (take (i + 1) old) ≡ written d v term_for (take i old) ++ option_map_or (value d v) (term_for i) (get_or old i 0) ∷ []
written_more d v term_for old i lt =
    numbered_more (λ (p : ℕ × ℕ). option_map_or (value d v) (term_for p.0) p.1) old i (get_or old i 0) lt (get_or_default old i 0 (get_or old i 0) lt)
