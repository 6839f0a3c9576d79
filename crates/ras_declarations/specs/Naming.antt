-- The checks of names with what stands behind their colons.
use Rattle.std.specs.Prelude.{◌≡◌, ℕ, true, List, [], ◌∷◌, ◌++◌, take}
use Rattle.ras_syntax.specs.Grammar.{Text}
use Rattle.ras_names.specs.Placed.{Declared as Item}
use Rattle.ras_names.specs.Checks.{Check, is_among, declared_texts, declared_checks, used_check}

-- the n-th of all is new among the names above and those before it, and what stands behind its colon is one of others
abbrev pub named_checks : ℕ → List Text → List Text → List Item → ℕ → Item → List Check
named_checks limit above others all n d = declared_checks limit n (above ++ declared_texts (take n all)) d.name ++ used_check others d.of ∷ []

-- what stands behind the colon is one of these names
abbrev pub IsOneOf : List Text → Item → Type 0
IsOneOf others d = is_among others d.of.text ≡ true
