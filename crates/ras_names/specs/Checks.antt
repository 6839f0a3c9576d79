-- Checks in order, and the checks of a name that is declared or used.
use Rattle.std.specs.Prelude.{ℕ, Bool, not, List, [], ◌∷◌, Option, Some, None, nat_le, map, find, flat_map, option_map, if◌then◌else◌}
use Rattle.std.specs.List.{list_any, enumerate_from}
use Rattle.std.specs.Str.{bytes_eq}
use Rattle.ras_syntax.specs.Grammar.{Text}
use Rattle.ras_names.specs.declared.spec_fault.SpecKind.{SpecKind}
use Rattle.ras_names.specs.declared.spec_fault.SpecKind.TheVariants.{DuplicateName, UnknownName, TooMany}
use Rattle.ras_names.specs.declared.spec_fault.SpecFault.{SpecFault}
use Rattle.ras_names.specs.Placed.{Name, Declared}

-- a fault, and whether it is there
pub record Check : Type 0 where
  pub fault : SpecFault
  pub fails : Bool

abbrev pub check : ℕ → SpecKind → Bool → Check
check place kind fails = record { fault = record { at = place; kind = kind }; fails = fails }

-- the fault of the first check that fails
abbrev pub first_of : List Check → Option SpecFault
first_of [] = None
first_of (c ∷ checks) = if c.fails then Some c.fault else first_of checks

-- the checks of each element of a list, which know its number; the first has the number n
abbrev pub for_each_from : {A : Type 0} → ℕ → (ℕ → A → List Check) → List A → List Check
for_each_from {A} n checks xs = flat_map (λ (p : ℕ × A). checks p.0 p.1) (enumerate_from n xs)

abbrev pub for_each : {A : Type 0} → (ℕ → A → List Check) → List A → List Check
for_each checks xs = for_each_from 0 checks xs

-- the name is among the names
abbrev pub is_among : List Text → Text → Bool
is_among names name = list_any (bytes_eq name) names

abbrev pub texts : List Name → List Text
texts names = map (λ (n : Name). n.text) names

abbrev pub declared_texts : List Declared → List Text
declared_texts ds = map (λ (d : Declared). d.name.text) ds

-- what stands behind the colon where the name is declared
abbrev pub declared_of : List Declared → Text → Option Text
declared_of ds name = option_map (λ (d : Declared). d.of.text) (find (λ (d : Declared). bytes_eq d.name.text name) ds)

-- a declared name is not equal to one of these
abbrev pub new_check : List Text → Name → Check
new_check names n = check n.at DuplicateName (is_among names n.text)

-- the n-th declared name of a kind: it is within the limit, and new
abbrev pub declared_checks : ℕ → ℕ → List Text → Name → List Check
declared_checks limit n names name = check name.at TooMany (nat_le limit n) ∷ new_check names name ∷ []

-- a used name is one of these
abbrev pub used_check : List Text → Name → Check
used_check names n = check n.at UnknownName (not (is_among names n.text))
