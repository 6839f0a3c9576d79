-- A name that is looked up in a list.
use Rattle.std.specs.Prelude.{◌≡◌, ℕ, List, position, slice_get, Some}
use Rattle.std.specs.Str.{bytes_eq}
use Rattle.ras_syntax.specs.Grammar.{Text}

-- the number of the name, and what stands behind its colon
pub record Finds {T : Type 0} (names : List Text) (values : List T) (name : Text) (found : ℕ × T) : Type 0 where
  pub number : position (bytes_eq name) names ≡ Some found.0
  pub value : slice_get values found.0 ≡ Some found.1
