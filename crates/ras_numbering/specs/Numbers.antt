-- The numbers of names. A name that stands for nothing has the number 0.
use Rattle.std.specs.Prelude.{ℕ, List, position}
use Rattle.std.specs.Option.{option_map_or}
use Rattle.std.specs.Str.{bytes_eq}
use Rattle.ras_syntax.specs.Grammar.{Text}
use Rattle.ras_logic.specs.declared.ids.SortId.{SortId}
use Rattle.ras_logic.specs.declared.ids.FunId.{FunId}
use Rattle.ras_logic.specs.declared.ids.ConstId.{ConstId}
use Rattle.ras_logic.specs.declared.ids.RelId.{RelId}
use Rattle.ras_names.specs.Placed as placed
use Rattle.ras_names.specs.Placed.{Name, Declared}
use Rattle.ras_names.specs.Checks.{texts, declared_texts}
use Rattle.ras_names.specs.TermChecks.{function_texts}
use Rattle.ras_names.specs.StepChecks.{relation_texts}

-- the place of a name in a list
abbrev pub number_in : List Text → Text → ℕ
number_in names name = option_map_or (λ (n : ℕ). n) (position (bytes_eq name) names) 0

module _ (file : placed.File) where
  abbrev pub sort_named : Text → SortId
  sort_named name = record { n = number_in (texts file.sorts) name }

  -- the sort that stands behind a colon
  abbrev pub declared_sort : Declared → SortId
  declared_sort d = sort_named d.of.text

  abbrev pub function_of_name : Name → FunId
  function_of_name f = record { n = number_in (function_texts file.functions) f.text }

  abbrev pub constant_of_name : Name → ConstId
  constant_of_name c = record { n = number_in (declared_texts file.constants) c.text }

  abbrev pub relation_named : Text → RelId
  relation_named name = record { n = number_in (relation_texts file) name }

  -- the relation that stands behind a colon
  abbrev pub declared_relation : Declared → RelId
  declared_relation d = relation_named d.of.text
