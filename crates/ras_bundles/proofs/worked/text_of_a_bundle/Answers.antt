use Rattle.std.proofs.Common.{[], refl, ◌∷◌}
use Rattle.std.specs.Prelude.{None}
use Rattle.ras_bundles.specs.declared.system_lines.SystemLines.{SystemLines}
use Rattle.ras_bundles.specs.Worked.{one_variable_text, not_undef, never_other}
use Rattle.ras_bundles.proofs.BundleLaws.{bundle_read}
use Rattle.ras_bundles.proofs.worked.text_of_a_bundle.Goals as goal

abbrev numbers : SystemLines
numbers = record { sorts = 1; functions = []; constants = record { sorts = [] }; variables = record { sort = 0; initial = None } ∷ []; transitions = []; goals = not_undef ∷ [] }

pub returns : goal.returns
returns c = bundle_read one_variable_text _ numbers (never_other, None) 10 refl refl refl refl refl
