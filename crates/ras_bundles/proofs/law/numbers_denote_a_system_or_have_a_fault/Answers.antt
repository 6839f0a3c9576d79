use Rattle.std.proofs.Common.{subst, ◌≡◌}
use Rattle.std.specs.Prelude.{None}
use Rattle.ras_bundles.specs.declared.system_lines.SystemLines.{SystemLines}
use Rattle.ras_bundles.specs.Numbers.{system_named}
use Rattle.ras_bundles.specs.Checks.{first_fault}
use Rattle.ras_bundles.proofs.CompleteLaws.{complete}
use Rattle.ras_bundles.proofs.SoundLaws.{sound}
use Rattle.ras_bundles.proofs.law.numbers_denote_a_system_or_have_a_fault.Goals as goal

pub returns : goal.returns
returns c = λ l written. (
  λ h. let d = complete l written h in (system_named l, d.plain, d.numbers),
  λ s. subst (λ (x : SystemLines). first_fault x ≡ None) s.2 (sound s.0 s.1),
)
