use Rattle.std.proofs.Common.{refl}
use Rattle.ras_bundles.specs.declared.fault.BundleKind.TheVariants as kind
use Rattle.ras_bundles.specs.Worked.{ring_text, twice_text, no_disjunct_text, cut_text}
use Rattle.ras_bundles.proofs.BundleLaws.{fault_read, text_fault}
use Rattle.ras_bundles.proofs.worked.texts_with_a_system_fault.Goals as goal

pub returns-clause-ring : goal.returns-clause-ring
returns-clause-ring c = fault_read ring_text 6 kind.Cycle refl

pub returns-clause-twice : goal.returns-clause-twice
returns-clause-twice c = fault_read twice_text 12 kind.Target refl

pub returns-clause-no_disjunct : goal.returns-clause-no_disjunct
returns-clause-no_disjunct c = fault_read no_disjunct_text 8 kind.Disjunct refl

pub returns-clause-cut : goal.returns-clause-cut
returns-clause-cut c = text_fault cut_text _ 10 refl refl
