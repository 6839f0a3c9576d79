-- What the texts of files come to.
use Rattle.std.specs.Prelude.{◌≡◌, ◌⊎◌, ℕ, List}
use Rattle.ras_system.specs.Systems.{SystemParts}
use Rattle.ras_system.specs.Runs.{IsSafe}
use Rattle.ras_syntax.specs.Grammar as grammar
use Rattle.ras_names.specs.Files.{FileDenotes}
use Rattle.ras_names.specs.Texts.{Denotes}
use Rattle.ras_names.specs.Canonical.{canonical_text}
use Rattle.ras_elab.specs.declared.elaborating.Spec.{Spec}
use Rattle.ras_file.specs.declared.fault.FileFault.{FileFault}
use Rattle.ras_file.specs.FileFaults.{IsFileFault}
use Rattle.ras_violation.specs.Violations.{IsGoodViolation}
use Rattle.ras_violation.specs.ViolationFaults.{IsViolationFault}
use Rattle.ras_violation.specs.ReplayTexts.{IsReplayText}
use Rattle.ras_evidence.specs.declared.value.Evidence.{Evidence}
use Rattle.ras_evidence.specs.declared.value.Evidence.TheVariants.{Safe, Unsafe, Unknown}
use Rattle.ras_evidence.specs.declared.fault.EvidenceFault.{EvidenceFault}
use Rattle.ras_evidence.specs.EvidenceTexts.{IsEvidenceText}
use Rattle.ras_evidence.specs.EvidenceFaults.{IsFirstFault}
use Rattle.ras_bundles.specs.declared.bundle.Bundle.{Bundle}
use Rattle.ras_bundles.specs.declared.fault.BundleError.{BundleError}
use Rattle.ras_bundles.specs.declared.fault.BundleError.TheVariants as bundle
use Rattle.ras_bundles.specs.Bundles.{IsBundle}
use Rattle.ras_bundles.specs.BundleFaults.{IsBundleFault}
use Rattle.ras_check.specs.declared.verdict.Invalid.TheVariants.{Violation}
use Rattle.ras_check.specs.Judging.{IsGood, IsInvalid}
use Rattle.ras_check.specs.VerdictLines.{valid_text}
use Rattle.ras_cli.specs.declared.outcome.Outcome.{Outcome}
use Rattle.ras_cli.specs.declared.outcome.Outcome.TheVariants.{Done, NoSystem, NoBundle, NoEvidence, Invalid}
use Rattle.ras_cli.specs.declared.outcome.Reason.TheVariants.{Fault, NoRun}

-- what a good evidence proves: that the system is safe, or that it is not; that a budget was spent proves neither
abbrev pub Proves : Evidence → SystemParts → Type 0
Proves (Safe formulas trees) system = IsSafe system
Proves (Unsafe db run) system = ¬ IsSafe system
Proves (Unknown entries spill) system = Unit {0}

-- the verdict on an evidence
abbrev pub IsVerdict : SystemParts → Evidence → Outcome → Type 0
IsVerdict system evidence (Done text) = (IsGood system evidence × Proves evidence system) × (text.items ≡ valid_text evidence)
IsVerdict system evidence (Invalid f) = IsInvalid system evidence f
IsVerdict system evidence other = ⊥

-- what comes of an evidence that is to be replayed: only one of a violation is
abbrev pub IsReplay : SystemParts → Evidence → Outcome → Type 0
IsReplay system (Unsafe db run) (Done text) = IsGoodViolation system db run × IsReplayText system db run text.items
IsReplay system (Unsafe db run) (Invalid (Violation f)) = IsViolationFault system db run f
IsReplay system (Safe formulas trees) (NoEvidence number NoRun) = number ≡ 1
IsReplay system (Unknown entries spill) (NoEvidence number NoRun) = number ≡ 1
IsReplay system evidence other = ⊥

-- the text is the canonical one of a file that denotes this, and denotes the same
pub record IsCanonical (spec : Spec) (text : List ℕ) : Type 0 where
  pub file : grammar.File
  pub of : FileDenotes file spec.system spec.names
  pub canonical : text ≡ canonical_text file
  pub back : Denotes text spec.system spec.names

abbrev pub IsPrint : Spec → Outcome → Type 0
IsPrint spec (Done text) = IsCanonical spec text.items
IsPrint spec other = ⊥

-- Refusals.

abbrev pub OfFileFault : FileFault → Outcome → Type 0
OfFileFault f (NoSystem g) = g ≡ f
OfFileFault f other = ⊥

abbrev pub OfEvidenceFault : EvidenceFault → Outcome → Type 0
OfEvidenceFault f (NoEvidence number (Fault kind)) = (number ≡ f.line) × (kind ≡ f.kind)
OfEvidenceFault f other = ⊥

abbrev pub OfBundleError : BundleError → Outcome → Type 0
OfBundleError (bundle.System line kind) (NoBundle number k) = (number ≡ line) × (k ≡ kind)
OfBundleError (bundle.Evidence f) outcome = OfEvidenceFault f outcome
OfBundleError e other = ⊥

-- either there is a value, and its outcome, or a fault, and that of the fault
abbrev pub EitherOf : {V F : Type 0} → (V → Type 0) → (F → Type 0) → (V → Outcome → Type 0) → (F → Outcome → Type 0) → Outcome → Type 0
EitherOf {V} {F} IsValue IsFault OfValue OfFault outcome = ((v : V) × IsValue v × OfValue v outcome) ⊎ ((f : F) × IsFault f × OfFault f outcome)

-- the bytes are a bundle, and the outcome is the verdict on its evidence; or they have a fault, and the outcome is its refusal
abbrev pub BundleComesTo : List ℕ → Outcome → Type 0
BundleComesTo bytes =
    EitherOf (λ (b : Bundle). IsBundle bytes b.system b.evidence b.line) (IsBundleFault bytes) (λ b. IsVerdict b.system b.evidence) OfBundleError

-- the bytes denote a system with names, and the outcome is this one; or they have a fault
abbrev pub FileComesTo : (Spec → Outcome → Type 0) → List ℕ → Outcome → Type 0
FileComesTo OfSpec bytes = EitherOf (λ (s : Spec). Denotes bytes s.system s.names) (IsFileFault bytes) OfSpec OfFileFault

-- the bytes are the text of an evidence, and the outcome is this one; or they have a fault
abbrev pub EvidenceComesTo : (Evidence → Outcome → Type 0) → List ℕ → Outcome → Type 0
EvidenceComesTo OfEvidence bytes = EitherOf (IsEvidenceText bytes) (IsFirstFault bytes) OfEvidence OfEvidenceFault
