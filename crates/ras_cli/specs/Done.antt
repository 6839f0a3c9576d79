-- What status 0 means for the files that the shelf tells of.
use Rattle.std.specs.Prelude.{◌≡◌, ℕ, List}
use Rattle.ras_outside.specs.Told.{Told, holds}
use Rattle.ras_logic.specs.declared.raw_db.RawDb.{RawDb}
use Rattle.ras_steps.specs.declared.run.Run.{Run}
use Rattle.ras_system.specs.Systems.{SystemParts}
use Rattle.ras_names.specs.declared.names.Names.{Names}
use Rattle.ras_names.specs.Texts.{Denotes}
use Rattle.ras_violation.specs.Violations.{IsGoodViolation}
use Rattle.ras_evidence.specs.declared.value.Evidence.{Evidence}
use Rattle.ras_evidence.specs.declared.value.Evidence.TheVariants.{Unsafe}
use Rattle.ras_evidence.specs.EvidenceTexts.{IsEvidenceText}
use Rattle.ras_bundles.specs.Bundles.{IsBundle}
use Rattle.ras_check.specs.Judging.{IsGood}
use Rattle.ras_cli.specs.Words.{Request, check_bundle, print, check, replay}
use Rattle.ras_cli.specs.Outcomes.{Proves}

-- the evidence is good for the system, and what it says of it is so
pub record IsProved (system : SystemParts) (evidence : Evidence) : Type 0 where
  pub good : IsGood system evidence
  pub so : Proves evidence system

-- the bytes are a bundle whose evidence proves what it says
abbrev pub IsGoodBundle : List ℕ → Type 0
IsGoodBundle bytes = (system : SystemParts) × (evidence : Evidence) × (line : ℕ) × IsBundle bytes system evidence line × IsProved system evidence

abbrev pub DenotesASystem : List ℕ → Type 0
DenotesASystem bytes = (system : SystemParts) × (names : Names) × Denotes bytes system names

-- the bytes denote a system, and the text is that of an evidence which proves what it says
abbrev pub IsGoodText : List ℕ → List ℕ → Type 0
IsGoodText bytes text =
    (system : SystemParts) × (names : Names) × (evidence : Evidence) × Denotes bytes system names × IsEvidenceText text evidence × IsProved system evidence

-- the bytes denote a system, and the text is that of a violation of it
abbrev pub IsViolationText : List ℕ → List ℕ → Type 0
IsViolationText bytes text =
    (system : SystemParts) × (names : Names) × (db : RawDb) × (run : Run) × Denotes bytes system names × IsEvidenceText text (Unsafe db run)
    × IsGoodViolation system db run

-- what the files of a request are that is done
abbrev pub IsDone : (List ℕ → Told) → Request → Type 0
IsDone told (check_bundle bundle) = (bytes : List ℕ) → told bundle ≡ holds bytes → IsGoodBundle bytes
IsDone told (print file) = (bytes : List ℕ) → told file ≡ holds bytes → DenotesASystem bytes
IsDone told (check file evidence) = (bytes text : List ℕ) → told file ≡ holds bytes → told evidence ≡ holds text → IsGoodText bytes text
IsDone told (replay file evidence) = (bytes text : List ℕ) → told file ≡ holds bytes → told evidence ≡ holds text → IsViolationText bytes text
