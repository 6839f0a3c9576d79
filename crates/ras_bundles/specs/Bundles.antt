-- The text of a bundle: a system without relations and data parameters, and an evidence.
use Rattle.std.specs.Prelude.{◌≡◌, ℕ, ◌+◌, List, [], ◌++◌, length, Option}
use Rattle.ras_logic.specs.SchemaFaults.{HasSchemaLimits}
use Rattle.ras_logic.specs.ShapeFaults.{HasShapeLimits}
use Rattle.ras_system.specs.Systems.{SystemParts, IsSystem}
use Rattle.ras_system.specs.SystemFaults.{HasSystemLimits}
use Rattle.ras_system.specs.Plain.{IsPlain}
use Rattle.ras_lines.specs.Faults.{AreLines}
use Rattle.ras_evidence.specs.declared.value.Evidence.{Evidence}
use Rattle.ras_core.specs.declared.event.Event.{Event}
use Rattle.ras_evidence.specs.EvidenceTexts.{text_lines, IsWritableText}
use Rattle.ras_bundles.specs.SystemTexts.{system_lines, IsWrittenSystem}
use Rattle.ras_bundles.specs.Numbers.{numbers_of}

-- a system within the limits, without relations and data parameters
pub record IsPlainSystem (s : SystemParts) : Type 0 where
  pub system : IsSystem s
  pub schema : HasSchemaLimits s.shape.schema
  pub shape : HasShapeLimits s.shape
  pub limits : HasSystemLimits s
  pub plain : IsPlain s

-- the bytes begin with the lines of a plain system, behind which stand these lines and the rest of one that is not ended
pub record BeginsWithSystem (bytes : List ℕ) (system : SystemParts) (behind : List (List ℕ)) (rest : List ℕ) : Type 0 where
  pub plain : IsPlainSystem system
  pub numbers : IsWrittenSystem (numbers_of system)
  pub lines : AreLines bytes (system_lines (numbers_of system) ++ behind) rest

-- The bytes are the bundle of a plain system and an evidence, whose first line has this number; a journal may stand behind the
-- evidence.
pub record IsBundle (bytes : List ℕ) (system : SystemParts) (evidence : Evidence) (line : ℕ) : Type 0 where
  pub journal : Option (List Event)
  pub front : BeginsWithSystem bytes system (text_lines (evidence, journal)) []
  pub writable : IsWritableText (evidence, journal)
  pub number : line ≡ length (system_lines (numbers_of system)) + 1
