use Rattle.std.proofs.Common.{◌≡◌, List, refl, inl, inr}
use Rattle.std.specs.Prelude.{◌⊎◌, Option, Some, None}
use Rattle.ras_lexer.specs.declared.token.Token.{Token}
use Rattle.ras_system.specs.Systems.{SystemParts}
use Rattle.ras_names.specs.declared.names.Names.{Names}
use Rattle.ras_names.specs.declared.spec_fault.SpecFault.{SpecFault}
use Rattle.ras_names.specs.FileNames.{names_of}
use Rattle.ras_names.specs.Texts.{TokensDenote}
use Rattle.ras_names.specs.Placed as placed
use Rattle.ras_names.specs.Unplaced.{file_of}
use Rattle.ras_names.specs.PlacedTokens.{IsFileOf}
use Rattle.ras_names.specs.FileChecks.{first_fault}
use Rattle.ras_names.specs.Faults.{IsFirstFault}
use Rattle.ras_names.proofs.MadeFile.{faultless-denotes}
use Rattle.ras_names.proofs.law.tokens_denote_or_have_a_fault.Goals as goal

either : (tokens : List Token) (file : placed.File) → IsFileOf tokens file → (f : Option SpecFault) → first_fault file ≡ f
    → ((system : SystemParts) × (names : Names) × TokensDenote tokens system names) ⊎ ((first : SpecFault) × IsFirstFault tokens first)
either tokens file of None e =
    let made = faultless-denotes file e in inl (made.0, names_of (file_of file), record { file = file_of file; spelled = of.spelled; denotes = made.1 })
either tokens file of (Some first) e = inr (first, record { file = file; of = of; first = e })

pub returns : goal.returns
returns c = λ tokens file of. either tokens file of (first_fault file) refl
