-- The first fault of names and sorts of the tokens of a file.
use Rattle.std.specs.Prelude.{◌≡◌, List, Some}
use Rattle.ras_lexer.specs.declared.token.Token.{Token}
use Rattle.ras_names.specs.declared.spec_fault.SpecFault.{SpecFault}
use Rattle.ras_names.specs.Placed as placed
use Rattle.ras_names.specs.PlacedTokens.{IsFileOf}
use Rattle.ras_names.specs.FileChecks.{first_fault}

-- the tokens are a file, and the fault is its first
pub record IsFirstFault (tokens : List Token) (fault : SpecFault) : Type 0 where
  pub file : placed.File
  pub of : IsFileOf tokens file
  pub first : first_fault file ≡ Some fault
