-- What the tokens of a tree denote, or their first fault.
use Rattle.std.proofs.Common.{◌≡◌, List, sym, subst}
use Rattle.std.specs.Prelude.{Result, Ok, Err, IfErr, IsErrAnd}
use Rattle.ras_lexer.specs.declared.token.Token.{Token}
use Rattle.ras_syntax.specs.declared.tree.File as tree
use Rattle.ras_syntax.specs.Grammar.{IsFile}
use Rattle.ras_syntax.specs.Places.{of_file, words}
use Rattle.ras_system.specs.Systems.{SystemParts}
use Rattle.ras_names.specs.declared.names.Names.{Names}
use Rattle.ras_names.specs.declared.spec_fault.SpecFault.{SpecFault}
use Rattle.ras_names.specs.Placed as placed
use Rattle.ras_names.specs.PlacedTokens.{IsFileOf}
use Rattle.ras_names.specs.Unplaced.{file_of}
use Rattle.ras_names.specs.FileNames.{names_of}
use Rattle.ras_names.specs.Files.{FileDenotes}
use Rattle.ras_names.specs.FileChecks as file_checks
use Rattle.ras_names.specs.Faults.{IsFirstFault}
use Rattle.ras_names.specs.Texts.{TokensDenote}
use Rattle.ras_scope.specs.declared.fault.SpecError.{SpecError}
use Rattle.ras_scope.specs.declared.fault.SpecError.TheVariants.{Fault, Memory}
use Rattle.ras_scope.specs.Placing.{placed_file}
use Rattle.ras_scope.specs.Answering.{Faults}
use Rattle.ras_elab.specs.Elaborating.{IsFaultOf, IsMemory}

-- an error that is handed on
pub handed_error : {A : Type 0} (P : SpecError → Type 0) (r : Result A SpecError) (e : SpecError) → IsErrAnd r (λ x. x ≡ e) → P e → IfErr r P
handed_error P (Ok a) e h p = absurd h
handed_error P (Err x) e h p = subst P (sym h) p

-- a tree whose tokens these are
pub of_tree : ((file : tree.File) → IsFile (words (of_file file)) → IsFileOf (of_file file) (placed_file file)) → (tokens : List Token) (file : tree.File) → of_file file ≡ tokens
    → IsFile (words (of_file file)) → IsFileOf tokens (placed_file file)
of_tree law tokens file view is = subst (λ (ts : List Token). IsFileOf ts (placed_file file)) view (law file is)

module _ (tokens : List Token) (file : placed.File) (of : IsFileOf tokens file) where
  pub denoted : (value system : SystemParts) (names : Names) → FileDenotes (file_of file) value (names_of (file_of file)) → system ≡ value → names ≡ names_of (file_of file)
      → TokensDenote tokens system names
  denoted value system names h same own = record {
    file = file_of file;
    spelled = of.spelled;
    denotes = subst (λ (s : SystemParts). FileDenotes (file_of file) s names) (sym same) (subst (λ (n : Names). FileDenotes (file_of file) value n) (sym own) h);
  }

  pub fault_of : (e : SpecError) → Faults (file_checks.checks file) e → IsFaultOf tokens e
  fault_of (Fault f) h = record { file = file; of = of; first = h }
  fault_of (Memory m) h = tt

-- where something is denoted, there is no fault
pub memory_alone : (tokens : List Token) (system : SystemParts) (names : Names)
    → ((ts : List Token) (first : SpecFault) → IsFirstFault ts first → (s : SystemParts) (n : Names) → TokensDenote ts s n → ⊥) → TokensDenote tokens system names
    → (e : SpecError) → IsFaultOf tokens e → IsMemory e
memory_alone tokens system names law h (Fault f) first = law tokens f first system names h
memory_alone tokens system names law h (Memory m) first = tt
