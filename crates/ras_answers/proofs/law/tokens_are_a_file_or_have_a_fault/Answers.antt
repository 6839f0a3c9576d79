use Rattle.std.proofs.Common.{◌≡◌, ℕ, ◌-◌, ◌⊎◌, inl, inr, List, length, Option, Some, None, refl}
use Rattle.ras_lexer.specs.declared.token.Word.{Word}
use Rattle.ras_syntax.specs.Grammar.{IsFile}
use Rattle.ras_syntax.specs.Machine.{fault, start}
use Rattle.ras_syntax.specs.Parsing.{IsFirstFault}
use Rattle.ras_syntax.specs.Places.{words}
use Rattle.ras_syntax.proofs.First.{first_fault}
use Rattle.ras_syntax.proofs.Sound.{file_sound}
use Rattle.ras_answers.proofs.law.tokens_are_a_file_or_have_a_fault.Goals as goal

-- the machine reads the words to their end, or stops at a word
either : (ws : List Word) (left : Option ℕ) → fault start ws ≡ left → IsFile ws ⊎ ((first : ℕ) × IsFirstFault ws first)
either ws None e = inl (file_sound ws e)
either ws (Some left) e = inr (length ws - left, first_fault ws left e)

pub returns : goal.returns
returns c = λ tokens. either (words tokens) (fault start (words tokens)) refl
