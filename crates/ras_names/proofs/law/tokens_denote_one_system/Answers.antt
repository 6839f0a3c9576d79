use Rattle.std.proofs.Common.{◌≡◌, sym, ◌∙◌, subst}
use Rattle.ras_syntax.specs.Grammar as grammar
use Rattle.ras_names.specs.Files.{FileDenotes}
use Rattle.ras_names.proofs.OneSystem.{one_system}
use Rattle.ras_names.proofs.law.tokens_denote_one_system.Goals as goal

pub returns : goal.returns
returns c = λ tokens system other names more h k.
    let same : k.file ≡ h.file = c.words_determine_the_file.ensures k.file h.file (sym k.spelled ∙ h.spelled) in
    one_system h.file system other names more h.denotes (subst (λ (f : grammar.File). FileDenotes f other more) same k.denotes)
