use Rattle.std.proofs.Common.{◌≡◌, sym, ◌∙◌, subst}
use Rattle.ras_syntax.specs.Grammar as grammar
use Rattle.ras_names.specs.Unplaced.{file_of}
use Rattle.ras_names.specs.Files.{FileDenotes}
use Rattle.ras_names.proofs.PassFile.{faulty-denotes_nothing}
use Rattle.ras_names.proofs.law.tokens_with_a_fault_denote_nothing.Goals as goal

pub returns : goal.returns
returns c = λ tokens first h system names k.
    let same : k.file ≡ file_of h.file = c.words_determine_the_file.ensures k.file (file_of h.file) (sym k.spelled ∙ h.of.spelled) in
    faulty-denotes_nothing h.file first h.first system names (subst (λ (f : grammar.File). FileDenotes f system names) same k.denotes)
