use Rattle.std.proofs.Common.{◌≡◌, sym, ◌∙◌, subst}
use Rattle.std.specs.Prelude.{Some}
use Rattle.ras_names.specs.declared.spec_fault.SpecFault.{SpecFault}
use Rattle.ras_names.specs.Placed as placed
use Rattle.ras_names.specs.Unplaced.{file_of}
use Rattle.ras_names.specs.FileChecks.{first_fault}
use Rattle.ras_names.proofs.OneFile.{file-same}
use Rattle.ras_names.proofs.law.first_faults_are_one.Goals as goal

some_is : (f g : SpecFault) → Some f ≡ Some g → f ≡ g
some_is f g e = cc

pub returns : goal.returns
returns c = λ tokens one other h k.
    let bare : file_of h.file ≡ file_of k.file = c.words_determine_the_file.ensures (file_of h.file) (file_of k.file) (sym h.of.spelled ∙ k.of.spelled) in
    let same : h.file ≡ k.file = file-same h.file k.file bare (sym h.of.places ∙ k.of.places) in
    some_is one other (sym h.first ∙ subst (λ (f : placed.File). first_fault f ≡ Some other) (sym same) k.first)
