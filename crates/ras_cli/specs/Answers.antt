-- The status and the text of each outcome.
use Rattle.std.specs.Prelude.{ℕ, List, [], ◌∷◌, ◌++◌, codes}
use Rattle.std.specs.Fmt.{decimal}
use Rattle.ras_text.specs.Pieces.{line}
use Rattle.ras_file.specs.Refusals.{refusal_text}
use Rattle.ras_evidence.specs.declared.fault.EvidenceKind.{EvidenceKind}
use Rattle.ras_evidence.specs.declared.fault.EvidenceKind.TheVariants as fault
use Rattle.ras_bundles.specs.declared.fault.BundleKind.{BundleKind}
use Rattle.ras_bundles.specs.declared.fault.BundleKind.TheVariants as bundle
use Rattle.ras_check.specs.VerdictLines.{invalid_text}
use Rattle.ras_cli.specs.declared.outcome.Outcome.{Outcome}
use Rattle.ras_cli.specs.declared.outcome.Outcome.TheVariants.{Done, NoSystem, NoBundle, NoEvidence, Invalid, TooLong, NotRead, NoCommand}
use Rattle.ras_cli.specs.declared.outcome.Reason.{Reason}
use Rattle.ras_cli.specs.declared.outcome.Reason.TheVariants.{Fault, NoRun}

abbrev pub status_of : Outcome → ℕ
status_of (Done text) = 0
status_of (NoSystem f) = 30
status_of (NoBundle line kind) = 30
status_of (NoEvidence line reason) = 31
status_of (Invalid f) = 31
status_of (TooLong name) = 32
status_of NoCommand = 40
status_of (NotRead name) = 50

-- `.. N WORD`: a text, the number of a line, a word
abbrev pub numbered : List ℕ → ℕ → List ℕ → List ℕ
numbered text number word = text ++ (decimal number ++ (codes " " ++ line word))

abbrev pub bundle_word : BundleKind → List ℕ
bundle_word bundle.Text = codes "TEXT"
bundle_word bundle.Limit = codes "LIMIT"
bundle_word bundle.Range = codes "RANGE"
bundle_word bundle.Sort = codes "SORT"
bundle_word bundle.Cycle = codes "CYCLE"
bundle_word bundle.Target = codes "TARGET"
bundle_word bundle.Disjunct = codes "DISJUNCT"

abbrev pub fault_word : EvidenceKind → List ℕ
fault_word fault.Version = codes "VERSION"
fault_word fault.Text = codes "TEXT"
fault_word fault.Ended = codes "ENDED"

abbrev pub reason_word : Reason → List ℕ
reason_word (Fault kind) = fault_word kind
reason_word NoRun = codes "NO_RUN"

abbrev pub usage : List ℕ
usage =
    line (codes "usage:")
    ++ (line (codes "  rasprove check FILE EVIDENCE")
    ++ (line (codes "  rasprove check BUNDLE")
    ++ (line (codes "  rasprove replay FILE EVIDENCE")
    ++ line (codes "  rasprove print FILE"))))

abbrev pub text_of : Outcome → List ℕ
text_of (Done text) = text.items
text_of (NoSystem f) = refusal_text f
text_of (NoBundle number kind) = numbered (codes "REFUSED bundle LINE ") number (bundle_word kind)
text_of (NoEvidence number reason) = numbered (codes "REFUSED evidence LINE ") number (reason_word reason)
text_of (Invalid f) = invalid_text f
text_of (TooLong name) = codes "REFUSED long " ++ line name.now
text_of (NotRead name) = codes "REFUSED read " ++ line name.now
text_of NoCommand = line (codes "REFUSED words") ++ usage
