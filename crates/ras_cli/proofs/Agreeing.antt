-- What comes of a call agrees with what the told files come to.
use Rattle.std.proofs.Common.{◌≡◌, ℕ, ◌⊎◌, inl, inr, List, length, refl, sym, ◌∙◌, ap, subst, arith}
use Rattle.ras_outside.specs.Told.{Told, holds, untold, missing, IsTold}
use Rattle.ras_logic.specs.declared.raw_db.RawDb.{RawDb}
use Rattle.ras_logic.specs.Formulas.{IsCube}
use Rattle.std.specs.Prelude.{All, codes, ◌++◌}
use Rattle.ras_system.specs.Systems.{SystemParts}
use Rattle.ras_steps.specs.declared.run.Run.{Run}
use Rattle.ras_syntax.specs.Grammar as grammar
use Rattle.ras_names.specs.declared.names.Names.{Names}
use Rattle.ras_names.specs.Files.{FileDenotes}
use Rattle.ras_names.specs.Texts.{Denotes}
use Rattle.ras_names.specs.Canonical.{canonical_text}
use Rattle.ras_elab.specs.declared.elaborating.Spec.{Spec}
use Rattle.ras_file.specs.declared.fault.FileFault.{FileFault}
use Rattle.ras_file.specs.FileFaults.{IsFileFault}
use Rattle.ras_file.specs.Refusals.{refusal_text}
use Rattle.ras_violation.specs.declared.violation_fault.ViolationFault.{ViolationFault}
use Rattle.ras_violation.specs.Violations.{IsGoodViolation}
use Rattle.ras_violation.specs.ViolationFaults.{IsViolationFault}
use Rattle.ras_violation.specs.ReplayTexts.{IsReplayText}
use Rattle.ras_evidence.specs.declared.value.Evidence.{Evidence}
use Rattle.ras_evidence.specs.declared.value.Evidence.TheVariants.{Safe, Unsafe, Unknown}
use Rattle.ras_evidence.specs.declared.fault.EvidenceKind.{EvidenceKind}
use Rattle.ras_evidence.specs.declared.fault.EvidenceFault.{EvidenceFault}
use Rattle.ras_evidence.specs.EvidenceTexts.{IsEvidenceText}
use Rattle.ras_evidence.specs.EvidenceFaults.{IsFirstFault}
use Rattle.ras_bundles.specs.declared.bundle.Bundle.{Bundle}
use Rattle.ras_bundles.specs.declared.fault.BundleKind.{BundleKind}
use Rattle.ras_bundles.specs.declared.fault.BundleError.{BundleError}
use Rattle.ras_bundles.specs.declared.fault.BundleError.TheVariants as bundle
use Rattle.ras_bundles.specs.Bundles.{IsBundle}
use Rattle.ras_bundles.specs.BundleFaults.{IsBundleFault, IsFault}
use Rattle.ras_check.specs.declared.verdict.Verdict.{Verdict}
use Rattle.ras_check.specs.declared.verdict.Verdict.TheVariants as verdict
use Rattle.ras_check.specs.declared.verdict.Invalid.TheVariants.{Violation, Safe as SafeFault, Spent}
use Rattle.ras_check.specs.Judging.{AnswersCheck}
use Rattle.ras_check.specs.VerdictLines.{valid_text, invalid_text}
use Rattle.ras_cli.specs.declared.outcome.Outcome.{Outcome}
use Rattle.ras_cli.specs.declared.outcome.Outcome.TheVariants.{Done, NoSystem, NoBundle, NoEvidence, Invalid, TooLong, NotRead, NoCommand}
use Rattle.ras_cli.specs.declared.outcome.Reason.TheVariants.{Fault, NoRun}
use Rattle.ras_cli.specs.Words.{Request, check_bundle, print, check, replay}
use Rattle.ras_text.specs.Pieces.{line}
use Rattle.ras_cli.specs.Answers.{status_of, text_of, numbered, bundle_word, reason_word}
use Rattle.ras_cli.specs.Outcomes.{IsVerdict, IsReplay, IsPrint, OfFileFault, OfEvidenceFault, OfBundleError, EitherOf, BundleComesTo, FileComesTo, EvidenceComesTo}
use Rattle.ras_cli.specs.Loads.{longest_file, longest_evidence, RequestComesTo, IsLoaded, Loads, Comes, LoadsTold, ToldToComeTo}
use Rattle.ras_cli.proofs.Naming.{one_asked}

-- two outcomes have one status and one text
abbrev pub IsOneAnswer : Outcome → Outcome → Type 0
IsOneAnswer o p = (status_of o ≡ status_of p) × (text_of o ≡ text_of p)

-- an outcome of the first kind is that a file could not be read, or it has the answer of each outcome of the second kind
abbrev pub Agree : (Outcome → Type 0) → (Outcome → Type 0) → Type 0
Agree R S = (o p : Outcome) → R o → S p → (status_of o ≡ 50) ⊎ IsOneAnswer o p

-- what makes each reader and judge exact
pub record Laws : Type 0 where
  pub verdict_once : (system : SystemParts) (e : Evidence) (v w : Verdict) → AnswersCheck system e v → AnswersCheck system e w → v ≡ w
  pub no_violation : (system : SystemParts) (d : RawDb) (run : Run) (f : ViolationFault) → IsViolationFault system d run f → ¬ IsGoodViolation system d run
  pub violation_fault_once : (system : SystemParts) (d : RawDb) (run : Run) (f g : ViolationFault) → IsViolationFault system d run f → IsViolationFault system d run g → f ≡ g
  pub replay_once : (system : SystemParts) (d : RawDb) (run : Run) (text other : List ℕ) → All IsCube system.goals → IsReplayText system d run text
      → IsReplayText system d run other → text ≡ other
  pub evidence_once : (bytes : List ℕ) (e d : Evidence) → IsEvidenceText bytes e → IsEvidenceText bytes d → e ≡ d
  pub evidence_fault_once : (bytes : List ℕ) (f g : EvidenceFault) → IsFirstFault bytes f → IsFirstFault bytes g → f ≡ g
  pub evidence_apart : (bytes : List ℕ) (e : Evidence) (f : EvidenceFault) → IsEvidenceText bytes e → IsFirstFault bytes f → ⊥
  pub bundle_once : (bytes : List ℕ) (s t : SystemParts) (e d : Evidence) (n m : ℕ) → IsBundle bytes s e n → IsBundle bytes t d m → (s ≡ t) × (e ≡ d) × (n ≡ m)
  pub bundle_fault_once : (bytes : List ℕ) (e f : BundleError) → IsFault e → IsFault f → IsBundleFault bytes e → IsBundleFault bytes f → e ≡ f
  pub bundle_apart : (bytes : List ℕ) (s : SystemParts) (e : Evidence) (n : ℕ) (f : BundleError) → IsBundle bytes s e n → IsFault f → IsBundleFault bytes f → ⊥
  pub spec_once : (bytes : List ℕ) (system other : SystemParts) (names more : Names) → Denotes bytes system names → Denotes bytes other more → (system ≡ other) × (names ≡ more)
  pub file_fault_once : (bytes : List ℕ) (f g : FileFault) → IsFileFault bytes f → IsFileFault bytes g → f ≡ g
  pub file_apart : (bytes : List ℕ) (f : FileFault) → IsFileFault bytes f → (system : SystemParts) (names : Names) → ¬ Denotes bytes system names
  pub print_once : (file other : grammar.File) (system : SystemParts) (names : Names) → FileDenotes file system names → FileDenotes other system names
      → canonical_text file ≡ canonical_text other

-- Values and faults.

either_agree : {V F : Type 0} (IsValue : V → Type 0) (IsBad : F → Type 0) (OfValue OfTold : V → Outcome → Type 0) (OfBad : F → Outcome → Type 0)
    → ((v w : V) → IsValue v → IsValue w → Agree (OfValue v) (OfTold w))
    → ((f g : F) → IsBad f → IsBad g → Agree (OfBad f) (OfBad g))
    → ((v : V) (f : F) (o : Outcome) → IsValue v → IsBad f → OfBad f o → ⊥)
    → Agree (EitherOf IsValue IsBad OfValue OfBad) (EitherOf IsValue IsBad OfTold OfBad)
either_agree IsValue IsBad OfValue OfTold OfBad values bads never o p (inl a) (inl b) = values a.0 b.0 a.1 b.1 o p a.2 b.2
either_agree IsValue IsBad OfValue OfTold OfBad values bads never o p (inl a) (inr b) = absurd (never a.0 b.0 p a.1 b.1 b.2)
either_agree IsValue IsBad OfValue OfTold OfBad values bads never o p (inr a) (inl b) = absurd (never b.0 a.0 o b.1 a.1 a.2)
either_agree IsValue IsBad OfValue OfTold OfBad values bads never o p (inr a) (inr b) = bads a.0 b.0 a.1 b.1 o p a.2 b.2

-- Verdicts.

-- the status and the text of a verdict
abbrev Tells : Evidence → Verdict → Outcome → Type 0
Tells e verdict.Valid o = (status_of o ≡ 0) × (text_of o ≡ valid_text e)
Tells e (verdict.Invalid f) o = (status_of o ≡ 31) × (text_of o ≡ invalid_text f)

verdict_of : (system : SystemParts) (e : Evidence) (o : Outcome) → IsVerdict system e o → (v : Verdict) × AnswersCheck system e v × Tells e v o
verdict_of system e (Done text) h = (verdict.Valid, h.0.0, (refl, h.1))
verdict_of system e (Invalid f) h = (verdict.Invalid f, h, (refl, refl))
verdict_of system e (NoEvidence number (Fault kind)) h = absurd h
verdict_of system e (NoEvidence number NoRun) h = absurd h
verdict_of system e (NoSystem f) h = absurd h
verdict_of system e (NoBundle number kind) h = absurd h
verdict_of system e (TooLong name) h = absurd h
verdict_of system e (NotRead name) h = absurd h
verdict_of system e NoCommand h = absurd h

tell_once : (e : Evidence) (v : Verdict) (o p : Outcome) → Tells e v o → Tells e v p → IsOneAnswer o p
tell_once e verdict.Valid o p a b = (a.0 ∙ sym b.0, a.1 ∙ sym b.1)
tell_once e (verdict.Invalid f) o p a b = (a.0 ∙ sym b.0, a.1 ∙ sym b.1)

-- Replays.

-- what may come of the run of an evidence
data Ran : Type 0 where
  done : List ℕ → Ran
  bad : ViolationFault → Ran
  none : Ran

abbrev IsRan : SystemParts → Evidence → Ran → Type 0
IsRan system (Unsafe d run) (done text) = IsGoodViolation system d run × IsReplayText system d run text
IsRan system (Unsafe d run) (bad f) = IsViolationFault system d run f
IsRan system (Unsafe d run) none = ⊥
IsRan system (Safe formulas trees) r = r ≡ none
IsRan system (Unknown entries spill) r = r ≡ none

abbrev RunTells : Ran → Outcome → Type 0
RunTells (done text) o = (status_of o ≡ 0) × (text_of o ≡ text)
RunTells (bad f) o = (status_of o ≡ 31) × (text_of o ≡ invalid_text (Violation f))
RunTells none o = (status_of o ≡ 31) × (text_of o ≡ numbered (codes "REFUSED evidence LINE ") 1 (reason_word NoRun))

no_run : (n : ℕ) → n ≡ 1 → numbered (codes "REFUSED evidence LINE ") n (reason_word NoRun) ≡ numbered (codes "REFUSED evidence LINE ") 1 (reason_word NoRun)
no_run n is = ap (λ (k : ℕ). numbered (codes "REFUSED evidence LINE ") k (reason_word NoRun)) is

ran_of : (system : SystemParts) (e : Evidence) (o : Outcome) → IsReplay system e o → (r : Ran) × IsRan system e r × RunTells r o
ran_of system (Unsafe d run) (Done text) h = (done text.items, h, (refl, refl))
ran_of system (Unsafe d run) (NoSystem g) h = absurd h
ran_of system (Unsafe d run) (NoBundle number kind) h = absurd h
ran_of system (Unsafe d run) (NoEvidence number (Fault kind)) h = absurd h
ran_of system (Unsafe d run) (NoEvidence number NoRun) h = absurd h
ran_of system (Unsafe d run) (Invalid (SafeFault g)) h = absurd h
ran_of system (Unsafe d run) (Invalid (Spent g)) h = absurd h
ran_of system (Unsafe d run) (Invalid (Violation f)) h = (bad f, h, (refl, refl))
ran_of system (Unsafe d run) (TooLong name) h = absurd h
ran_of system (Unsafe d run) (NotRead name) h = absurd h
ran_of system (Unsafe d run) NoCommand h = absurd h
ran_of system (Safe formulas trees) (Done text) h = absurd h
ran_of system (Safe formulas trees) (NoSystem g) h = absurd h
ran_of system (Safe formulas trees) (NoBundle number kind) h = absurd h
ran_of system (Safe formulas trees) (NoEvidence number (Fault kind)) h = absurd h
ran_of system (Safe formulas trees) (NoEvidence number NoRun) h = (none, refl, (refl, no_run number h))
ran_of system (Safe formulas trees) (Invalid (SafeFault g)) h = absurd h
ran_of system (Safe formulas trees) (Invalid (Violation f)) h = absurd h
ran_of system (Safe formulas trees) (Invalid (Spent g)) h = absurd h
ran_of system (Safe formulas trees) (TooLong name) h = absurd h
ran_of system (Safe formulas trees) (NotRead name) h = absurd h
ran_of system (Safe formulas trees) NoCommand h = absurd h
ran_of system (Unknown entries spill) (Done text) h = absurd h
ran_of system (Unknown entries spill) (NoSystem g) h = absurd h
ran_of system (Unknown entries spill) (NoBundle number kind) h = absurd h
ran_of system (Unknown entries spill) (NoEvidence number (Fault kind)) h = absurd h
ran_of system (Unknown entries spill) (NoEvidence number NoRun) h = (none, refl, (refl, no_run number h))
ran_of system (Unknown entries spill) (Invalid (SafeFault g)) h = absurd h
ran_of system (Unknown entries spill) (Invalid (Violation f)) h = absurd h
ran_of system (Unknown entries spill) (Invalid (Spent g)) h = absurd h
ran_of system (Unknown entries spill) (TooLong name) h = absurd h
ran_of system (Unknown entries spill) (NotRead name) h = absurd h
ran_of system (Unknown entries spill) NoCommand h = absurd h

tell_run_once : (r : Ran) (o p : Outcome) → RunTells r o → RunTells r p → IsOneAnswer o p
tell_run_once (done text) o p a b = (a.0 ∙ sym b.0, a.1 ∙ sym b.1)
tell_run_once (bad f) o p a b = (a.0 ∙ sym b.0, a.1 ∙ sym b.1)
tell_run_once none o p a b = (a.0 ∙ sym b.0, a.1 ∙ sym b.1)

-- Loads.

abbrev tag : Told → ℕ
tag untold = 0
tag missing = 1
tag (holds bytes) = 2

told_not_untold : (t : Told) (bytes : List ℕ) → t ≡ holds bytes → IsTold t
told_not_untold t bytes is e = let n : 0 ≡ 2 = ap tag (sym e ∙ is) in absurd (omega (arith, n))

one_content : (a b : List ℕ) → holds a ≡ holds b → a ≡ b
one_content a b e = ap (λ (t : Told). elim t [ untold ↦ a | missing ↦ a | holds c ↦ c ]) e

module _ (told : List ℕ → Told) (before after : List ℕ → ℕ) (name : List ℕ) (most : ℕ) where
  -- what was loaded is what is told
  pub loaded_is : (bytes content : List ℕ) → IsLoaded told name most bytes → told name ≡ holds content → bytes ≡ content
  loaded_is bytes content loaded is = one_content bytes content (sym (loaded.as_told (told_not_untold (told name) content is)) ∙ is)

  loads_agree : (OfBytes OfTold : List ℕ → Outcome → Type 0) → ((bytes : List ℕ) → Agree (OfBytes bytes) (OfTold bytes))
      → Agree (Loads told before after name most OfBytes) (LoadsTold told name most OfTold)
  loads_agree OfBytes OfTold agree o p (inr a) (inr b) =
      let is : a.0 ≡ b.0 = loaded_is a.0 b.0 a.1 b.1 in
      agree b.0 o p (subst (λ (bytes : List ℕ). OfBytes bytes o) is a.2) b.3
  loads_agree OfBytes OfTold agree (Done text) p (inl a) b = absurd a
  loads_agree OfBytes OfTold agree (NoSystem g) p (inl a) b = absurd a
  loads_agree OfBytes OfTold agree (NoBundle number kind) p (inl a) b = absurd a
  loads_agree OfBytes OfTold agree (NoEvidence number reason) p (inl a) b = absurd a
  loads_agree OfBytes OfTold agree (Invalid g) p (inl a) b = absurd a
  loads_agree OfBytes OfTold agree NoCommand p (inl a) b = absurd a
  loads_agree OfBytes OfTold agree (NotRead n) p (inl a) b = inl refl
  loads_agree OfBytes OfTold agree (TooLong n) (Done text) (inl a) (inl b) = absurd b
  loads_agree OfBytes OfTold agree (TooLong n) (NoSystem g) (inl a) (inl b) = absurd b
  loads_agree OfBytes OfTold agree (TooLong n) (NoBundle number kind) (inl a) (inl b) = absurd b
  loads_agree OfBytes OfTold agree (TooLong n) (NoEvidence number reason) (inl a) (inl b) = absurd b
  loads_agree OfBytes OfTold agree (TooLong n) (Invalid g) (inl a) (inl b) = absurd b
  loads_agree OfBytes OfTold agree (TooLong n) NoCommand (inl a) (inl b) = absurd b
  loads_agree OfBytes OfTold agree (TooLong n) (NotRead m) (inl a) (inl b) = absurd b
  loads_agree OfBytes OfTold agree (TooLong n) (TooLong m) (inl a) (inl b) = inr (refl, ap (λ (w : List ℕ). codes "REFUSED long " ++ line w) (a.0 ∙ sym b.0))
  loads_agree OfBytes OfTold agree (TooLong n) p (inl a) (inr b) =
      let long = a.1 (told_not_untold (told name) b.0 b.1) in
      let is : long.0 ≡ b.0 = one_content long.0 b.0 (sym long.1 ∙ b.1) in
      absurd (omega (arith, long.2, b.2, ap length is))
  loads_agree OfBytes OfTold agree o (Done text) (inr a) (inl b) = absurd b
  loads_agree OfBytes OfTold agree o (NoSystem g) (inr a) (inl b) = absurd b
  loads_agree OfBytes OfTold agree o (NoBundle number kind) (inr a) (inl b) = absurd b
  loads_agree OfBytes OfTold agree o (NoEvidence number reason) (inr a) (inl b) = absurd b
  loads_agree OfBytes OfTold agree o (Invalid g) (inr a) (inl b) = absurd b
  loads_agree OfBytes OfTold agree o NoCommand (inr a) (inl b) = absurd b
  loads_agree OfBytes OfTold agree o (NotRead m) (inr a) (inl b) = absurd b
  loads_agree OfBytes OfTold agree o (TooLong m) (inr a) (inl b) =
      let is : a.0 ≡ b.1.0 = loaded_is a.0 b.1.0 a.1 b.1.1 in
      absurd (omega (arith, a.1.within, b.1.2, ap length is))

-- Refusals.

file_faults : (f : FileFault) → Agree (OfFileFault f) (OfFileFault f)
file_faults f (NoSystem g) (NoSystem h) a b = inr (refl, ap refusal_text (a ∙ sym b))
file_faults f (Done text) p a b = absurd a
file_faults f (NoBundle number kind) p a b = absurd a
file_faults f (NoEvidence number reason) p a b = absurd a
file_faults f (Invalid g) p a b = absurd a
file_faults f (TooLong n) p a b = absurd a
file_faults f (NotRead n) p a b = absurd a
file_faults f NoCommand p a b = absurd a
file_faults f (NoSystem h) (Done text) a b = absurd b
file_faults f (NoSystem h) (NoBundle number kind) a b = absurd b
file_faults f (NoSystem h) (NoEvidence number reason) a b = absurd b
file_faults f (NoSystem h) (Invalid g) a b = absurd b
file_faults f (NoSystem h) (TooLong n) a b = absurd b
file_faults f (NoSystem h) (NotRead n) a b = absurd b
file_faults f (NoSystem h) NoCommand a b = absurd b

evidence_faults : (f : EvidenceFault) → Agree (OfEvidenceFault f) (OfEvidenceFault f)
evidence_faults f (NoEvidence n (Fault k)) (NoEvidence m (Fault l)) a b =
    inr (
      refl,
      ap (λ (i : ℕ). numbered (codes "REFUSED evidence LINE ") i (reason_word (Fault k))) (a.0 ∙ sym b.0)
          ∙ ap (λ (i : EvidenceKind). numbered (codes "REFUSED evidence LINE ") m (reason_word (Fault i))) (a.1 ∙ sym b.1),
    )
evidence_faults f (Done text) p a b = absurd a
evidence_faults f (NoSystem g) p a b = absurd a
evidence_faults f (NoBundle number kind) p a b = absurd a
evidence_faults f (NoEvidence number NoRun) p a b = absurd a
evidence_faults f (Invalid g) p a b = absurd a
evidence_faults f (TooLong n) p a b = absurd a
evidence_faults f (NotRead n) p a b = absurd a
evidence_faults f NoCommand p a b = absurd a
evidence_faults f (NoEvidence n (Fault k)) (Done text) a b = absurd b
evidence_faults f (NoEvidence n (Fault k)) (NoSystem g) a b = absurd b
evidence_faults f (NoEvidence n (Fault k)) (NoBundle number kind) a b = absurd b
evidence_faults f (NoEvidence n (Fault k)) (NoEvidence number NoRun) a b = absurd b
evidence_faults f (NoEvidence n (Fault k)) (Invalid g) a b = absurd b
evidence_faults f (NoEvidence n (Fault k)) (TooLong m) a b = absurd b
evidence_faults f (NoEvidence n (Fault k)) (NotRead m) a b = absurd b
evidence_faults f (NoEvidence n (Fault k)) NoCommand a b = absurd b

bundle_errors : (e : BundleError) → Agree (OfBundleError e) (OfBundleError e)
bundle_errors (bundle.Evidence f) o p a b = evidence_faults f o p a b
bundle_errors (bundle.Memory e) o p a b = absurd a
bundle_errors (bundle.System number kind) (NoBundle n k) (NoBundle m l) a b =
    inr (
      refl,
      ap (λ (i : ℕ). numbered (codes "REFUSED bundle LINE ") i (bundle_word k)) (a.0 ∙ sym b.0)
          ∙ ap (λ (i : BundleKind). numbered (codes "REFUSED bundle LINE ") m (bundle_word i)) (a.1 ∙ sym b.1),
    )
bundle_errors (bundle.System number kind) (Done text) p a b = absurd a
bundle_errors (bundle.System number kind) (NoSystem g) p a b = absurd a
bundle_errors (bundle.System number kind) (NoEvidence n reason) p a b = absurd a
bundle_errors (bundle.System number kind) (Invalid g) p a b = absurd a
bundle_errors (bundle.System number kind) (TooLong n) p a b = absurd a
bundle_errors (bundle.System number kind) (NotRead n) p a b = absurd a
bundle_errors (bundle.System number kind) NoCommand p a b = absurd a
bundle_errors (bundle.System number kind) (NoBundle n k) (Done text) a b = absurd b
bundle_errors (bundle.System number kind) (NoBundle n k) (NoSystem g) a b = absurd b
bundle_errors (bundle.System number kind) (NoBundle n k) (NoEvidence m reason) a b = absurd b
bundle_errors (bundle.System number kind) (NoBundle n k) (Invalid g) a b = absurd b
bundle_errors (bundle.System number kind) (NoBundle n k) (TooLong m) a b = absurd b
bundle_errors (bundle.System number kind) (NoBundle n k) (NotRead m) a b = absurd b
bundle_errors (bundle.System number kind) (NoBundle n k) NoCommand a b = absurd b

not_memory : (e : BundleError) (o : Outcome) → OfBundleError e o → IsFault e
not_memory (bundle.System number kind) o a = tt
not_memory (bundle.Evidence f) o a = tt
not_memory (bundle.Memory e) o a = absurd a

module _ (laws : Laws) where
  verdicts : (system : SystemParts) (e : Evidence) → Agree (IsVerdict system e) (IsVerdict system e)
  verdicts system e o p a b =
      let v = verdict_of system e o a in
      let w = verdict_of system e p b in
      let same : w.0 ≡ v.0 = laws.verdict_once system e w.0 v.0 w.1 v.1 in
      inr (tell_once e v.0 o p v.2 (subst (λ (u : Verdict). Tells e u p) same w.2))

  ran_once : (system : SystemParts) (e : Evidence) (r q : Ran) → All IsCube system.goals → IsRan system e r → IsRan system e q → r ≡ q
  ran_once system (Unsafe d run) (done text) (done other) cubes a b = ap done (laws.replay_once system d run text other cubes a.1 b.1)
  ran_once system (Unsafe d run) (done text) (bad f) cubes a b = absurd (laws.no_violation system d run f b a.0)
  ran_once system (Unsafe d run) (bad f) (done text) cubes a b = absurd (laws.no_violation system d run f a b.0)
  ran_once system (Unsafe d run) (bad f) (bad g) cubes a b = ap bad (laws.violation_fault_once system d run f g a b)
  ran_once system (Unsafe d run) none q cubes a b = absurd a
  ran_once system (Unsafe d run) (done text) none cubes a b = absurd b
  ran_once system (Unsafe d run) (bad f) none cubes a b = absurd b
  ran_once system (Safe formulas trees) r q cubes a b = a ∙ sym b
  ran_once system (Unknown entries spill) r q cubes a b = a ∙ sym b

  replays : (system : SystemParts) (e : Evidence) → All IsCube system.goals → Agree (IsReplay system e) (IsReplay system e)
  replays system e cubes o p a b =
      let r = ran_of system e o a in
      let q = ran_of system e p b in
      let same : q.0 ≡ r.0 = ran_once system e q.0 r.0 cubes q.1 r.1 in
      inr (tell_run_once r.0 o p r.2 (subst (λ (u : Ran). RunTells u p) same q.2))

  -- The texts of files.

  bundles : (bytes : List ℕ) → Agree (BundleComesTo bytes) (BundleComesTo bytes)
  bundles bytes =
      either_agree (λ (b : Bundle). IsBundle bytes b.system b.evidence b.line) (IsBundleFault bytes) (λ b. IsVerdict b.system b.evidence)
      (λ b. IsVerdict b.system b.evidence) OfBundleError
      (λ v w a b o p x y.
      let same = laws.bundle_once bytes v.system w.system v.evidence w.evidence v.line w.line a b in
      let at_system : IsVerdict w.system v.evidence o = subst (λ (s : SystemParts). IsVerdict s v.evidence o) same.0 x in
      verdicts w.system w.evidence o p (subst (λ (e : Evidence). IsVerdict w.system e o) same.1 at_system) y)
      (λ f g a b o p x y.
      let same : f ≡ g = laws.bundle_fault_once bytes f g (not_memory f o x) (not_memory g p y) a b in
      bundle_errors g o p (subst (λ (e : BundleError). OfBundleError e o) same x) y)
      (λ v f o a b x. laws.bundle_apart bytes v.system v.evidence v.line f a (not_memory f o x) b)

  evidences : (OfEvidence : Evidence → Outcome → Type 0) → ((e : Evidence) → Agree (OfEvidence e) (OfEvidence e)) → (bytes : List ℕ)
      → Agree (EvidenceComesTo OfEvidence bytes) (EvidenceComesTo OfEvidence bytes)
  evidences OfEvidence agree bytes =
      either_agree (IsEvidenceText bytes) (IsFirstFault bytes) OfEvidence OfEvidence OfEvidenceFault
      (λ v w a b o p x y. agree w o p (subst (λ (e : Evidence). OfEvidence e o) (laws.evidence_once bytes v w a b) x) y)
      (λ f g a b o p x y. evidence_faults g o p (subst (λ (e : EvidenceFault). OfEvidenceFault e o) (laws.evidence_fault_once bytes f g a b) x) y)
      (λ v f o a b x. laws.evidence_apart bytes v f a b)

  files : (OfSpec OfTold : Spec → Outcome → Type 0) (bytes : List ℕ)
      → ((v w : Spec) → Denotes bytes v.system v.names → Denotes bytes w.system w.names → Agree (OfSpec v) (OfTold w))
      → Agree (FileComesTo OfSpec bytes) (FileComesTo OfTold bytes)
  files OfSpec OfTold bytes agree =
      either_agree (λ (s : Spec). Denotes bytes s.system s.names) (IsFileFault bytes) OfSpec OfTold OfFileFault agree
      (λ f g a b o p x y. file_faults g o p (subst (λ (e : FileFault). OfFileFault e o) (laws.file_fault_once bytes f g a b) x) y)
      (λ v f o a b x. laws.file_apart bytes f b v.system v.names a)

  printed_once : (bytes : List ℕ) (v w : Spec) → Denotes bytes v.system v.names → Denotes bytes w.system w.names → Agree (IsPrint v) (IsPrint w)
  printed_once bytes v w a b (Done text) (Done other) x y =
      let same = laws.spec_once bytes v.system w.system v.names w.names a b in
      let of : FileDenotes x.file w.system w.names = subst (λ (n : Names). FileDenotes x.file w.system n) same.1 (subst (λ (s : SystemParts). FileDenotes x.file s v.names) same.0 x.of) in
      inr (refl, x.canonical ∙ laws.print_once x.file y.file w.system w.names of y.of ∙ sym y.canonical)
  printed_once bytes v w a b (NoSystem g) p x y = absurd x
  printed_once bytes v w a b (NoBundle number kind) p x y = absurd x
  printed_once bytes v w a b (NoEvidence number reason) p x y = absurd x
  printed_once bytes v w a b (Invalid g) p x y = absurd x
  printed_once bytes v w a b (TooLong n) p x y = absurd x
  printed_once bytes v w a b (NotRead n) p x y = absurd x
  printed_once bytes v w a b NoCommand p x y = absurd x
  printed_once bytes v w a b (Done text) (NoSystem g) x y = absurd y
  printed_once bytes v w a b (Done text) (NoBundle number kind) x y = absurd y
  printed_once bytes v w a b (Done text) (NoEvidence number reason) x y = absurd y
  printed_once bytes v w a b (Done text) (Invalid g) x y = absurd y
  printed_once bytes v w a b (Done text) (TooLong n) x y = absurd y
  printed_once bytes v w a b (Done text) (NotRead n) x y = absurd y
  printed_once bytes v w a b (Done text) NoCommand x y = absurd y

  -- of one system
  of_system : (R : SystemParts → Outcome → Type 0) (bytes : List ℕ) (v w : Spec) → Denotes bytes v.system v.names → Denotes bytes w.system w.names → (o : Outcome)
      → R v.system o → R w.system o
  of_system R bytes v w a b o x = subst (λ (s : SystemParts). R s o) (laws.spec_once bytes v.system w.system v.names w.names a b).0 x

  module _ (told : List ℕ → Told) (before after : List ℕ → ℕ) where
    -- an evidence behind a specification
    behind : (bytes evidence : List ℕ) (R : SystemParts → Evidence → Outcome → Type 0)
        → ((w : Spec) → Denotes bytes w.system w.names → (e : Evidence) → Agree (R w.system e) (R w.system e))
        → (v w : Spec) → Denotes bytes v.system v.names → Denotes bytes w.system w.names
        → Agree (Loads told before after evidence longest_evidence (EvidenceComesTo (R v.system))) (LoadsTold told evidence longest_evidence (EvidenceComesTo (R w.system)))
    behind bytes evidence R agree v w a b o p x y =
        loads_agree told before after evidence longest_evidence (EvidenceComesTo (R w.system)) (EvidenceComesTo (R w.system))
        (λ text. evidences (R w.system) (agree w b) text)
        o p
        (of_system (λ s. Loads told before after evidence longest_evidence (EvidenceComesTo (R s))) bytes v w a b o x)
        y

    requests : (r : Request) → Agree (RequestComesTo (Loads told before after) r) (RequestComesTo (LoadsTold told) r)
    requests (check_bundle name) = loads_agree told before after name longest_evidence BundleComesTo BundleComesTo bundles
    requests (print name) =
        loads_agree told before after name longest_file (FileComesTo IsPrint) (FileComesTo IsPrint) (λ bytes. files IsPrint IsPrint bytes (printed_once bytes))
    requests (check name evidence) =
        loads_agree told before after name longest_file
        (FileComesTo (λ spec. Loads told before after evidence longest_evidence (EvidenceComesTo (IsVerdict spec.system))))
        (FileComesTo (λ spec. LoadsTold told evidence longest_evidence (EvidenceComesTo (IsVerdict spec.system))))
        (λ bytes. files (λ spec. Loads told before after evidence longest_evidence (EvidenceComesTo (IsVerdict spec.system)))
        (λ spec. LoadsTold told evidence longest_evidence (EvidenceComesTo (IsVerdict spec.system))) bytes
        (behind bytes evidence IsVerdict (λ w b e. verdicts w.system e)))
    requests (replay name evidence) =
        loads_agree told before after name longest_file
        (FileComesTo (λ spec. Loads told before after evidence longest_evidence (EvidenceComesTo (IsReplay spec.system))))
        (FileComesTo (λ spec. LoadsTold told evidence longest_evidence (EvidenceComesTo (IsReplay spec.system))))
        (λ bytes. files (λ spec. Loads told before after evidence longest_evidence (EvidenceComesTo (IsReplay spec.system)))
        (λ spec. LoadsTold told evidence longest_evidence (EvidenceComesTo (IsReplay spec.system))) bytes
        (behind bytes evidence IsReplay (λ w b e. replays w.system e b.denote.denotes.is_system.cubes)))

    pub answers_agree : (words : List (List ℕ)) → Agree (Comes words told before after) (ToldToComeTo words told)
    answers_agree words (Done text) p a b = requests b.0 (Done text) p (subst (λ (r : Request). RequestComesTo (Loads told before after) r (Done text)) (one_asked words a.0 b.0 a.1 b.1) a.2) b.2
    answers_agree words (NoSystem g) p a b = requests b.0 (NoSystem g) p (subst (λ (r : Request). RequestComesTo (Loads told before after) r (NoSystem g)) (one_asked words a.0 b.0 a.1 b.1) a.2) b.2
    answers_agree words (NoBundle number kind) p a b = requests b.0 (NoBundle number kind) p (subst (λ (r : Request). RequestComesTo (Loads told before after) r (NoBundle number kind)) (one_asked words a.0 b.0 a.1 b.1) a.2) b.2
    answers_agree words (NoEvidence number reason) p a b = requests b.0 (NoEvidence number reason) p (subst (λ (r : Request). RequestComesTo (Loads told before after) r (NoEvidence number reason)) (one_asked words a.0 b.0 a.1 b.1) a.2) b.2
    answers_agree words (Invalid g) p a b = requests b.0 (Invalid g) p (subst (λ (r : Request). RequestComesTo (Loads told before after) r (Invalid g)) (one_asked words a.0 b.0 a.1 b.1) a.2) b.2
    answers_agree words (TooLong n) p a b = requests b.0 (TooLong n) p (subst (λ (r : Request). RequestComesTo (Loads told before after) r (TooLong n)) (one_asked words a.0 b.0 a.1 b.1) a.2) b.2
    answers_agree words (NotRead n) p a b = requests b.0 (NotRead n) p (subst (λ (r : Request). RequestComesTo (Loads told before after) r (NotRead n)) (one_asked words a.0 b.0 a.1 b.1) a.2) b.2
    answers_agree words NoCommand p a b = absurd (a b.0 b.1)
