-- What the statuses mean.
use Rattle.std.proofs.Common.{◌≡◌, ◌≢◌, ℕ, ◌⊎◌, inl, inr, List, [], ◌∷◌, refl, ◌∙◌, ap, subst, arith}
use Rattle.std.specs.Prelude.{Contains, Option}
use Rattle.ras_outside.specs.Count.{Rose}
use Rattle.ras_outside.specs.Told.{Told}
use Rattle.ras_system.specs.Systems.{SystemParts}
use Rattle.ras_names.specs.Texts.{Denotes}
use Rattle.ras_elab.specs.declared.elaborating.Spec.{Spec}
use Rattle.ras_file.specs.FileFaults.{IsFileFault}
use Rattle.ras_evidence.specs.declared.value.Evidence.{Evidence}
use Rattle.ras_evidence.specs.declared.value.Evidence.TheVariants.{Safe, Unsafe, Unknown}
use Rattle.ras_evidence.specs.EvidenceTexts.{IsEvidenceText}
use Rattle.ras_evidence.specs.EvidenceFaults.{IsFirstFault}
use Rattle.ras_bundles.specs.declared.bundle.Bundle.{Bundle}
use Rattle.ras_bundles.specs.declared.fault.BundleError.{BundleError}
use Rattle.ras_bundles.specs.declared.fault.BundleError.TheVariants as bundle
use Rattle.ras_bundles.specs.Bundles.{IsBundle}
use Rattle.ras_bundles.specs.BundleFaults.{IsBundleFault}
use Rattle.ras_cli.specs.declared.outcome.Outcome.{Outcome}
use Rattle.ras_cli.specs.declared.outcome.Outcome.TheVariants.{Done, NoSystem, NoBundle, NoEvidence, Invalid, TooLong, NotRead, NoCommand}
use Rattle.ras_cli.specs.Words.{Request, check_bundle, print, check, replay, files_of, Asks, IsNoCommand}
use Rattle.std.specs.Io.KnownBytes.{append_known}
use Rattle.ras_cli.specs.Answers.{status_of, text_of}
use Rattle.ras_cli.specs.Outcomes.{IsVerdict, IsReplay, IsPrint, OfFileFault, OfEvidenceFault, OfBundleError, EitherOf, BundleComesTo, FileComesTo, EvidenceComesTo}
use Rattle.ras_cli.specs.Loads.{longest_file, longest_evidence, RequestComesTo, IsLoaded, Loads, Comes, CountsStand, IsUnread, StandOrRose, IsCutOff}
use Rattle.ras_cli.specs.Done.{IsViolationText, IsDone}
use Rattle.ras_cli.proofs.Naming.{one_asked}
use Rattle.ras_cli.proofs.Agreeing.{IsOneAnswer, loaded_is}

-- a fault has no text of what was done
value_of : {V F : Type 0} (IsValue : V → Type 0) (IsBad : F → Type 0) (OfValue : V → Outcome → Type 0) (OfBad : F → Outcome → Type 0) (o : Outcome)
    → ((f : F) → OfBad f o → ⊥) → EitherOf IsValue IsBad OfValue OfBad o → (v : V) × IsValue v × OfValue v o
value_of IsValue IsBad OfValue OfBad o never (inl v) = v
value_of IsValue IsBad OfValue OfBad o never (inr f) = absurd (never f.0 f.2)

no_bundle : (text : _) (e : BundleError) → OfBundleError e (Done text) → ⊥
no_bundle text (bundle.System number kind) h = h
no_bundle text (bundle.Evidence f) h = h
no_bundle text (bundle.Memory e) h = h

module _ (told : List ℕ → Told) (before after : List ℕ → ℕ) (text : _) where
  bytes_of : (name : List ℕ) (most : ℕ) (ComesTo : List ℕ → Outcome → Type 0) → Loads told before after name most ComesTo (Done text)
      → (bytes : List ℕ) × IsLoaded told name most bytes × ComesTo bytes (Done text)
  bytes_of name most ComesTo (inl a) = absurd a
  bytes_of name most ComesTo (inr b) = b

  spec_of : (OfSpec : Spec → Outcome → Type 0) (bytes : List ℕ) → FileComesTo OfSpec bytes (Done text) → (s : Spec) × Denotes bytes s.system s.names × OfSpec s (Done text)
  spec_of OfSpec bytes h = value_of (λ (s : Spec). Denotes bytes s.system s.names) (IsFileFault bytes) OfSpec OfFileFault (Done text) (λ f x. x) h

  evidence_of : (OfEvidence : Evidence → Outcome → Type 0) (bytes : List ℕ) → EvidenceComesTo OfEvidence bytes (Done text)
      → (e : Evidence) × IsEvidenceText bytes e × OfEvidence e (Done text)
  evidence_of OfEvidence bytes h = value_of (IsEvidenceText bytes) (IsFirstFault bytes) OfEvidence OfEvidenceFault (Done text) (λ f x. x) h

  bundle_of : (bytes : List ℕ) → BundleComesTo bytes (Done text) → (b : Bundle) × IsBundle bytes b.system b.evidence b.line × IsVerdict b.system b.evidence (Done text)
  bundle_of bytes h =
      value_of (λ (b : Bundle). IsBundle bytes b.system b.evidence b.line) (IsBundleFault bytes) (λ b. IsVerdict b.system b.evidence) OfBundleError (Done text) (no_bundle text) h

  violation_of : (bytes content : List ℕ) (s : Spec) (e : Evidence) → Denotes bytes s.system s.names → IsEvidenceText content e → IsReplay s.system e (Done text)
      → IsViolationText bytes content
  violation_of bytes content s (Unsafe d run) denotes read h = (s.system, s.names, d, run, denotes, read, h.0)
  violation_of bytes content s (Safe formulas trees) denotes read h = absurd h
  violation_of bytes content s (Unknown entries spill) denotes read h = absurd h

  done : (r : Request) → RequestComesTo (Loads told before after) r (Done text) → IsDone told r
  done (check_bundle name) h = λ content is.
      let l = bytes_of name longest_evidence BundleComesTo h in
      let same : l.0 ≡ content = loaded_is told before after name longest_evidence l.0 content l.1 is in
      let b = bundle_of content (subst (λ (bytes : List ℕ). BundleComesTo bytes (Done text)) same l.2) in
      (b.0.system, b.0.evidence, b.0.line, b.1, record { good = b.2.0.0; so = b.2.0.1 })
  done (print name) h = λ content is.
      let l = bytes_of name longest_file (FileComesTo IsPrint) h in
      let same : l.0 ≡ content = loaded_is told before after name longest_file l.0 content l.1 is in
      let s = spec_of IsPrint content (subst (λ (bytes : List ℕ). FileComesTo IsPrint bytes (Done text)) same l.2) in
      (s.0.system, s.0.names, s.1)
  done (check name evidence) h = λ content words is so.
      let OfSpec : Spec → Outcome → Type 0 = λ spec. Loads told before after evidence longest_evidence (EvidenceComesTo (IsVerdict spec.system)) in
      let l = bytes_of name longest_file (FileComesTo OfSpec) h in
      let same : l.0 ≡ content = loaded_is told before after name longest_file l.0 content l.1 is in
      let s = spec_of OfSpec content (subst (λ (bytes : List ℕ). FileComesTo OfSpec bytes (Done text)) same l.2) in
      let OfText : Evidence → Outcome → Type 0 = IsVerdict s.0.system in
      let k = bytes_of evidence longest_evidence (EvidenceComesTo OfText) s.2 in
      let alike : k.0 ≡ words = loaded_is told before after evidence longest_evidence k.0 words k.1 so in
      let e = evidence_of OfText words (subst (λ (bytes : List ℕ). EvidenceComesTo OfText bytes (Done text)) alike k.2) in
      (s.0.system, s.0.names, e.0, s.1, e.1, record { good = e.2.0.0; so = e.2.0.1 })
  done (replay name evidence) h = λ content words is so.
      let OfSpec : Spec → Outcome → Type 0 = λ spec. Loads told before after evidence longest_evidence (EvidenceComesTo (IsReplay spec.system)) in
      let l = bytes_of name longest_file (FileComesTo OfSpec) h in
      let same : l.0 ≡ content = loaded_is told before after name longest_file l.0 content l.1 is in
      let s = spec_of OfSpec content (subst (λ (bytes : List ℕ). FileComesTo OfSpec bytes (Done text)) same l.2) in
      let k = bytes_of evidence longest_evidence (EvidenceComesTo (IsReplay s.0.system)) s.2 in
      let alike : k.0 ≡ words = loaded_is told before after evidence longest_evidence k.0 words k.1 so in
      let e = evidence_of (IsReplay s.0.system) words (subst (λ (bytes : List ℕ). EvidenceComesTo (IsReplay s.0.system) bytes (Done text)) alike k.2) in
      violation_of content words s.0 e.0 s.1 e.1 e.2

-- Of the words and an outcome.

module _ (words : List (List ℕ)) (told : List ℕ → Told) (before after : List ℕ → ℕ) where
  pub what_is_done : (o : Outcome) → Comes words told before after o → status_of o ≡ 0 → (r : Request) → Asks words r → IsDone told r
  what_is_done (Done text) c is r asks =
      done told before after text r (subst (λ (q : Request). RequestComesTo (Loads told before after) q (Done text)) (one_asked words c.0 r c.1 asks) c.2)
  what_is_done (NoSystem f) c is r asks = absurd (omega (arith, is))
  what_is_done (NoBundle number kind) c is r asks = absurd (omega (arith, is))
  what_is_done (NoEvidence number reason) c is r asks = absurd (omega (arith, is))
  what_is_done (Invalid f) c is r asks = absurd (omega (arith, is))
  what_is_done (TooLong name) c is r asks = absurd (omega (arith, is))
  what_is_done (NotRead name) c is r asks = absurd (omega (arith, is))
  what_is_done NoCommand c is r asks = absurd (omega (arith, is))

  pub every_no_command : (status : ℕ) (o : Outcome) → Comes words told before after o → status ≡ status_of o → IsNoCommand words → (status ≡ 40) ⊎ IsCutOff status
  every_no_command status (Done text) c is none = absurd (none c.0 c.1)
  every_no_command status (NoSystem f) c is none = absurd (none c.0 c.1)
  every_no_command status (NoBundle number kind) c is none = absurd (none c.0 c.1)
  every_no_command status (NoEvidence number reason) c is none = absurd (none c.0 c.1)
  every_no_command status (Invalid f) c is none = absurd (none c.0 c.1)
  every_no_command status (TooLong name) c is none = absurd (none c.0 c.1)
  every_no_command status (NotRead name) c is none = absurd (none c.0 c.1)
  every_no_command status NoCommand c is none = inl is

  -- the count of a file of the request rose
  abbrev pub RoseOf : Request → Type 0
  RoseOf r = (name : List ℕ) × Contains (files_of r) name × Rose (before name) (after name)

  no_verdict : (n : _) (e : BundleError) → OfBundleError e (NotRead n) → ⊥
  no_verdict n (bundle.System number kind) h = h
  no_verdict n (bundle.Evidence f) h = h
  no_verdict n (bundle.Memory e) h = h

  no_replay : (n : _) (system : SystemParts) (e : Evidence) → IsReplay system e (NotRead n) → ⊥
  no_replay n system (Safe formulas trees) h = h
  no_replay n system (Unsafe d run) h = h
  no_replay n system (Unknown entries spill) h = h

  -- no text comes to this
  not_evidence : (n : _) (OfEvidence : Evidence → Outcome → Type 0) (bytes : List ℕ) → ((e : Evidence) → OfEvidence e (NotRead n) → ⊥)
      → EvidenceComesTo OfEvidence bytes (NotRead n) → ⊥
  not_evidence n OfEvidence bytes never (inl e) = never e.0 e.2
  not_evidence n OfEvidence bytes never (inr f) = f.2

  not_bundle : (n : _) (bytes : List ℕ) → BundleComesTo bytes (NotRead n) → ⊥
  not_bundle n bytes (inl b) = b.2
  not_bundle n bytes (inr f) = no_verdict n f.0 f.2

  file_of : (n : _) (OfSpec : Spec → Outcome → Type 0) (bytes : List ℕ) → FileComesTo OfSpec bytes (NotRead n) → (s : Spec) × OfSpec s (NotRead n)
  file_of n OfSpec bytes (inl s) = (s.0, s.2)
  file_of n OfSpec bytes (inr f) = absurd f.2

  first_rose : (name other : List ℕ) (names : List (List ℕ)) → (other ≡ name) × Rose (before name) (after name)
      → (file : List ℕ) × Contains (name ∷ names) file × Rose (before file) (after file)
  first_rose name other names h = (name, (0, omega arith, refl), h.1)

  behind_rose : (n : _) (file name : List ℕ) (OfEvidence : Evidence → Outcome → Type 0) → ((e : Evidence) → OfEvidence e (NotRead n) → ⊥)
      → Loads told before after name longest_evidence (EvidenceComesTo OfEvidence) (NotRead n)
      → (other : List ℕ) × Contains (file ∷ name ∷ []) other × Rose (before other) (after other)
  behind_rose n file name OfEvidence never (inl a) = (name, (1, omega arith, refl), a.1)
  behind_rose n file name OfEvidence never (inr b) = absurd (not_evidence n OfEvidence b.0 never b.2)

  rose_of : (n : _) (r : Request) → RequestComesTo (Loads told before after) r (NotRead n) → RoseOf r
  rose_of n (check_bundle name) (inl a) = first_rose name n.now [] a
  rose_of n (check_bundle name) (inr b) = absurd (not_bundle n b.0 b.2)
  rose_of n (print name) (inl a) = first_rose name n.now [] a
  rose_of n (print name) (inr b) = absurd (file_of n IsPrint b.0 b.2).1
  rose_of n (check name evidence) (inl a) = first_rose name n.now (evidence ∷ []) a
  rose_of n (check name evidence) (inr b) =
      let s = file_of n (λ spec. Loads told before after evidence longest_evidence (EvidenceComesTo (IsVerdict spec.system))) b.0 b.2 in
      behind_rose n name evidence (IsVerdict s.0.system) (λ e x. x) s.1
  rose_of n (replay name evidence) (inl a) = first_rose name n.now (evidence ∷ []) a
  rose_of n (replay name evidence) (inr b) =
      let s = file_of n (λ spec. Loads told before after evidence longest_evidence (EvidenceComesTo (IsReplay spec.system))) b.0 b.2 in
      behind_rose n name evidence (IsReplay s.0.system) (no_replay n s.0.system) s.1

  pub stand_or_rose : (o : Outcome) → Comes words told before after o → (¬ IsUnread o → CountsStand before after) → StandOrRose words before after
  stand_or_rose (NotRead n) c s = let r = rose_of n c.0 c.2 in inr (c.0, r.0, c.1, r.1, r.2)
  stand_or_rose (Done text) c s = inl (s (λ x. x))
  stand_or_rose (NoSystem f) c s = inl (s (λ x. x))
  stand_or_rose (NoBundle number kind) c s = inl (s (λ x. x))
  stand_or_rose (NoEvidence number reason) c s = inl (s (λ x. x))
  stand_or_rose (Invalid f) c s = inl (s (λ x. x))
  stand_or_rose (TooLong name) c s = inl (s (λ x. x))
  stand_or_rose NoCommand c s = inl (s (λ x. x))

pub stand_unless_50 : (before after : List ℕ → ℕ) (o : Outcome) → (¬ IsUnread o → CountsStand before after) → status_of o ≢ 50 → CountsStand before after
stand_unless_50 before after (NotRead n) s other = absurd (other refl)
stand_unless_50 before after (Done text) s other = s (λ x. x)
stand_unless_50 before after (NoSystem f) s other = s (λ x. x)
stand_unless_50 before after (NoBundle number kind) s other = s (λ x. x)
stand_unless_50 before after (NoEvidence number reason) s other = s (λ x. x)
stand_unless_50 before after (Invalid f) s other = s (λ x. x)
stand_unless_50 before after (TooLong name) s other = s (λ x. x)
stand_unless_50 before after NoCommand s other = s (λ x. x)

-- what the told files come to is answered
pub every_told : (o p : Outcome) (status : ℕ) (was now : Option (List ℕ)) → ((status_of o ≡ 50) ⊎ IsOneAnswer o p) → status ≡ status_of o → now ≡ append_known was (text_of o)
    → ((status ≡ status_of p) × (now ≡ append_known was (text_of p))) ⊎ ((status ≡ 50) ⊎ IsCutOff status)
every_told o p status was now (inl failed) is written = inr (inl (is ∙ failed))
every_told o p status was now (inr same) is written = inl (is ∙ same.0, written ∙ ap (append_known was) same.1)
