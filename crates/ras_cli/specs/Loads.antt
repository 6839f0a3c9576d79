-- What comes of words: the files that they name are loaded in order, and what stands in them decides the outcome.
use Rattle.std.specs.Prelude.{◌≡◌, ℕ, ◌-◌, ◌^◌, ◌≤◌, ◌⊎◌, List, length, Contains, Result, Ok, Err, IsErrAnd}
use Rattle.ras_outside.specs.Count.{Rose}
use Rattle.ras_outside.specs.Told.{Told, holds, IsTold, HoldsMoreThan}
use Rattle.ras_names.specs.Texts.{Denotes}
use Rattle.ras_elab.specs.declared.elaborating.Spec.{Spec}
use Rattle.ras_file.specs.declared.fault.FileFault.{FileFault}
use Rattle.ras_file.specs.FileFaults.{IsFileFault}
use Rattle.ras_evidence.specs.declared.value.Evidence.{Evidence}
use Rattle.ras_evidence.specs.declared.fault.EvidenceFault.{EvidenceFault}
use Rattle.ras_evidence.specs.EvidenceTexts.{IsEvidenceText}
use Rattle.ras_evidence.specs.EvidenceFaults.{IsFirstFault}
use Rattle.ras_cli.specs.declared.loading.Halt.{Halt}
use Rattle.ras_cli.specs.declared.loading.Halt.TheVariants.{Ended, Memory}
use Rattle.ras_cli.specs.declared.outcome.Outcome.{Outcome}
use Rattle.ras_cli.specs.declared.outcome.Outcome.TheVariants.{TooLong, NotRead, NoCommand}
use Rattle.ras_cli.specs.Words.{Request, check_bundle, print, check, replay, files_of, Asks, IsNoCommand}
use Rattle.ras_cli.specs.Outcomes.{IsPrint, IsVerdict, IsReplay, OfFileFault, OfEvidenceFault, BundleComesTo, FileComesTo, EvidenceComesTo}

-- the length of the longest specification that is loaded, and of the longest evidence or bundle, which is that of the longest `Vec<u8>`
abbrev pub longest_file : ℕ
longest_file = 1048576

abbrev pub longest_evidence : ℕ
longest_evidence = 2 ^ 63 - 1

-- what comes of the load of a file of at most this length, whose bytes come to an outcome
abbrev pub Load : Type 1
Load = List ℕ → ℕ → (List ℕ → Outcome → Type 0) → Outcome → Type 0

-- what comes of a request, whose files are loaded so: an evidence only behind a specification that denotes a system
abbrev pub RequestComesTo : Load → Request → Outcome → Type 0
RequestComesTo load (check_bundle bundle) = load bundle longest_evidence BundleComesTo
RequestComesTo load (print file) = load file longest_file (FileComesTo IsPrint)
RequestComesTo load (check file evidence) =
    load file longest_file (FileComesTo (λ spec. load evidence longest_evidence (EvidenceComesTo (IsVerdict spec.system))))
RequestComesTo load (replay file evidence) =
    load file longest_file (FileComesTo (λ spec. load evidence longest_evidence (EvidenceComesTo (IsReplay spec.system))))

-- The loads of a call. What a shelf does not tell of may be any bytes.

-- the bytes that were loaded: where the shelf tells of the file, they are what it holds
pub record IsLoaded (told : List ℕ → Told) (name : List ℕ) (most : ℕ) (bytes : List ℕ) : Type 0 where
  pub within : length bytes ≤ most
  pub as_told : IsTold (told name) → told name ≡ holds bytes

-- why a file was not loaded: it is too long, or the shelf failed, whose counts of faults are these before and after
abbrev pub IsNotLoaded : (List ℕ → Told) → (List ℕ → ℕ) → (List ℕ → ℕ) → List ℕ → ℕ → Outcome → Type 0
IsNotLoaded told before after name most (TooLong n) = (n.now ≡ name) × (IsTold (told name) → HoldsMoreThan (told name) most)
IsNotLoaded told before after name most (NotRead n) = (n.now ≡ name) × Rose (before name) (after name)
IsNotLoaded told before after name most other = ⊥

abbrev pub Loads : (List ℕ → Told) → (List ℕ → ℕ) → (List ℕ → ℕ) → Load
Loads told before after name most ComesTo outcome =
    IsNotLoaded told before after name most outcome ⊎ ((bytes : List ℕ) × IsLoaded told name most bytes × ComesTo bytes outcome)

-- when an outcome may come: by the words, what the shelf tells, and its counts of faults before and after
abbrev pub Comes : List (List ℕ) → (List ℕ → Told) → (List ℕ → ℕ) → (List ℕ → ℕ) → Outcome → Type 0
Comes words told before after NoCommand = IsNoCommand words
Comes words told before after outcome = (request : Request) × Asks words request × RequestComesTo (Loads told before after) request outcome

-- What the shelf tells decides.

abbrev pub IsTooLong : (List ℕ → Told) → List ℕ → ℕ → Outcome → Type 0
IsTooLong told name most (TooLong n) = (n.now ≡ name) × HoldsMoreThan (told name) most
IsTooLong told name most other = ⊥

abbrev pub LoadsTold : (List ℕ → Told) → Load
LoadsTold told name most ComesTo outcome =
    IsTooLong told name most outcome ⊎ ((bytes : List ℕ) × (told name ≡ holds bytes) × (length bytes ≤ most) × ComesTo bytes outcome)

-- the words ask for files, of which the shelf tells that they come to this
abbrev pub ToldToComeTo : List (List ℕ) → (List ℕ → Told) → Outcome → Type 0
ToldToComeTo words told outcome = (request : Request) × Asks words request × RequestComesTo (LoadsTold told) request outcome

-- the statuses of a call that was cut off: by a fault of the sink, or by want of memory
abbrev pub IsCutOff : ℕ → Type 0
IsCutOff status = (status ≡ 51) ⊎ (status ≡ 60)

-- What the parts of a call answer.

-- where the call goes no further since its outcome is known, that is so
abbrev pub OnEnded : Halt → (Outcome → Type 0) → Type 0
OnEnded (Ended outcome) P = P outcome
OnEnded (Memory e) P = Unit {0}

-- the outcome is so, whether it was known early or not
abbrev pub Ends : Result Outcome Halt → (Outcome → Type 0) → Type 0
Ends (Ok outcome) P = P outcome
Ends (Err h) P = OnEnded h P

abbrev pub IsSpecOf : (List ℕ → Told) → List ℕ → Spec → Type 0
IsSpecOf told name s = (bytes : List ℕ) × IsLoaded told name longest_file bytes × Denotes bytes s.system s.names

abbrev pub IsEvidenceOf : (List ℕ → Told) → List ℕ → Evidence → Type 0
IsEvidenceOf told name e = (bytes : List ℕ) × IsLoaded told name longest_evidence bytes × IsEvidenceText bytes e

-- the outcome where there is no system or no evidence
abbrev pub HasNoSpec : (List ℕ → Told) → (List ℕ → ℕ) → (List ℕ → ℕ) → List ℕ → Outcome → Type 0
HasNoSpec told before after name = Loads told before after name longest_file (λ bytes o. (f : FileFault) × IsFileFault bytes f × OfFileFault f o)

abbrev pub HasNoEvidence : (List ℕ → Told) → (List ℕ → ℕ) → (List ℕ → ℕ) → List ℕ → Outcome → Type 0
HasNoEvidence told before after name = Loads told before after name longest_evidence (λ bytes o. (f : EvidenceFault) × IsFirstFault bytes f × OfEvidenceFault f o)

-- a specification and an evidence were read, in order
abbrev pub ArePairOf : (List ℕ → Told) → List ℕ → List ℕ → Spec → Evidence → Type 0
ArePairOf told file evidence s e = IsSpecOf told file s × IsEvidenceOf told evidence e

-- the outcome where the specification has no system, or there is no evidence behind it
abbrev pub HasNoPair : (List ℕ → Told) → (List ℕ → ℕ) → (List ℕ → ℕ) → List ℕ → List ℕ → Outcome → Type 0
HasNoPair told before after file evidence o =
    HasNoSpec told before after file o ⊎ ((s : Spec) × IsSpecOf told file s × HasNoEvidence told before after evidence o)

-- all counts stand as they were
abbrev pub CountsStand : (List ℕ → ℕ) → (List ℕ → ℕ) → Type 0
CountsStand before after = (name : List ℕ) → after name ≡ before name

-- a file could not be read
abbrev pub IsUnread : Outcome → Type 0
IsUnread (NotRead name) = Unit {0}
IsUnread other = ⊥

-- the call goes no further since a file could not be read
abbrev pub HaltsUnread : Halt → Type 0
HaltsUnread (Ended outcome) = IsUnread outcome
HaltsUnread (Memory e) = ⊥

-- What a call that loads files leaves: the shelf holds what it held, no count has fallen, and all stand unless a file could not
-- be read.
pub record Leaves {A : Type 0} (told now : List ℕ → Told) (before after : List ℕ → ℕ) (result : Result A Halt) : Type 0 where
  pub held : (name : List ℕ) → now name ≡ told name
  pub grows : (name : List ℕ) → before name ≤ after name
  pub stands : ¬ IsErrAnd result HaltsUnread → CountsStand before after

-- all counts stand, or that of a file of the words rose
abbrev pub StandOrRose : List (List ℕ) → (List ℕ → ℕ) → (List ℕ → ℕ) → Type 0
StandOrRose words before after =
    CountsStand before after ⊎ ((request : Request) × (name : List ℕ) × Asks words request × Contains (files_of request) name × Rose (before name) (after name))
