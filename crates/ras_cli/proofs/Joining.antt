-- What is loaded one after the other comes to one outcome.
use Rattle.std.proofs.Common.{◌≡◌, ℕ, inl, inr, List, sym, subst, ◌∙◌, arith}
use Rattle.std.specs.Prelude.{Result, Ok, Err, IfErr, IsErrAnd}
use Rattle.ras_outside.specs.Count.{Rose}
use Rattle.ras_outside.specs.Told.{Told, holds, IsTold, HoldsMoreThan}
use Rattle.ras_system.specs.Systems.{SystemParts}
use Rattle.ras_elab.specs.declared.elaborating.Spec.{Spec}
use Rattle.ras_evidence.specs.declared.value.Evidence.{Evidence}
use Rattle.ras_evidence.specs.declared.fault.EvidenceFault.{EvidenceFault}
use Rattle.ras_evidence.specs.EvidenceFaults.{IsFirstFault}
use Rattle.ras_cli.specs.declared.loading.Halt.{Halt}
use Rattle.ras_cli.specs.declared.loading.Halt.TheVariants.{Ended, Memory}
use Rattle.ras_cli.specs.declared.outcome.Outcome.{Outcome}
use Rattle.ras_cli.specs.declared.outcome.Outcome.TheVariants.{Done, NoSystem, NoBundle, NoEvidence, Invalid, TooLong, NotRead, NoCommand}
use Rattle.ras_cli.specs.Outcomes.{OfEvidenceFault, FileComesTo, EvidenceComesTo}
use Rattle.ras_cli.specs.Loads.{longest_file, longest_evidence, IsLoaded, IsNotLoaded, Loads, OnEnded, Ends, IsSpecOf, IsEvidenceOf, HasNoSpec, HasNoEvidence, ArePairOf, HasNoPair, HaltsUnread, Leaves}

-- a shelf that tells the same of the file, and has the same count of its faults, may stand in place of another one
module _ (told other : List ℕ → Told) (before mid after : List ℕ → ℕ) (name : List ℕ) (most : ℕ) (held : other name ≡ told name) (stood : mid name ≡ before name) where
  loaded_there : (bytes : List ℕ) → IsLoaded other name most bytes → IsLoaded told name most bytes
  loaded_there bytes l = record { within = l.within; as_told = subst (λ (t : Told). IsTold t → t ≡ holds bytes) held l.as_told }

  not_loaded_there : (o : Outcome) → IsNotLoaded other mid after name most o → IsNotLoaded told before after name most o
  not_loaded_there (TooLong n) h = (h.0, subst (λ (t : Told). IsTold t → HoldsMoreThan t most) held h.1)
  not_loaded_there (NotRead n) h = (h.0, subst (λ (k : ℕ). Rose k (after name)) stood h.1)
  not_loaded_there (Done text) h = h
  not_loaded_there (NoSystem f) h = h
  not_loaded_there (NoBundle number kind) h = h
  not_loaded_there (NoEvidence number reason) h = h
  not_loaded_there (Invalid f) h = h
  not_loaded_there NoCommand h = h

  pub loads_there : (ComesTo : List ℕ → Outcome → Type 0) (o : Outcome) → Loads other mid after name most ComesTo o → Loads told before after name most ComesTo o
  loads_there ComesTo o (inl a) = inl (not_loaded_there o a)
  loads_there ComesTo o (inr b) = inr (b.0, loaded_there b.0 b.1, b.2)

-- a halt that is handed on
pub handed_on : {X : Type 0} (P : Halt → Type 0) (r : Result X Halt) (h : Halt) → IsErrAnd r (λ k. k ≡ h) → P h → IfErr r P
handed_on P (Ok x) h is p = absurd is
handed_on P (Err k) h is p = subst P (sym is) p

-- what two loads leave, where the second one goes no further
pub left_behind : {X Y Z : Type 0} (told mid now : List ℕ → Told) (before between after : List ℕ → ℕ) (x : X) (h : Halt) (r : Result Z Halt)
    → Leaves {A = X} told mid before between (Ok x) → Leaves {A = Y} mid now between after (Err h) → IsErrAnd r (λ k. k ≡ h) → Leaves {A = Z} told now before after r
left_behind told mid now before between after x h (Ok z) first second is = absurd is
left_behind told mid now before between after x h (Err k) first second is = record {
  held = λ name. second.held name ∙ first.held name;
  grows = λ name. omega (arith, first.grows name, second.grows name);
  stands = λ read name. second.stands (subst (λ (i : Halt). HaltsUnread i → ⊥) is read) name ∙ first.stands (λ u. u) name;
}

-- an outcome that is known behind a specification that was read
pub no_pair : (told other : List ℕ → Told) (before mid after : List ℕ → ℕ) (file evidence : List ℕ) (h : Halt) (s : Spec) → IsSpecOf told file s
    → other evidence ≡ told evidence → mid evidence ≡ before evidence → OnEnded h (HasNoEvidence other mid after evidence) → OnEnded h (HasNoPair told before after file evidence)
no_pair told other before mid after file evidence (Ended o) s read held stood none =
    inr (s, read, loads_there told other before mid after evidence longest_evidence held stood (λ bytes p. (f : EvidenceFault) × IsFirstFault bytes f × OfEvidenceFault f p) o none)
no_pair told other before mid after file evidence (Memory e) s read held stood none = tt

-- An outcome of each kind of load.

module _ (told : List ℕ → Told) (before after : List ℕ → ℕ) where
  pub of_spec : (OfSpec : Spec → Outcome → Type 0) (file : List ℕ) (s : Spec) (o : Outcome) → IsSpecOf told file s → OfSpec s o
      → Loads told before after file longest_file (FileComesTo OfSpec) o
  of_spec OfSpec file s o read h = inr (read.0, read.1, inl (s, read.2, h))

  pub without_spec : (OfSpec : Spec → Outcome → Type 0) (file : List ℕ) (o : Outcome) → HasNoSpec told before after file o
      → Loads told before after file longest_file (FileComesTo OfSpec) o
  without_spec OfSpec file o (inl a) = inl a
  without_spec OfSpec file o (inr b) = inr (b.0, b.1, inr b.2)

  of_evidence : (OfEvidence : Evidence → Outcome → Type 0) (name : List ℕ) (e : Evidence) (o : Outcome) → IsEvidenceOf told name e → OfEvidence e o
      → Loads told before after name longest_evidence (EvidenceComesTo OfEvidence) o
  of_evidence OfEvidence name e o read h = inr (read.0, read.1, inl (e, read.2, h))

  without_evidence : (OfEvidence : Evidence → Outcome → Type 0) (name : List ℕ) (o : Outcome) → HasNoEvidence told before after name o
      → Loads told before after name longest_evidence (EvidenceComesTo OfEvidence) o
  without_evidence OfEvidence name o (inl a) = inl a
  without_evidence OfEvidence name o (inr b) = inr (b.0, b.1, inr b.2)

  -- what is made of a system and an evidence
  module _ (R : SystemParts → Evidence → Outcome → Type 0) (file evidence : List ℕ) (o : Outcome) where
    abbrev pub Pair : Type 0
    Pair = Loads told before after file longest_file (FileComesTo (λ spec. Loads told before after evidence longest_evidence (EvidenceComesTo (R spec.system)))) o

    pub of_pair : (s : Spec) (e : Evidence) → ArePairOf told file evidence s e → R s.system e o → Pair
    of_pair s e read h =
        of_spec (λ spec. Loads told before after evidence longest_evidence (EvidenceComesTo (R spec.system))) file s o read.0
        (of_evidence (R s.system) evidence e o read.1 h)

    pub without_pair : HasNoPair told before after file evidence o → Pair
    without_pair (inl a) = without_spec (λ spec. Loads told before after evidence longest_evidence (EvidenceComesTo (R spec.system))) file o a
    without_pair (inr b) =
        of_spec (λ spec. Loads told before after evidence longest_evidence (EvidenceComesTo (R spec.system))) file b.0 o b.1
        (without_evidence (R b.0.system) evidence o b.2)

  -- where the call goes no further behind a pair of loads
  pub handed_pair : (R : SystemParts → Evidence → Outcome → Type 0) (file evidence : List ℕ) (r : Result Outcome Halt) (h : Halt) → IsErrAnd r (λ k. k ≡ h)
      → OnEnded h (HasNoPair told before after file evidence) → Ends r (λ o. Pair R file evidence o)
  handed_pair R file evidence (Ok o) h is none = absurd is
  handed_pair R file evidence (Err (Ended o)) h is none =
      without_pair R file evidence o (subst (λ (k : Halt). OnEnded k (HasNoPair told before after file evidence)) (sym is) none)
  handed_pair R file evidence (Err (Memory e)) h is none = tt
