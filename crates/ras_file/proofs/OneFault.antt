-- A text has one placed file, and one first fault of each turn.
use Rattle.std.proofs.Common.{◌≡◌, inl, inr, ℕ, zero, suc, ◌<◌, List, [], ◌∷◌, length, refl, sym, ◌∙◌, ap, subst, arith}
use Rattle.std.specs.Prelude.{Some, slice_get}
use Rattle.ras_lexer.specs.declared.token.Token.{Token}
use Rattle.ras_lexer.specs.declared.token.Word.{Word}
use Rattle.ras_lexer.specs.declared.fault.LexFault.{LexFault}
use Rattle.ras_lexer.specs.Pieces as lexer
use Rattle.ras_lexer.specs.Pieces.{IsTokens}
use Rattle.ras_syntax.specs.Grammar as grammar
use Rattle.ras_syntax.specs.Grammar.{IsFile}
use Rattle.ras_syntax.specs.Places.{words}
use Rattle.ras_syntax.specs.Parsing as syntax
use Rattle.ras_syntax.specs.Parsing.{place}
use Rattle.ras_system.specs.Systems.{SystemParts}
use Rattle.ras_names.specs.declared.names.Names.{Names}
use Rattle.ras_names.specs.declared.spec_fault.SpecKind.{SpecKind}
use Rattle.ras_names.specs.declared.spec_fault.SpecKind.TheVariants as names
use Rattle.ras_names.specs.declared.spec_fault.SpecFault.{SpecFault}
use Rattle.ras_names.specs.Placed as placed
use Rattle.ras_names.specs.Unplaced.{file_of}
use Rattle.ras_names.specs.PlacedTokens.{IsFileOf}
use Rattle.ras_names.specs.FileChecks.{first_fault}
use Rattle.ras_names.specs.Texts.{Denotes, TokensDenote}
use Rattle.ras_names.specs.Faults as faults
use Rattle.ras_names.proofs.OneFile.{file-same}
use Rattle.ras_file.specs.declared.fault.FileKind.{FileKind}
use Rattle.ras_file.specs.declared.fault.FileFault.{FileFault}
use Rattle.ras_file.specs.FileFaults.{lexical_kind, cycle_of, IsNamesKind, IsNamesFault, IsLexical, IsSyntactic, IsOfNames, IsFileFault}

-- the words of a file are those of no other
abbrev pub OneGrammarFile : Type 0
OneGrammarFile = (f g : grammar.File) → grammar.file_words f ≡ grammar.file_words g → f ≡ g

pub one_placed : OneGrammarFile → (tokens : List Token) (f g : placed.File) → IsFileOf tokens f → IsFileOf tokens g → f ≡ g
one_placed one tokens f g h k = file-same f g (one (file_of f) (file_of g) (sym h.spelled ∙ k.spelled)) (sym h.places ∙ k.places)

pub at_within : {A : Type 0} (xs : List A) (n : ℕ) → n < length xs → (x : A) × (slice_get xs n ≡ Some x)
at_within [] n lt = absurd (omega (arith, lt))
at_within (x ∷ xs) zero lt = (x, refl)
at_within (x ∷ xs) (suc n) lt = at_within xs n (omega (arith, lt))

some_is : {A : Type 0} (x y : A) → Some x ≡ Some y → x ≡ y
some_is x y e = cc

-- a kind of fault is told in one way
one_kind : (file : placed.File) (kind : SpecKind) (one other : FileKind) → IsNamesKind file kind one → IsNamesKind file kind other → one ≡ other
one_kind file names.DuplicateName one other h k = h ∙ sym k
one_kind file names.UnknownName one other h k = h ∙ sym k
one_kind file names.WrongSort one other h k = h ∙ sym k
one_kind file (names.Cycle c) one other h k = h.2 ∙ ap cycle_of (some_is h.0 k.0 (sym h.1 ∙ k.1)) ∙ sym k.2
one_kind file names.TooMany one other h k = h ∙ sym k
one_kind file names.TooWide one other h k = h ∙ sym k
one_kind file names.RepeatedTarget one other h k = h ∙ sym k

one_fault : (one other : FileFault) → one.at ≡ other.at → one.kind ≡ other.kind → one ≡ other
one_fault one other at kind = ap (λ (n : ℕ). record { at = n; kind = one.kind }) at ∙ ap (λ (k : FileKind). record { at = other.at; kind = k }) kind

one_names_fault : OneGrammarFile → (tokens : List Token) (one other : FileFault) → IsNamesFault tokens one → IsNamesFault tokens other → one ≡ other
one_names_fault law tokens one other h k =
    let file : h.file ≡ k.file = one_placed law tokens h.file k.file h.of k.of in
    let first : h.first ≡ k.first = some_is h.first k.first (sym h.is_first ∙ subst (λ (f : placed.File). first_fault f ≡ Some k.first) (sym file) k.is_first) in
    one_fault one other (h.at ∙ ap (λ (f : SpecFault). f.at) first ∙ sym k.at)
    (one_kind k.file k.first.kind one.kind other.kind
    (subst (λ (f : SpecFault). IsNamesKind k.file f.kind one.kind) first (subst (λ (f : placed.File). IsNamesKind f h.first.kind one.kind) file h.kind)) k.kind)

-- what makes the turns exact: tokens are one, their faults are one, and so on
pub record Laws : Type 0 where
  pub tokens_one : (text : List ℕ) (xs ys : List Token) → IsTokens text xs → IsTokens text ys → xs ≡ ys
  pub lexical_one : (text : List ℕ) (f g : LexFault) → lexer.IsFirstFault text f → lexer.IsFirstFault text g → f ≡ g
  pub lexical_apart : (text : List ℕ) (tokens : List Token) (f : LexFault) → IsTokens text tokens → lexer.IsFirstFault text f → ⊥
  pub syntax_one : (ws : List Word) (j k : ℕ) → syntax.IsFirstFault ws j → syntax.IsFirstFault ws k → j ≡ k
  pub file_one : OneGrammarFile

-- the words of a placed file are a file
is_file : (tokens : List Token) (f : placed.File) → IsFileOf tokens f → IsFile (words tokens)
is_file tokens f h = (file_of f, h.spelled)

module _ (laws : Laws) (bytes : List ℕ) where
  one_lexical : (one other : FileFault) → IsLexical bytes one → IsLexical bytes other → one ≡ other
  one_lexical one other h k =
      let first : h.first ≡ k.first = laws.lexical_one bytes h.first k.first h.is_first k.is_first in
      one_fault one other (h.at ∙ ap (λ (f : LexFault). f.at) first ∙ sym k.at) (h.kind ∙ ap (λ (f : LexFault). lexical_kind f.kind) first ∙ sym k.kind)

  one_syntactic : (one other : FileFault) → IsSyntactic bytes one → IsSyntactic bytes other → one ≡ other
  one_syntactic one other h k =
      let tokens : h.tokens ≡ k.tokens = laws.tokens_one bytes h.tokens k.tokens h.read k.read in
      let first : syntax.IsFirstFault (words k.tokens) h.number = subst (λ (ts : List Token). syntax.IsFirstFault (words ts) h.number) tokens h.is_first in
      let number : h.number ≡ k.number = laws.syntax_one (words k.tokens) h.number k.number first k.is_first in
      one_fault one other
      (h.at ∙ ap (λ (ts : List Token). place ts (length bytes) h.number) tokens ∙ ap (λ (n : ℕ). place k.tokens (length bytes) n) number ∙ sym k.at) (h.kind ∙ sym k.kind)

  one_of_names : (one other : FileFault) → IsOfNames bytes one → IsOfNames bytes other → one ≡ other
  one_of_names one other h k =
      let tokens : h.tokens ≡ k.tokens = laws.tokens_one bytes h.tokens k.tokens h.read k.read in
      one_names_fault laws.file_one k.tokens one other (subst (λ (ts : List Token). IsNamesFault ts one) tokens h.names) k.names

  syntactic_apart : (one other : FileFault) → IsSyntactic bytes one → IsOfNames bytes other → ⊥
  syntactic_apart one other h k =
      let tokens : h.tokens ≡ k.tokens = laws.tokens_one bytes h.tokens k.tokens h.read k.read in
      let first : syntax.IsFirstFault (words k.tokens) h.number = subst (λ (ts : List Token). syntax.IsFirstFault (words ts) h.number) tokens h.is_first in
      first.no_file (is_file k.tokens k.names.file k.names.of)

  pub one_file_fault : (one other : FileFault) → IsFileFault bytes one → IsFileFault bytes other → one ≡ other
  one_file_fault one other (inl h) (inl k) = one_lexical one other h k
  one_file_fault one other (inl h) (inr (inl k)) = absurd (laws.lexical_apart bytes k.tokens h.first k.read h.is_first)
  one_file_fault one other (inl h) (inr (inr k)) = absurd (laws.lexical_apart bytes k.tokens h.first k.read h.is_first)
  one_file_fault one other (inr (inl h)) (inl k) = absurd (laws.lexical_apart bytes h.tokens k.first h.read k.is_first)
  one_file_fault one other (inr (inl h)) (inr (inl k)) = one_syntactic one other h k
  one_file_fault one other (inr (inl h)) (inr (inr k)) = absurd (syntactic_apart one other h k)
  one_file_fault one other (inr (inr h)) (inl k) = absurd (laws.lexical_apart bytes h.tokens k.first h.read k.is_first)
  one_file_fault one other (inr (inr h)) (inr (inl k)) = absurd (syntactic_apart other one k h)
  one_file_fault one other (inr (inr h)) (inr (inr k)) = one_of_names one other h k

-- a text with a fault denotes nothing, since its tokens do not
pub faulty-denotes_nothing : (tokens_one : (text : List ℕ) (xs ys : List Token) → IsTokens text xs → IsTokens text ys → xs ≡ ys)
    → (lexical_apart : (text : List ℕ) (tokens : List Token) (f : LexFault) → IsTokens text tokens → lexer.IsFirstFault text f → ⊥)
    → (nothing : (tokens : List Token) (first : SpecFault) → faults.IsFirstFault tokens first → (system : SystemParts) (names : Names) → ¬ TokensDenote tokens system names)
    → (bytes : List ℕ) (first : FileFault) → IsFileFault bytes first → (system : SystemParts) (names : Names) → ¬ Denotes bytes system names
faulty-denotes_nothing tokens_one lexical_apart nothing bytes first (inl h) system names k = lexical_apart bytes k.tokens h.first k.read h.is_first
faulty-denotes_nothing tokens_one lexical_apart nothing bytes first (inr (inl h)) system names k =
    let tokens : h.tokens ≡ k.tokens = tokens_one bytes h.tokens k.tokens h.read k.read in
    let fault : syntax.IsFirstFault (words k.tokens) h.number = subst (λ (ts : List Token). syntax.IsFirstFault (words ts) h.number) tokens h.is_first in
    fault.no_file (k.denote.file, k.denote.spelled)
faulty-denotes_nothing tokens_one lexical_apart nothing bytes first (inr (inr h)) system names k =
    let tokens : k.tokens ≡ h.tokens = tokens_one bytes k.tokens h.tokens k.read h.read in
    nothing h.tokens h.names.first (record { file = h.names.file; of = h.names.of; first = h.names.is_first }) system names (subst (λ (ts : List Token). TokensDenote ts system names) tokens k.denote)
