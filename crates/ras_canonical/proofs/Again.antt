-- A canonical text is read again as its file, and denotes what the file denotes.
use Rattle.std.proofs.Common.{◌≡◌, ℕ, List, [], refl, sym, ap, subst, ◌∙◌}
use Rattle.ras_lexer.specs.declared.token.Token.{Token}
use Rattle.ras_lexer.specs.Pieces.{tokens_at, IsTokens}
use Rattle.ras_system.specs.Systems.{SystemParts}
use Rattle.ras_syntax.specs.Grammar as grammar
use Rattle.ras_syntax.specs.Grammar.{file_words}
use Rattle.ras_syntax.specs.Places.{words}
use Rattle.ras_names.specs.declared.names.Names.{Names}
use Rattle.ras_names.specs.Files.{FileDenotes}
use Rattle.ras_names.specs.Canonical.{canonical_text}
use Rattle.ras_names.specs.Texts.{Denotes}
use Rattle.ras_print.proofs.SameFile.{one_text}
use Rattle.ras_canonical.proofs.Standing.{AreGood, pieces_words, words_of_pieces, good_where_they_stand}
use Rattle.ras_canonical.proofs.Spelled.{Anything, Spells}
use Rattle.ras_canonical.proofs.Items.{file}

abbrev pub SpelledAgain : grammar.File → Type 0
SpelledAgain f = (again : List Token) × IsTokens (canonical_text f) again × (words again ≡ file_words f)

pub spelled_again : (bytes : List ℕ) (tokens : List Token) (f : grammar.File) → IsTokens bytes tokens → words tokens ≡ file_words f → SpelledAgain f
spelled_again bytes tokens f h e =
    let s : Spells Anything (canonical_text f) (file_words f) = file f in
    let known : words tokens ≡ pieces_words h.pieces = ap words h.words ∙ words_of_pieces 0 h.pieces in
    let good : AreGood (file_words f) = subst AreGood (sym known ∙ e) (good_where_they_stand h.pieces [] h.stand) in (
      tokens_at 0 s.pieces,
      record { pieces = s.pieces; parts = s.parts; stand = s.stand good [] tt; words = refl },
      words_of_pieces 0 s.pieces ∙ s.spelled,
    )

pub denoted_again : (bytes : List ℕ) (f : grammar.File) (system : SystemParts) (names : Names) → Denotes bytes system names → FileDenotes f system names → Denotes (canonical_text f) system names
denoted_again bytes f system names h i =
    let d = h.denote in
    let again = spelled_again bytes h.tokens d.file h.read d.spelled in
    subst (λ (text : List ℕ). Denotes text system names) (one_text d.file f system names d.denotes i)
    (record { tokens = again.0; read = again.1; denote = record { file = d.file; spelled = again.2; denotes = d.denotes } })
