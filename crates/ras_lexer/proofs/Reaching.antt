-- How far a text is read.
use Rattle.std.proofs.Common.{◌≡◌, ℕ, ◌+◌, ◌-◌, ◌<◌, ◌≤◌, List, [], ◌∷◌, ◌++◌, length, drop, Ok, refl, sym, ap, subst, ◌∙◌, arith, length-append, append_assoc, inl, inr, lit<}
use Rattle.std.proofs.lemmas.List.{append-nil, flat_map_more}
use Rattle.ras_lexer.specs.declared.fault.LexKind.{LexKind}
use Rattle.ras_lexer.specs.declared.fault.LexKind.TheVariants.{BadByte, LongName, BadUtf8}
use Rattle.ras_lexer.specs.declared.token.Word.{Word}
use Rattle.ras_lexer.specs.declared.token.Token.{Token}
use Rattle.ras_lexer.specs.Words.{spelling, IsWord}
use Rattle.ras_lexer.specs.Pieces.{Piece, blank, comment, word, piece_bytes, Stands, pieces_bytes, AllStand, tokens_at, IsTokens, IsFirstFault, Faulty}
use Rattle.ras_lexer.proofs.Fronts.{shape, named_some}
use Rattle.ras_lexer.specs.declared.scanning.Front.{Front}
use Rattle.ras_lexer.specs.declared.scanning.Front.TheVariants as front
use Rattle.ras_lexer.specs.Fronts.{IsFront, ScanOf, front_length, front_tokens}

-- the tokens are those of the pieces of the text before the rest
pub record Reaches (text : List ℕ) (tokens : List Token) (rest : List ℕ) : Type 0 where
  pub pieces : List Piece
  pub parts : text ≡ pieces_bytes pieces ++ rest
  pub stand : AllStand pieces rest
  pub words : tokens ≡ tokens_at 0 pieces

pub starts : (text : List ℕ) → Reaches text [] text
starts text = record { pieces = []; parts = refl; stand = tt; words = refl }

pieces_more : (ps : List Piece) (p : Piece) (rest : List ℕ) → pieces_bytes (ps ++ p ∷ []) ++ rest ≡ pieces_bytes ps ++ (piece_bytes p ++ rest)
pieces_more ps p rest = ap (λ (l : List ℕ). l ++ rest) (sym (flat_map_more piece_bytes [] ps p)) ∙ append_assoc (pieces_bytes ps) (piece_bytes p) rest

stand_more : (ps : List Piece) (p : Piece) (rest : List ℕ) → AllStand ps (piece_bytes p ++ rest) → Stands p rest → AllStand (ps ++ p ∷ []) rest
stand_more [] p rest all h = (h, tt)
stand_more (q ∷ ps) p rest all h = (subst (Stands q) (sym (pieces_more ps p rest)) all.0, stand_more ps p rest all.1 h)

moved : (place : ℕ) (q : Piece) (ps : List Piece) (p : Piece) → tokens_at ((place + length (piece_bytes q)) + length (pieces_bytes ps)) (p ∷ []) ≡ tokens_at (place + length (piece_bytes q ++ pieces_bytes ps)) (p ∷ [])
moved place q ps p = ap (λ (n : ℕ). tokens_at n (p ∷ [])) (omega (arith, length-append (piece_bytes q) (pieces_bytes ps)))

tokens_more : (place : ℕ) (ps : List Piece) (p : Piece) → tokens_at place (ps ++ p ∷ []) ≡ tokens_at place ps ++ tokens_at (place + length (pieces_bytes ps)) (p ∷ [])
tokens_more place [] p = ap (λ (n : ℕ). tokens_at n (p ∷ [])) (omega arith)
tokens_more place (blank b ∷ ps) p =
    tokens_more (place + 1) ps p ∙ ap (λ (l : List Token). tokens_at (place + 1) ps ++ l) (moved place (blank b) ps p)
tokens_more place (comment text ∷ ps) p =
    let next : ℕ = place + length (piece_bytes (comment text)) in
    tokens_more next ps p ∙ ap (λ (l : List Token). tokens_at next ps ++ l) (moved place (comment text) ps p)
tokens_more place (word w ∷ ps) p =
    let next : ℕ = place + length (spelling w) in
    ap (λ (l : List Token). record { at = place; word = w } ∷ l) (tokens_more next ps p ∙ ap (λ (l : List Token). tokens_at next ps ++ l) (moved place (word w) ps p))

piece_more : (text : List ℕ) (tokens : List Token) (rest : List ℕ) (p : Piece) (n : ℕ) → Reaches text tokens rest → IsFront rest p n → Reaches text (tokens ++ tokens_at (length text - length rest) (p ∷ [])) (drop n rest)
piece_more text tokens rest p n h f =
    let place : length (pieces_bytes h.pieces) ≡ length text - length rest = omega (arith, ap length h.parts, length-append (pieces_bytes h.pieces) rest) in
    record {
      pieces = h.pieces ++ p ∷ [];
      parts = h.parts ∙ ap (λ (l : List ℕ). pieces_bytes h.pieces ++ l) f.parts ∙ sym (pieces_more h.pieces p (drop n rest));
      stand = stand_more h.pieces p (drop n rest) (subst (AllStand h.pieces) f.parts h.stand) f.stands;
      words = ap (λ (l : List Token). l ++ tokens_at (length text - length rest) (p ∷ [])) h.words
          ∙ ap (λ (m : ℕ). tokens_at 0 h.pieces ++ tokens_at m (p ∷ [])) (sym place ∙ omega arith) ∙ sym (tokens_more 0 h.pieces p);
    }

space_more : (text : List ℕ) (tokens : List Token) (rest : List ℕ) (p : Piece) (n : ℕ) → Reaches text tokens rest → IsFront rest p n → ((place : ℕ) → tokens_at place (p ∷ []) ≡ []) → Reaches text tokens (drop n rest)
space_more text tokens rest p n h f no_word =
    subst (λ (ts : List Token). Reaches text ts (drop n rest)) (ap (λ (l : List Token). tokens ++ l) (no_word (length text - length rest)) ∙ append-nil tokens) (piece_more text tokens rest p n h f)

word_more : (text : List ℕ) (tokens : List Token) (rest : List ℕ) (w : Word) (n : ℕ) → Reaches text tokens rest → IsFront rest (word w) n → Reaches text (tokens ++ record { at = length text - length rest; word = w } ∷ []) (drop n rest)
word_more text tokens rest w n h f = piece_more text tokens rest (word w) n h f

pub ended : (text : List ℕ) (tokens : List Token) (rest : List ℕ) → Reaches text tokens rest → rest ≡ [] → IsTokens text tokens
ended text tokens rest h e = record {
  pieces = h.pieces;
  parts = h.parts ∙ ap (λ (l : List ℕ). pieces_bytes h.pieces ++ l) e ∙ append-nil (pieces_bytes h.pieces);
  stand = subst (AllStand h.pieces) e h.stand;
  words = h.words;
}

pub faulted : (text : List ℕ) (tokens : List Token) (rest : List ℕ) (kind : LexKind) (n : ℕ) → Reaches text tokens rest → Faulty kind rest n → IsFirstFault text (record { at = (length text - length rest) + n; kind = kind })
faulted text tokens rest kind n h f = record {
  pieces = h.pieces;
  rest = rest;
  parts = h.parts;
  stand = h.stand;
  before = n;
  faulty = f;
  place = omega (arith, ap length h.parts, length-append (pieces_bytes h.pieces) rest);
}

pub faulty_within : (kind : LexKind) (rest : List ℕ) (n : ℕ) → Faulty kind rest n → n < length rest
faulty_within BadByte rest n (b, more, e, _, _, _, z) = omega (arith, ap length e)
faulty_within LongName rest n (name, more, e, _, long, z) = omega (arith, ap length e, length-append name more)
faulty_within BadUtf8 rest n (text, more, e, _, (m, valid, z)) = omega (arith, ap length e, length-append text more, valid.short)

pub advanced : (text : List ℕ) (tokens : List Token) (rest : List ℕ) (found : Front) → Reaches text tokens rest → ScanOf rest (Ok found) → Reaches text (tokens ++ front_tokens (length text - length rest) found) (drop (front_length found) rest)
advanced text tokens rest (front.Space n) h (p, f, no_word) = subst (λ (ts : List Token). Reaches text ts (drop n rest)) (sym (append-nil tokens)) (space_more text tokens rest p n h f no_word)
advanced text tokens rest (front.Word w) h f = word_more text tokens rest w (length (spelling w)) h f

word_some : (w : Word) → IsWord w → 0 < length (spelling w)
word_some w h = elim (shape w h) [ inl n ↦ named_some (spelling w) n | inr s ↦ omega (arith, ap length s.parts) ]

pub piece_some : (p : Piece) (rest : List ℕ) → Stands p rest → 0 < length (piece_bytes p)
piece_some (blank b) rest h = lit< tt
piece_some (comment text) rest h = omega arith
piece_some (word w) rest h = word_some w h.0.word

front_some : (rest : List ℕ) (p : Piece) (n : ℕ) → IsFront rest p n → 0 < n
front_some rest p n f = omega (arith, f.count, piece_some p (drop n rest) f.stands)

front_within : (rest : List ℕ) (p : Piece) (n : ℕ) → IsFront rest p n → n ≤ length rest
front_within rest p n f = omega (arith, f.count, ap length f.parts, length-append (piece_bytes p) (drop n rest))

pub reached_within : (text : List ℕ) (tokens : List Token) (rest : List ℕ) → Reaches text tokens rest → length rest ≤ length text
reached_within text tokens rest h = omega (arith, ap length h.parts, length-append (pieces_bytes h.pieces) rest)

pub found_some : (rest : List ℕ) (found : Front) → ScanOf rest (Ok found) → (0 < front_length found) × (front_length found ≤ length rest)
found_some rest (front.Space n) (p, f, _) = (front_some rest p n f, front_within rest p n f)
found_some rest (front.Word w) f = (front_some rest (word w) (length (spelling w)) f, front_within rest (word w) (length (spelling w)) f)

pub next : (text : List ℕ) (tokens more : List Token) (rest behind : List ℕ) (found : Front) (n : ℕ) → Reaches text tokens rest → ScanOf rest (Ok found)
    → more ≡ tokens ++ front_tokens (length text - length rest) found → n ≡ front_length found → behind ≡ drop n rest → Reaches text more behind
next text tokens more rest behind found n h f e count i = rw (e, i, count) (advanced text tokens rest found h f)

pub space_kept : (place : ℕ) (found : Front) (n : ℕ) (before after : List Token) → found ≡ front.Space n → after ≡ before → after ≡ before ++ front_tokens place found
space_kept place found n before after is e = rw is (e ∙ sym (append-nil before))

pub word_pushed : (place : ℕ) (found : Front) (w : Word) (before after : List Token) → found ≡ front.Word w → after ≡ before ++ record { at = place; word = w } ∷ [] → after ≡ before ++ front_tokens place found
word_pushed place found w before after is e = rw is e
