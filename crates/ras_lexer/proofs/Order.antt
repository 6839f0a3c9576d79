-- The tokens of a text stand in order.
use Rattle.std.proofs.Common.{◌≡◌, ℕ, ◌+◌, ◌-◌, ◌≤◌, List, [], ◌∷◌, ◌++◌, length, take, drop, refl, sym, ap, subst, ◌∙◌, arith, length-append, append_assoc}
use Rattle.std.specs.Prelude.{slice_range}
use Rattle.std.proofs.lemmas.List.{take_at, append-nil}
use Rattle.std.proofs.Math.Seq.{drop-append_seam}
use Rattle.ras_lexer.specs.declared.token.Token.{Token}
use Rattle.ras_lexer.specs.Words.{spelling}
use Rattle.ras_lexer.specs.Pieces.{Piece, blank, comment, word, piece_bytes, pieces_bytes, tokens_at, IsTokens, StandInOrder}

slice_at : (front part rest : List ℕ) → slice_range (front ++ (part ++ rest)) (length front) (length front + length part) ≡ part
slice_at front part rest =
    let count : (length front + length part) - length front ≡ length part = omega arith in
    ap (λ (n : ℕ). take n (drop (length front) (front ++ (part ++ rest)))) count ∙ ap (take (length part)) (drop-append_seam front (part ++ rest)) ∙ take_at part rest (length part) refl

moved : (front rest : List ℕ) (p : Piece) (ps : List Piece) (place : ℕ)
    → StandInOrder ((front ++ piece_bytes p) ++ (pieces_bytes ps ++ rest)) place (tokens_at (length (front ++ piece_bytes p)) ps)
    → StandInOrder (front ++ (pieces_bytes (p ∷ ps) ++ rest)) place (tokens_at (length front + length (piece_bytes p)) ps)
moved front rest p ps place h =
    let regrouped : (front ++ piece_bytes p) ++ (pieces_bytes ps ++ rest) ≡ front ++ (pieces_bytes (p ∷ ps) ++ rest) =
    append_assoc front (piece_bytes p) (pieces_bytes ps ++ rest) ∙ ap (λ (l : List ℕ). front ++ l) (sym (append_assoc (piece_bytes p) (pieces_bytes ps) rest)) in
    subst (λ (n : ℕ). StandInOrder (front ++ (pieces_bytes (p ∷ ps) ++ rest)) place (tokens_at n ps)) (length-append front (piece_bytes p))
    (subst (λ (l : List ℕ). StandInOrder l place (tokens_at (length (front ++ piece_bytes p)) ps)) regrouped h)

behind : (front rest : List ℕ) (ps : List Piece) (place : ℕ) → place ≤ length front → StandInOrder (front ++ (pieces_bytes ps ++ rest)) place (tokens_at (length front) ps)
behind front rest [] place le = tt
behind front rest (blank b ∷ ps) place le = moved front rest (blank b) ps place (behind (front ++ b ∷ []) rest ps place (omega (arith, length-append front (b ∷ []))))
behind front rest (comment text ∷ ps) place le = moved front rest (comment text) ps place (behind (front ++ 35 ∷ text) rest ps place (omega (arith, length-append front (35 ∷ text))))
behind front rest (word w ∷ ps) place le = (
  le,
  subst (λ (l : List ℕ). slice_range (front ++ l) (length front) (length front + length (spelling w)) ≡ spelling w) (sym (append_assoc (spelling w) (pieces_bytes ps) rest)) (slice_at front (spelling w) (pieces_bytes ps ++ rest)),
  moved front rest (word w) ps (length front + length (spelling w)) (behind (front ++ spelling w) rest ps (length front + length (spelling w)) (omega (arith, length-append front (spelling w)))),
)

pub in_order : (text : List ℕ) (tokens : List Token) → IsTokens text tokens → StandInOrder text 0 tokens
in_order text tokens h =
    subst (λ (ts : List Token). StandInOrder text 0 ts) (sym h.words)
    (subst (λ (l : List ℕ). StandInOrder l 0 (tokens_at 0 h.pieces)) (append-nil (pieces_bytes h.pieces) ∙ sym h.parts) (behind [] [] h.pieces 0 (omega arith)))
