-- Each text is pieces, up to its end or to its first fault.
use Rattle.std.proofs.Common.{◌≡◌, ◌≢◌, ℕ, zero, suc, ◌+◌, ◌<◌, ◌≤◌, List, [], ◌∷◌, ◌++◌, length, take, drop, Bool, true, false, ◌⊎◌, inl, inr, refl, sym, ap, subst, ◌∙◌, arith, length-append, append_assoc, length-take-le, take-append-drop, take_at, take_all}
use Rattle.std.specs.List.{prefix_len}
use Rattle.std.specs.Str.{IsUtf8, IsValidUpTo, bytes_eq, is_utf8}
use Rattle.std.proofs.lemmas.Bool.{false≢true, cases_Bool, cases_eq, cases_lt}
use Rattle.std.proofs.lemmas.List.{append-nil}
use Rattle.std.proofs.lemmas.Slice.Eq.{bytes_eq-Decides}
use Rattle.std.proofs.lemmas.Str.{IsUtf8-from_is_utf8, is_utf8-from_IsUtf8}
use Rattle.ras_lexer.specs.declared.fault.LexFault.{LexFault}
use Rattle.ras_lexer.specs.declared.fault.LexKind.{LexKind}
use Rattle.ras_lexer.specs.declared.fault.LexKind.TheVariants.{BadByte, LongName, BadUtf8}
use Rattle.ras_lexer.specs.declared.fixed.Fixed.{Fixed}
use Rattle.ras_lexer.specs.declared.fixed.Fixed.TheVariants as fixed
use Rattle.ras_lexer.specs.declared.token.Token.{Token}
use Rattle.ras_lexer.specs.declared.token.Word.{Word}
use Rattle.ras_lexer.specs.declared.token.Word.TheVariants as declared
use Rattle.ras_lexer.specs.Words.{fixed_bytes, is_name, spelling, IsWord, NoWord}
use Rattle.ras_lexer.specs.Pieces.{Piece, blank, comment, word, piece_bytes, is_blank, is_in_comment, IsComment, IsLongestWord, Stands, pieces_bytes, AllStand, tokens_at, IsTokens, Faulty, IsFirstFault}
use Rattle.ras_lexer.proofs.Fronts.{shape, named_some, fixed_short, run_comment}

-- ---- which word is spelled by bytes

-- none of the list is spelled by the bytes
abbrev NoneSpelled : List Fixed → List ℕ → Type 0
NoneSpelled [] bytes = Unit {0}
NoneSpelled (f ∷ fs) bytes = (fixed_bytes f ≢ bytes) × NoneSpelled fs bytes

abbrev IsFixed : List ℕ → Type 0
IsFixed bytes = (f : Fixed) × (fixed_bytes f ≡ bytes)

one_more : (f : Fixed) (fs : List Fixed) (bytes : List ℕ) (b : Bool) → bytes_eq (fixed_bytes f) bytes ≡ b → IsFixed bytes ⊎ NoneSpelled fs bytes → IsFixed bytes ⊎ NoneSpelled (f ∷ fs) bytes
one_more f fs bytes true e rest = inl (f, (bytes_eq-Decides (fixed_bytes f) bytes).0 e)
one_more f fs bytes false e (inl found) = inl found
one_more f fs bytes false e (inr none) = inr (λ i. false≢true (sym e ∙ (bytes_eq-Decides (fixed_bytes f) bytes).1 i), none)

among : (fs : List Fixed) (bytes : List ℕ) → IsFixed bytes ⊎ NoneSpelled fs bytes
among [] bytes = inr tt
among (f ∷ fs) bytes = one_more f fs bytes (bytes_eq (fixed_bytes f) bytes) refl (among fs bytes)

abbrev signs : List Fixed
signs = fixed.OpenBrace ∷ fixed.CloseBrace ∷ fixed.OpenParen ∷ fixed.CloseParen ∷ fixed.Semicolon ∷ fixed.Colon ∷ fixed.Comma ∷ fixed.Dot ∷ fixed.Equal ∷ fixed.NotEqual ∷ fixed.Assign ∷ fixed.Arrow ∷ []

abbrev reserved : List Fixed
reserved = fixed.System ∷ fixed.Sort ∷ fixed.Total ∷ fixed.Nullable ∷ fixed.Const ∷ fixed.Var ∷ fixed.Relation ∷ fixed.Step ∷ fixed.Row ∷ fixed.Param ∷ fixed.When ∷ fixed.Or ∷ fixed.And ∷ fixed.True ∷ fixed.Undef ∷ fixed.Each ∷ fixed.If ∷ fixed.Unsafe ∷ []

none_at_all : (bytes : List ℕ) → NoneSpelled reserved bytes → NoneSpelled signs bytes → (f : Fixed) → fixed_bytes f ≢ bytes
none_at_all bytes r s fixed.System = r.0
none_at_all bytes r s fixed.Sort = r.1.0
none_at_all bytes r s fixed.Total = r.1.1.0
none_at_all bytes r s fixed.Nullable = r.1.1.1.0
none_at_all bytes r s fixed.Const = r.1.1.1.1.0
none_at_all bytes r s fixed.Var = r.1.1.1.1.1.0
none_at_all bytes r s fixed.Relation = r.1.1.1.1.1.1.0
none_at_all bytes r s fixed.Step = r.1.1.1.1.1.1.1.0
none_at_all bytes r s fixed.Row = r.1.1.1.1.1.1.1.1.0
none_at_all bytes r s fixed.Param = r.1.1.1.1.1.1.1.1.1.0
none_at_all bytes r s fixed.When = r.1.1.1.1.1.1.1.1.1.1.0
none_at_all bytes r s fixed.Or = r.1.1.1.1.1.1.1.1.1.1.1.0
none_at_all bytes r s fixed.And = r.1.1.1.1.1.1.1.1.1.1.1.1.0
none_at_all bytes r s fixed.True = r.1.1.1.1.1.1.1.1.1.1.1.1.1.0
none_at_all bytes r s fixed.Undef = r.1.1.1.1.1.1.1.1.1.1.1.1.1.1.0
none_at_all bytes r s fixed.Each = r.1.1.1.1.1.1.1.1.1.1.1.1.1.1.1.0
none_at_all bytes r s fixed.If = r.1.1.1.1.1.1.1.1.1.1.1.1.1.1.1.1.0
none_at_all bytes r s fixed.Unsafe = r.1.1.1.1.1.1.1.1.1.1.1.1.1.1.1.1.1.0
none_at_all bytes r s fixed.OpenBrace = s.0
none_at_all bytes r s fixed.CloseBrace = s.1.0
none_at_all bytes r s fixed.OpenParen = s.1.1.0
none_at_all bytes r s fixed.CloseParen = s.1.1.1.0
none_at_all bytes r s fixed.Semicolon = s.1.1.1.1.0
none_at_all bytes r s fixed.Colon = s.1.1.1.1.1.0
none_at_all bytes r s fixed.Comma = s.1.1.1.1.1.1.0
none_at_all bytes r s fixed.Dot = s.1.1.1.1.1.1.1.0
none_at_all bytes r s fixed.Equal = s.1.1.1.1.1.1.1.1.0
none_at_all bytes r s fixed.NotEqual = s.1.1.1.1.1.1.1.1.1.0
none_at_all bytes r s fixed.Assign = s.1.1.1.1.1.1.1.1.1.1.0
none_at_all bytes r s fixed.Arrow = s.1.1.1.1.1.1.1.1.1.1.1.0

fixed_or_none : (bytes : List ℕ) → IsFixed bytes ⊎ ((f : Fixed) → fixed_bytes f ≢ bytes)
fixed_or_none bytes = elim (among reserved bytes) [
  | inl found ↦ inl found
  | inr r ↦ elim (among signs bytes) [ inl found ↦ inl found | inr s ↦ inr (none_at_all bytes r s) ]
]

abbrev IsSpelled : List ℕ → Type 0
IsSpelled bytes = (w : Word) × IsWord w × (spelling w ≡ bytes)

abbrev NotSpelled : List ℕ → Type 0
NotSpelled bytes = (w : Word) → IsWord w → spelling w ≢ bytes

name_or_none : (bytes : List ℕ) (b : Bool) → is_name bytes ≡ b → ((f : Fixed) → fixed_bytes f ≢ bytes) → IsSpelled bytes ⊎ NotSpelled bytes
name_or_none bytes true e free = inl (declared.Name bytes, (e, free), refl)
name_or_none bytes false e free = inr none
  where
    none : NotSpelled bytes
    none (declared.Name n) h i = false≢true (sym e ∙ ap is_name (sym i) ∙ h.0)
    none (declared.Fixed f) h i = free f i

word_or_none : (bytes : List ℕ) → IsSpelled bytes ⊎ NotSpelled bytes
word_or_none bytes = elim (fixed_or_none bytes) [
  | inl found ↦ inl (declared.Fixed found.0, tt, found.1)
  | inr free ↦ name_or_none bytes (is_name bytes) refl free
]

-- ---- the longest word at the front

word_some : (w : Word) → IsWord w → 0 < length (spelling w)
word_some w h = elim (shape w h) [ inl n ↦ named_some (spelling w) n | inr s ↦ omega (arith, ap length s.parts) ]

-- no word at the front has more than n bytes
abbrev IsAtMost : List ℕ → ℕ → Type 0
IsAtMost bytes n = (v : Word) (more : List ℕ) → IsWord v → bytes ≡ spelling v ++ more → length (spelling v) ≤ n

record Begins (bytes : List ℕ) : Type 0 where
  word : Word
  rest : List ℕ
  parts : bytes ≡ spelling word ++ rest
  longest : IsLongestWord word rest

begins : (bytes : List ℕ) (n : ℕ) (w : Word) → n ≤ length bytes → IsAtMost bytes n → IsWord w → spelling w ≡ take n bytes → Begins bytes
begins bytes n w within most h e =
    let parts : bytes ≡ spelling w ++ drop n bytes = sym (take-append-drop n bytes) ∙ ap (λ (l : List ℕ). l ++ drop n bytes) (sym e) in
    let count : length (spelling w) ≡ n = ap length e ∙ length-take-le n bytes within in
    record { word = w; rest = drop n bytes; parts = parts; longest = record { word = h; longest = λ v more i j. omega (arith, count, most v more i (parts ∙ j)) } }

not_so_long : (bytes : List ℕ) (n : ℕ) → NotSpelled (take (suc n) bytes) → IsAtMost bytes (suc n) → IsAtMost bytes n
not_so_long bytes n none most v more h e = elim (cases_eq (length (spelling v)) (suc n)) [
  | inl same ↦ absurd (none v h (sym (ap (take (suc n)) e ∙ take_at (spelling v) more (suc n) same)))
  | inr other ↦ omega (arith, most v more h e, other)
]

longest_up_to : (bytes : List ℕ) (n : ℕ) → n ≤ length bytes → IsAtMost bytes n → Begins bytes ⊎ NoWord bytes
longest_up_to bytes zero within most = inr (λ v more h e. omega (arith, word_some v h, most v more h e))
longest_up_to bytes (suc n) within most = elim (word_or_none (take (suc n) bytes)) [
  | inl found ↦ inl (begins bytes (suc n) found.0 within most found.1 found.2)
  | inr none ↦ longest_up_to bytes n (omega (arith, within)) (not_so_long bytes n none most)
]

longest_word : (bytes : List ℕ) → Begins bytes ⊎ NoWord bytes
longest_word bytes = longest_up_to bytes (length bytes) (omega arith) (λ v more h e. omega (arith, ap length e, length-append (spelling v) more))

-- ---- how far bytes are UTF-8

abbrev NotUtf8Behind : List ℕ → ℕ → Type 0
NotUtf8Behind bytes n = (m : ℕ) → n < m → IsUtf8 (take m bytes) → ⊥

record IsUtf8UpTo (bytes : List ℕ) : Type 0 where
  count : ℕ
  front : IsUtf8 (take count bytes)
  longest : NotUtf8Behind bytes count

not_utf8 : (bytes : List ℕ) → is_utf8 bytes ≡ false → IsUtf8 bytes → ⊥
not_utf8 bytes e h = false≢true (sym e ∙ is_utf8-from_IsUtf8 bytes h)

further : (bytes : List ℕ) (n : ℕ) → is_utf8 (take (suc n) bytes) ≡ false → NotUtf8Behind bytes (suc n) → NotUtf8Behind bytes n
further bytes n e behind m lt h = elim (cases_eq m (suc n)) [
  | inl same ↦ not_utf8 (take (suc n) bytes) e (subst (λ (k : ℕ). IsUtf8 (take k bytes)) same h)
  | inr other ↦ behind m (omega (arith, lt, other)) h
]

utf8_up_to : (bytes : List ℕ) (n : ℕ) → NotUtf8Behind bytes n → IsUtf8UpTo bytes
utf8_up_to bytes zero behind = record { count = 0; front = ([], (refl, refl)); longest = behind }
utf8_up_to bytes (suc n) behind = elim (cases_Bool (is_utf8 (take (suc n) bytes))) [
  | inl e ↦ record { count = suc n; front = IsUtf8-from_is_utf8 (take (suc n) bytes) e; longest = behind }
  | inr e ↦ utf8_up_to bytes n (further bytes n e behind)
]

all_of_it : (bytes : List ℕ) (n : ℕ) → length bytes ≤ n → is_utf8 bytes ≡ false → IsUtf8 (take n bytes) → ⊥
all_of_it bytes n le e h = not_utf8 bytes e (subst IsUtf8 (take_all n bytes le) h)

valid : (bytes : List ℕ) → is_utf8 bytes ≡ false → (n : ℕ) × IsValidUpTo bytes n
valid bytes e =
    let up = utf8_up_to bytes (length bytes) (λ m lt. all_of_it bytes m (omega (arith, lt)) e) in
    elim (cases_lt up.count (length bytes)) [
      | inl lt ↦ (up.count, record { short = lt; front = up.front; longest = up.longest })
      | inr le ↦ absurd (all_of_it bytes up.count le e up.front)
    ]

-- ---- what stands at the front

record HasPiece (bytes : List ℕ) : Type 0 where
  piece : Piece
  rest : List ℕ
  parts : bytes ≡ piece_bytes piece ++ rest
  stands : Stands piece rest
  some : 0 < length (piece_bytes piece)

record IsFaulty (bytes : List ℕ) : Type 0 where
  kind : LexKind
  before : ℕ
  faulty : Faulty kind bytes before

comment_or_fault : (bytes : List ℕ) → HasPiece (35 ∷ bytes) ⊎ IsFaulty (35 ∷ bytes)
comment_or_fault bytes =
    let n : ℕ = prefix_len is_in_comment bytes in
    let is : IsComment (take n bytes) (drop n bytes) = run_comment bytes n refl in
    let parts : 35 ∷ bytes ≡ 35 ∷ (take n bytes ++ drop n bytes) = ap (λ (l : List ℕ). 35 ∷ l) (sym (take-append-drop n bytes)) in
    elim (cases_Bool (is_utf8 (take n bytes))) [
      | inl e ↦ inl (record { piece = comment (take n bytes); rest = drop n bytes; parts = parts; stands = (is, IsUtf8-from_is_utf8 (take n bytes) e); some = omega arith })
      | inr e ↦
          let v = valid (take n bytes) e in
          inr (record { kind = BadUtf8; before = v.0 + 1; faulty = (take n bytes, drop n bytes, parts, is, (v.0, v.1, refl)) })
    ]

word_or_fault : (bytes rest : List ℕ) (w : Word) → bytes ≡ spelling w ++ rest → IsLongestWord w rest → (length (spelling w) ≤ 64) ⊎ (64 < length (spelling w)) → HasPiece bytes ⊎ IsFaulty bytes
word_or_fault bytes rest w e h (inl short) = inl (record { piece = word w; rest = rest; parts = e; stands = (h, short); some = word_some w h.word })
word_or_fault bytes rest (declared.Name name) e h (inr long) = inr (record { kind = LongName; before = 0; faulty = (name, rest, e, h, long, refl) })
word_or_fault bytes rest (declared.Fixed f) e h (inr long) = absurd (omega (arith, long, fixed_short f))

short_or_long : (n : ℕ) → (n ≤ 64) ⊎ (64 < n)
short_or_long n = elim (cases_lt 64 n) [ inl lt ↦ inr lt | inr le ↦ inl le ]

word_front : (b : ℕ) (bytes : List ℕ) → is_blank b ≡ false → b ≢ 35 → HasPiece (b ∷ bytes) ⊎ IsFaulty (b ∷ bytes)
word_front b bytes plain hash = elim (longest_word (b ∷ bytes)) [
  | inl found ↦ word_or_fault (b ∷ bytes) found.rest found.word found.parts found.longest (short_or_long (length (spelling found.word)))
  | inr none ↦ inr (record { kind = BadByte; before = 0; faulty = (b, bytes, refl, plain, hash, none, refl) })
]

front : (b : ℕ) (bytes : List ℕ) → HasPiece (b ∷ bytes) ⊎ IsFaulty (b ∷ bytes)
front b bytes = elim (cases_Bool (is_blank b)) [
  | inl e ↦ inl (record { piece = blank b; rest = bytes; parts = refl; stands = e; some = omega arith })
  | inr plain ↦ elim (cases_eq b 35) [
    | inl same ↦ subst (λ (c : ℕ). HasPiece (c ∷ bytes) ⊎ IsFaulty (c ∷ bytes)) (sym same) (comment_or_fault bytes)
    | inr hash ↦ word_front b bytes plain hash
  ]
]

-- ---- the whole text

record IsRead (text : List ℕ) : Type 0 where
  pieces : List Piece
  rest : List ℕ
  parts : text ≡ pieces_bytes pieces ++ rest
  stand : AllStand pieces rest
  end : (rest ≡ []) ⊎ IsFaulty rest

read_on : (text : List ℕ) (p : HasPiece text) → IsRead p.rest → IsRead text
read_on text p r = record {
  pieces = p.piece ∷ r.pieces;
  rest = r.rest;
  parts = p.parts ∙ ap (λ (l : List ℕ). piece_bytes p.piece ++ l) r.parts ∙ sym (append_assoc (piece_bytes p.piece) (pieces_bytes r.pieces) r.rest);
  stand = (subst (Stands p.piece) r.parts p.stands, r.stand);
  end = r.end;
}

read : (n : ℕ) (text : List ℕ) → length text ≤ n → IsRead text
read n [] le = record { pieces = []; rest = []; parts = refl; stand = tt; end = inl refl }
read zero (b ∷ bytes) le = absurd (omega (arith, le))
read (suc n) (b ∷ bytes) le = elim (front b bytes) [
  | inl p ↦ read_on (b ∷ bytes) p (read n p.rest (omega (arith, le, p.some, ap length p.parts, length-append (piece_bytes p.piece) p.rest)))
  | inr f ↦ record { pieces = []; rest = b ∷ bytes; parts = refl; stand = tt; end = inr f }
]

abbrev pub HasTokens : List ℕ → Type 0
HasTokens text = (tokens : List Token) × IsTokens text tokens

abbrev pub HasFault : List ℕ → Type 0
HasFault text = (first : LexFault) × IsFirstFault text first

pub tokens_or_fault : (text : List ℕ) → HasTokens text ⊎ HasFault text
tokens_or_fault text =
    let r = read (length text) text (omega arith) in
    elim r.end [
      | inl e ↦ inl (
        tokens_at 0 r.pieces,
        record {
          pieces = r.pieces;
          parts = r.parts ∙ ap (λ (l : List ℕ). pieces_bytes r.pieces ++ l) e ∙ append-nil (pieces_bytes r.pieces);
          stand = subst (AllStand r.pieces) e r.stand;
          words = refl;
        },
      )
      | inr f ↦ inr (
        record { at = length (pieces_bytes r.pieces) + f.before; kind = f.kind },
        record {
          pieces = r.pieces;
          rest = r.rest;
          parts = r.parts;
          stand = r.stand;
          before = f.before;
          faulty = f.faulty;
          place = refl;
        },
      )
    ]
