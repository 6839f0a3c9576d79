-- A text has one token list or one first fault.
use Rattle.std.proofs.Common.{◌≡◌, ◌≢◌, ℕ, suc, ◌+◌, ◌≤◌, List, [], ◌∷◌, ◌++◌, length, take, Bool, true, false, cond, refl, sym, ap, subst, ◌∙◌, arith, length-append, append_assoc}
use Rattle.std.specs.List.{prefix_len}
use Rattle.std.specs.Str.{IsUtf8, IsValidUpTo}
use Rattle.std.proofs.lemmas.Bool.{false≢true}
use Rattle.std.proofs.lemmas.Bool.Decides.{nat_tests}
use Rattle.std.proofs.lemmas.List.{take_at, append-nil, append_cancel_left}
use Rattle.std.proofs.lemmas.Str.{utf8_valid_len-IsValidUpTo}
use Rattle.std.proofs.Math.Seq.{take-length}
use Rattle.ras_lexer.specs.declared.fault.LexFault.{LexFault}
use Rattle.ras_lexer.specs.declared.fault.LexKind.{LexKind}
use Rattle.ras_lexer.specs.declared.fault.LexKind.TheVariants.{BadByte, LongName, BadUtf8}
use Rattle.ras_lexer.specs.declared.fixed.Fixed.{Fixed}
use Rattle.ras_lexer.specs.declared.fixed.Fixed.TheVariants as fixed
use Rattle.ras_lexer.specs.declared.token.Word.{Word}
use Rattle.ras_lexer.specs.declared.token.Word.TheVariants as declared
use Rattle.ras_lexer.specs.declared.token.Token.{Token}
use Rattle.ras_lexer.specs.Words.{fixed_bytes, begins_name, spelling, IsWord}
use Rattle.ras_lexer.specs.Pieces.{Piece, blank, comment, word, piece_bytes, is_blank, is_in_comment, EndsComment, IsComment, IsLongestWord, Stands, pieces_bytes, AllStand, tokens_at, IsTokens, IsFirstFault, Faulty}
use Rattle.ras_lexer.proofs.Tables.{first_of, first_of-fixed_bytes}
use Rattle.ras_lexer.proofs.Fronts.{Stops, run_covers, named}
use Rattle.ras_lexer.proofs.Reaching.{piece_some, faulty_within}

-- ---- the first byte of a word

pub record IsWordly (bytes : List ℕ) : Type 0 where
  pub first : ℕ
  pub rest : List ℕ
  pub parts : bytes ≡ first ∷ rest
  pub blank : is_blank first ≡ false
  pub hash : first ≢ 35

name_first : (b : ℕ) → begins_name b ≡ true → (is_blank b ≡ false) × (b ≢ 35)
name_first b h = (grind (arith, nat_tests), λ e. false≢true (ap begins_name (sym e) ∙ h))

fixed_first : (f : Fixed) → IsWordly (fixed_bytes f)
fixed_first fixed.System = record { first = 115; rest = 121 ∷ 115 ∷ 116 ∷ 101 ∷ 109 ∷ []; parts = refl; blank = refl; hash = λ e. omega (arith, e) }
fixed_first fixed.Sort = record { first = 115; rest = 111 ∷ 114 ∷ 116 ∷ []; parts = refl; blank = refl; hash = λ e. omega (arith, e) }
fixed_first fixed.Total = record { first = 116; rest = 111 ∷ 116 ∷ 97 ∷ 108 ∷ []; parts = refl; blank = refl; hash = λ e. omega (arith, e) }
fixed_first fixed.Nullable = record { first = 110; rest = 117 ∷ 108 ∷ 108 ∷ 97 ∷ 98 ∷ 108 ∷ 101 ∷ []; parts = refl; blank = refl; hash = λ e. omega (arith, e) }
fixed_first fixed.Const = record { first = 99; rest = 111 ∷ 110 ∷ 115 ∷ 116 ∷ []; parts = refl; blank = refl; hash = λ e. omega (arith, e) }
fixed_first fixed.Var = record { first = 118; rest = 97 ∷ 114 ∷ []; parts = refl; blank = refl; hash = λ e. omega (arith, e) }
fixed_first fixed.Relation = record { first = 114; rest = 101 ∷ 108 ∷ 97 ∷ 116 ∷ 105 ∷ 111 ∷ 110 ∷ []; parts = refl; blank = refl; hash = λ e. omega (arith, e) }
fixed_first fixed.Step = record { first = 115; rest = 116 ∷ 101 ∷ 112 ∷ []; parts = refl; blank = refl; hash = λ e. omega (arith, e) }
fixed_first fixed.Row = record { first = 114; rest = 111 ∷ 119 ∷ []; parts = refl; blank = refl; hash = λ e. omega (arith, e) }
fixed_first fixed.Param = record { first = 112; rest = 97 ∷ 114 ∷ 97 ∷ 109 ∷ []; parts = refl; blank = refl; hash = λ e. omega (arith, e) }
fixed_first fixed.When = record { first = 119; rest = 104 ∷ 101 ∷ 110 ∷ []; parts = refl; blank = refl; hash = λ e. omega (arith, e) }
fixed_first fixed.Or = record { first = 111; rest = 114 ∷ []; parts = refl; blank = refl; hash = λ e. omega (arith, e) }
fixed_first fixed.And = record { first = 97; rest = 110 ∷ 100 ∷ []; parts = refl; blank = refl; hash = λ e. omega (arith, e) }
fixed_first fixed.True = record { first = 116; rest = 114 ∷ 117 ∷ 101 ∷ []; parts = refl; blank = refl; hash = λ e. omega (arith, e) }
fixed_first fixed.Undef = record { first = 117; rest = 110 ∷ 100 ∷ 101 ∷ 102 ∷ []; parts = refl; blank = refl; hash = λ e. omega (arith, e) }
fixed_first fixed.Each = record { first = 101; rest = 97 ∷ 99 ∷ 104 ∷ []; parts = refl; blank = refl; hash = λ e. omega (arith, e) }
fixed_first fixed.If = record { first = 105; rest = 102 ∷ []; parts = refl; blank = refl; hash = λ e. omega (arith, e) }
fixed_first fixed.Unsafe = record { first = 117; rest = 110 ∷ 115 ∷ 97 ∷ 102 ∷ 101 ∷ []; parts = refl; blank = refl; hash = λ e. omega (arith, e) }
fixed_first fixed.OpenBrace = record { first = 123; rest = []; parts = refl; blank = refl; hash = λ e. omega (arith, e) }
fixed_first fixed.CloseBrace = record { first = 125; rest = []; parts = refl; blank = refl; hash = λ e. omega (arith, e) }
fixed_first fixed.OpenParen = record { first = 40; rest = []; parts = refl; blank = refl; hash = λ e. omega (arith, e) }
fixed_first fixed.CloseParen = record { first = 41; rest = []; parts = refl; blank = refl; hash = λ e. omega (arith, e) }
fixed_first fixed.Semicolon = record { first = 59; rest = []; parts = refl; blank = refl; hash = λ e. omega (arith, e) }
fixed_first fixed.Colon = record { first = 58; rest = []; parts = refl; blank = refl; hash = λ e. omega (arith, e) }
fixed_first fixed.Comma = record { first = 44; rest = []; parts = refl; blank = refl; hash = λ e. omega (arith, e) }
fixed_first fixed.Dot = record { first = 46; rest = []; parts = refl; blank = refl; hash = λ e. omega (arith, e) }
fixed_first fixed.Equal = record { first = 61; rest = []; parts = refl; blank = refl; hash = λ e. omega (arith, e) }
fixed_first fixed.NotEqual = record { first = 33; rest = 61 ∷ []; parts = refl; blank = refl; hash = λ e. omega (arith, e) }
fixed_first fixed.Assign = record { first = 58; rest = 61 ∷ []; parts = refl; blank = refl; hash = λ e. omega (arith, e) }
fixed_first fixed.Arrow = record { first = 45; rest = 62 ∷ []; parts = refl; blank = refl; hash = λ e. omega (arith, e) }

word_first : (w : Word) → IsWord w → IsWordly (spelling w)
word_first (declared.Name name) h =
    let n = named name h.0 in
    let f = name_first n.first n.begins in
    record { first = n.first; rest = n.rest; parts = n.parts; blank = f.0; hash = f.1 }
word_first (declared.Fixed f) h = fixed_first f

-- ---- equal fronts

heads : (b c : ℕ) (bs cs : List ℕ) → ◌≡◌ {A = List ℕ} (b ∷ bs) (c ∷ cs) → b ≡ c
heads b c bs cs e = cc

tails : (b c : ℕ) (bs cs : List ℕ) → ◌≡◌ {A = List ℕ} (b ∷ bs) (c ∷ cs) → bs ≡ cs
tails b c bs cs e = cc

same_front : (xs ys a b : List ℕ) → xs ++ a ≡ ys ++ b → length xs ≡ length ys → xs ≡ ys
same_front xs ys a b e count = sym (take_at xs a (length xs) refl) ∙ ap (take (length xs)) e ∙ take_at ys b (length xs) (sym count)

run_ends_by : (n m : ℕ) (b : Bool) → n ≤ m → cond b (1 + n) 0 ≤ suc m
run_ends_by n m true h = omega arith
run_ends_by n m false h = omega arith

run_ends : (p : ℕ → Bool) (xs ys : List ℕ) → Stops p ys → prefix_len p (xs ++ ys) ≤ length xs
run_ends p [] [] h = omega arith
run_ends p [] (y ∷ ys) h = rw h (omega arith)
run_ends p (x ∷ xs) ys h = run_ends_by (prefix_len p (xs ++ ys)) (length xs) (p x) (run_ends p xs ys h)

stops_at_end : (bytes : List ℕ) → EndsComment bytes → Stops is_in_comment bytes
stops_at_end [] h = tt
stops_at_end (b ∷ bs) h = rw h refl

same_comment : (t u a b : List ℕ) → IsComment t a → IsComment u b → t ++ a ≡ u ++ b → t ≡ u
same_comment t u a b h i e =
    let n = prefix_len is_in_comment in
    let t_count : n (t ++ a) ≡ length t = omega (arith, run_covers is_in_comment t a h.line, run_ends is_in_comment t a (stops_at_end a h.ends)) in
    let u_count : n (u ++ b) ≡ length u = omega (arith, run_covers is_in_comment u b i.line, run_ends is_in_comment u b (stops_at_end b i.ends)) in
    same_front t u a b e (sym t_count ∙ ap n e ∙ u_count)

same_spelling : (v w : Word) → IsWord v → IsWord w → spelling v ≡ spelling w → v ≡ w
same_spelling (declared.Name n) (declared.Name m) h i e = ap declared.Name e
same_spelling (declared.Name n) (declared.Fixed f) h i e = absurd (h.1 f (sym e))
same_spelling (declared.Fixed f) (declared.Name m) h i e = absurd (i.1 f e)
same_spelling (declared.Fixed f) (declared.Fixed g) h i e = ap declared.Fixed (sym (first_of-fixed_bytes f) ∙ ap first_of e ∙ first_of-fixed_bytes g)

same_word : (v w : Word) (a b : List ℕ) → IsLongestWord v a → IsLongestWord w b → spelling v ++ a ≡ spelling w ++ b → v ≡ w
same_word v w a b h i e =
    let size : length (spelling v) ≡ length (spelling w) = omega (arith, h.longest w b i.word e, i.longest v a h.word (sym e)) in
    same_spelling v w h.word i.word (same_front (spelling v) (spelling w) a b e size)

wordly_no_blank : (bytes a : List ℕ) (b : ℕ) (bs : List ℕ) → IsWordly bytes → bytes ++ a ≡ b ∷ bs → is_blank b ≡ true → ⊥
wordly_no_blank bytes a b bs w e h =
    let same : w.first ≡ b = heads w.first b (w.rest ++ a) bs (ap (λ (l : List ℕ). l ++ a) (sym w.parts) ∙ e) in
    false≢true (sym w.blank ∙ ap is_blank same ∙ h)

wordly_no_hash : (bytes a bs : List ℕ) → IsWordly bytes → bytes ++ a ≡ 35 ∷ bs → ⊥
wordly_no_hash bytes a bs w e = w.hash (heads w.first 35 (w.rest ++ a) bs (ap (λ (l : List ℕ). l ++ a) (sym w.parts) ∙ e))

blank_no_hash : (b : ℕ) (bs cs : List ℕ) → ◌≡◌ {A = List ℕ} (b ∷ bs) (35 ∷ cs) → is_blank b ≡ true → ⊥
blank_no_hash b bs cs e h = let same : b ≡ 35 = heads b 35 bs cs e in false≢true (sym (ap is_blank same) ∙ h)

same_piece : (p q : Piece) (a b : List ℕ) → Stands p a → Stands q b → piece_bytes p ++ a ≡ piece_bytes q ++ b → p ≡ q
same_piece (blank b) (blank c) r s h i e = ap blank (heads b c r s e)
same_piece (blank b) (comment t) r s h i e = absurd (blank_no_hash b r (t ++ s) e h)
same_piece (blank b) (word w) r s h i e = absurd (wordly_no_blank (spelling w) s b r (word_first w i.0.word) (sym e) h)
same_piece (comment t) (blank b) r s h i e = absurd (blank_no_hash b s (t ++ r) (sym e) i)
same_piece (comment t) (comment u) r s h i e = ap comment (same_comment t u r s h.0 i.0 (tails 35 35 (t ++ r) (u ++ s) e))
same_piece (comment t) (word w) r s h i e = absurd (wordly_no_hash (spelling w) s (t ++ r) (word_first w i.0.word) (sym e))
same_piece (word w) (blank b) r s h i e = absurd (wordly_no_blank (spelling w) r b s (word_first w h.0.word) e i)
same_piece (word w) (comment t) r s h i e = absurd (wordly_no_hash (spelling w) r (t ++ s) (word_first w h.0.word) e)
same_piece (word v) (word w) r s h i e = ap word (same_word v w r s h.0 i.0 e)

-- ---- where no piece stands

abbrev Stuck : List ℕ → Type 0
Stuck rest = (p : Piece) (a : List ℕ) → Stands p a → rest ≡ piece_bytes p ++ a → ⊥

stuck_at_end : Stuck []
stuck_at_end p a h e = omega (arith, piece_some p a h, ap length e, length-append (piece_bytes p) a)

no_utf8 : (text : List ℕ) (m : ℕ) → IsValidUpTo text m → IsUtf8 text → ⊥
no_utf8 text m valid utf8 = valid.longest (length text) valid.short (subst IsUtf8 (sym (take-length text)) utf8)

stuck_at_fault : (kind : LexKind) (rest : List ℕ) (n : ℕ) → Faulty kind rest n → Stuck rest
stuck_at_fault BadByte rest n (b, more, e, plain, hash, none, z) (blank c) a h i = false≢true (sym plain ∙ ap is_blank (heads b c more a (sym e ∙ i)) ∙ h)
stuck_at_fault BadByte rest n (b, more, e, plain, hash, none, z) (comment t) a h i = hash (heads b 35 more (t ++ a) (sym e ∙ i))
stuck_at_fault BadByte rest n (b, more, e, plain, hash, none, z) (word w) a h i = none w a h.0.word i
stuck_at_fault LongName rest n (name, more, e, longest, long, z) (blank c) a h i = wordly_no_blank name more c a (word_first (declared.Name name) longest.word) (sym e ∙ i) h
stuck_at_fault LongName rest n (name, more, e, longest, long, z) (comment t) a h i = wordly_no_hash name more (t ++ a) (word_first (declared.Name name) longest.word) (sym e ∙ i)
stuck_at_fault LongName rest n (name, more, e, longest, long, z) (word w) a h i = omega (arith, h.0.longest (declared.Name name) more longest.word (sym i ∙ e), h.1)
stuck_at_fault BadUtf8 rest n (text, more, e, line, (m, valid, z)) (blank c) a h i = blank_no_hash c a (text ++ more) (sym i ∙ e) h
stuck_at_fault BadUtf8 rest n (text, more, e, line, (m, valid, z)) (comment t) a h i =
    no_utf8 text m valid (subst IsUtf8 (same_comment t text a more h.0 line (tails 35 35 (t ++ a) (text ++ more) (sym i ∙ e))) h.1)
stuck_at_fault BadUtf8 rest n (text, more, e, line, (m, valid, z)) (word w) a h i = wordly_no_hash (spelling w) a (text ++ more) (word_first w h.0.word) (sym i ∙ e)

-- ---- one way to read

pub record SameReading (ps qs : List Piece) (r s : List ℕ) : Type 0 where
  pub pieces : ps ≡ qs
  pub rest : r ≡ s

same_reading : (ps qs : List Piece) (r s : List ℕ) → AllStand ps r → AllStand qs s → Stuck r → Stuck s → pieces_bytes ps ++ r ≡ pieces_bytes qs ++ s → SameReading ps qs r s
same_reading [] [] r s h i end_r end_s e = record { pieces = refl; rest = e }
same_reading [] (q ∷ qs) r s h i end_r end_s e = absurd (end_r q (pieces_bytes qs ++ s) i.0 (e ∙ append_assoc (piece_bytes q) (pieces_bytes qs) s))
same_reading (p ∷ ps) [] r s h i end_r end_s e = absurd (end_s p (pieces_bytes ps ++ r) h.0 (sym e ∙ append_assoc (piece_bytes p) (pieces_bytes ps) r))
same_reading (p ∷ ps) (q ∷ qs) r s h i end_r end_s e =
    let regrouped : piece_bytes p ++ (pieces_bytes ps ++ r) ≡ piece_bytes q ++ (pieces_bytes qs ++ s) = sym (append_assoc (piece_bytes p) (pieces_bytes ps) r) ∙ e ∙ append_assoc (piece_bytes q) (pieces_bytes qs) s in
    let first : p ≡ q = same_piece p q (pieces_bytes ps ++ r) (pieces_bytes qs ++ s) h.0 i.0 regrouped in
    let later : pieces_bytes ps ++ r ≡ pieces_bytes qs ++ s = append_cancel_left (piece_bytes p) (pieces_bytes ps ++ r) (pieces_bytes qs ++ s) (regrouped ∙ ap (λ (x : Piece). piece_bytes x ++ (pieces_bytes qs ++ s)) (sym first)) in
    let rec = same_reading ps qs r s h.1 i.1 end_r end_s later in
    record { pieces = ap (λ (x : Piece). x ∷ ps) first ∙ ap (λ (xs : List Piece). q ∷ xs) rec.pieces; rest = rec.rest }

pub one_list : (text : List ℕ) (xs ys : List Token) → IsTokens text xs → IsTokens text ys → xs ≡ ys
one_list text xs ys h i =
    let e : pieces_bytes h.pieces ++ [] ≡ pieces_bytes i.pieces ++ [] = ap (λ (l : List ℕ). l ++ []) (sym h.parts ∙ i.parts) in
    let s = same_reading h.pieces i.pieces [] [] h.stand i.stand stuck_at_end stuck_at_end e in
    h.words ∙ ap (tokens_at 0) s.pieces ∙ sym i.words

pub apart : (text : List ℕ) (xs : List Token) (f : LexFault) → IsTokens text xs → IsFirstFault text f → ⊥
apart text xs f h i =
    let e : pieces_bytes h.pieces ++ [] ≡ pieces_bytes i.pieces ++ i.rest = append-nil (pieces_bytes h.pieces) ∙ sym h.parts ∙ i.parts in
    let s = same_reading h.pieces i.pieces [] i.rest h.stand i.stand stuck_at_end (stuck_at_fault f.kind i.rest i.before i.faulty) e in
    omega (arith, ap length s.rest, faulty_within f.kind i.rest i.before i.faulty)

one_kind : (j k : LexKind) (rest : List ℕ) (m n : ℕ) → Faulty j rest m → Faulty k rest n → (j ≡ k) × (m ≡ n)
one_kind BadByte BadByte rest m n (b, more, e, plain, hash, none, z) (c, others, i, _, _, _, y) = (refl, z ∙ sym y)
one_kind BadByte LongName rest m n (b, more, e, plain, hash, none, z) (name, others, i, longest, long, y) = absurd (none (declared.Name name) others longest.word i)
one_kind BadByte BadUtf8 rest m n (b, more, e, plain, hash, none, z) (text, others, i, _, _) = absurd (hash (heads b 35 more (text ++ others) (sym e ∙ i)))
one_kind LongName BadByte rest m n (name, others, i, longest, long, y) (b, more, e, plain, hash, none, z) = absurd (none (declared.Name name) others longest.word i)
one_kind LongName LongName rest m n (name, others, i, longest, long, y) (_, _, _, _, _, z) = (refl, y ∙ sym z)
one_kind LongName BadUtf8 rest m n (name, others, i, longest, long, y) (text, more, e, _, _) = absurd (wordly_no_hash name others (text ++ more) (word_first (declared.Name name) longest.word) (sym i ∙ e))
one_kind BadUtf8 BadByte rest m n (text, others, i, _, _) (b, more, e, plain, hash, none, z) = absurd (hash (heads b 35 more (text ++ others) (sym e ∙ i)))
one_kind BadUtf8 LongName rest m n (text, more, e, _, _) (name, others, i, longest, long, y) = absurd (wordly_no_hash name others (text ++ more) (word_first (declared.Name name) longest.word) (sym i ∙ e))
one_kind BadUtf8 BadUtf8 rest m n (t, a, e, line, (k, valid, z)) (u, b, i, other, (l, sound, y)) =
    let same : t ≡ u = same_comment t u a b line other (tails 35 35 (t ++ a) (u ++ b) (sym e ∙ i)) in
    let valid_u : IsValidUpTo u k = subst (λ (l : List ℕ). IsValidUpTo l k) same valid in
    (refl, omega (arith, utf8_valid_len-IsValidUpTo u k valid_u, utf8_valid_len-IsValidUpTo u l sound, z, y))

pub one_fault : (text : List ℕ) (f g : LexFault) → IsFirstFault text f → IsFirstFault text g → f ≡ g
one_fault text f g h i =
    let s = same_reading h.pieces i.pieces h.rest i.rest h.stand i.stand (stuck_at_fault f.kind h.rest h.before h.faulty) (stuck_at_fault g.kind i.rest i.before i.faulty) (sym h.parts ∙ i.parts) in
    let kinds = one_kind f.kind g.kind i.rest h.before i.before (subst (λ (l : List ℕ). Faulty f.kind l h.before) s.rest h.faulty) i.faulty in
    let places : f.at ≡ g.at = omega (arith, h.place, i.place, ap (λ (ps : List Piece). length (pieces_bytes ps)) s.pieces, kinds.1) in
    ap (λ (n : ℕ). let r : LexFault = record { at = n; kind = f.kind } in r) places ∙ ap (λ (k : LexKind). let r : LexFault = record { at = g.at; kind = k } in r) kinds.0
