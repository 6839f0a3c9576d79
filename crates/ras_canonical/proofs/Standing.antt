-- Where the words of a text stand.
use Rattle.std.proofs.Common.{◌≡◌, ℕ, suc, ◌+◌, ◌≤◌, List, [], ◌∷◌, ◌++◌, length, flat_map, Bool, true, false, cond, not, ◌&&◌, ◌||◌, ◌==◌, ◌⊎◌, inl, inr, refl, sym, ap, subst, ◌∙◌, arith, lit≤, get_or, append_assoc}
use Rattle.std.specs.List.{list_all, prefix_len}
use Rattle.std.proofs.lemmas.Bool.{false≢true}
use Rattle.std.proofs.lemmas.Bool.Decides.{nat_tests}
use Rattle.std.proofs.lemmas.Grind.{flat_map-append}
use Rattle.std.proofs.lemmas.List.{take_at}
use Rattle.std.proofs.Math.Seq.{drop-append_seam}
use Rattle.ras_lexer.specs.declared.fixed.Fixed.{Fixed}
use Rattle.ras_lexer.specs.declared.fixed.Fixed.TheVariants as fixed
use Rattle.ras_lexer.specs.declared.token.Word.{Word}
use Rattle.ras_lexer.specs.declared.token.Word.TheVariants as declared
use Rattle.ras_lexer.specs.Words.{fixed_bytes, is_in_name, is_name, spelling, IsWord, IsLongest}
use Rattle.ras_lexer.specs.Pieces.{Piece, blank, comment, word, piece_bytes, pieces_bytes, is_blank, IsLongestWord, Stands, AllStand, tokens_at}
use Rattle.ras_lexer.proofs.Fronts.{Stops, run_covers, named, named_some, run_word, fixed_short}
use Rattle.ras_syntax.specs.Places.{words}

-- ---- good words

-- a word that may stand in a text
abbrev pub IsGood : Word → Type 0
IsGood w = IsWord w × (length (spelling w) ≤ 64)

abbrev pub AreGood : List Word → Type 0
AreGood [] = Unit {0}
AreGood (w ∷ ws) = IsGood w × AreGood ws

pub front_good : (v w : List Word) → AreGood (v ++ w) → AreGood v
front_good [] w h = tt
front_good (x ∷ v) w h = (h.0, front_good v w h.1)

pub back_good : (v w : List Word) → AreGood (v ++ w) → AreGood w
back_good [] w h = h
back_good (x ∷ v) w h = back_good v w h.1

-- ---- pieces and their words

abbrev pub piece_words : Piece → List Word
piece_words (blank b) = []
piece_words (comment text) = []
piece_words (word w) = w ∷ []

abbrev pub pieces_words : List Piece → List Word
pieces_words ps = flat_map piece_words ps

pub words_of_pieces : (place : ℕ) (ps : List Piece) → words (tokens_at place ps) ≡ pieces_words ps
words_of_pieces place [] = refl
words_of_pieces place (blank b ∷ ps) = words_of_pieces (place + length (piece_bytes (blank b))) ps
words_of_pieces place (comment text ∷ ps) = words_of_pieces (place + length (piece_bytes (comment text))) ps
words_of_pieces place (word w ∷ ps) = ap (λ (ws : List Word). w ∷ ws) (words_of_pieces (place + length (spelling w)) ps)

pub good_where_they_stand : (ps : List Piece) (rest : List ℕ) → AllStand ps rest → AreGood (pieces_words ps)
good_where_they_stand [] rest h = tt
good_where_they_stand (blank b ∷ ps) rest h = good_where_they_stand ps rest h.1
good_where_they_stand (comment text ∷ ps) rest h = good_where_they_stand ps rest h.1
good_where_they_stand (word w ∷ ps) rest h = ((h.0.0.word, h.0.1), good_where_they_stand ps rest h.1)

pub stand_both : (ps qs : List Piece) (rest : List ℕ) → AllStand ps (pieces_bytes qs ++ rest) → AllStand qs rest → AllStand (ps ++ qs) rest
stand_both [] qs rest h i = i
stand_both (p ∷ ps) qs rest h i =
    let regrouped : pieces_bytes ps ++ (pieces_bytes qs ++ rest) ≡ pieces_bytes (ps ++ qs) ++ rest =
    sym (append_assoc (pieces_bytes ps) (pieces_bytes qs) rest) ∙ ap (λ (l : List ℕ). l ++ rest) (sym (flat_map-append piece_bytes ps qs)) in
    (subst (Stands p) regrouped h.0, stand_both ps qs rest h.1 i)

-- ---- runs of bytes that pass a test

run_ends_by : (n m : ℕ) (b : Bool) → n ≤ m → cond b (1 + n) 0 ≤ suc m
run_ends_by n m true h = omega arith
run_ends_by n m false h = omega arith

run_ends : (p : ℕ → Bool) (xs ys : List ℕ) → Stops p ys → prefix_len p (xs ++ ys) ≤ length xs
run_ends p [] [] h = omega arith
run_ends p [] (y ∷ ys) h = rw h (omega arith)
run_ends p (x ∷ xs) ys h = run_ends_by (prefix_len p (xs ++ ys)) (length xs) (p x) (run_ends p xs ys h)

both_by : (a b c : Bool) → (a ≡ true → c ≡ true) → (a && b) ≡ true → (c ≡ true) × (b ≡ true)
both_by true b c f h = (f refl, h)
both_by false b c f h = absurd (false≢true h)

all_weaker : (p q : ℕ → Bool) (xs : List ℕ) → ((b : ℕ) → p b ≡ true → q b ≡ true) → list_all p xs ≡ true → list_all q xs ≡ true
all_weaker p q [] f h = refl
all_weaker p q (x ∷ xs) f h =
    let parts = both_by (p x) (list_all p xs) (q x) (f x) h in
    rw parts.0 (all_weaker p q xs f parts.1)

-- ---- a name or a reserved word, where no byte of a name follows

pub name_stands : (w : Word) (rest : List ℕ) → is_name (spelling w) ≡ true → IsGood w → Stops is_in_name rest → Stands (word w) rest
name_stands w rest shape good apart =
    let count : length (spelling w) ≡ prefix_len is_in_name (spelling w ++ rest) =
    omega (arith, run_covers is_in_name (spelling w) rest (named (spelling w) shape).inside, run_ends is_in_name (spelling w) rest apart) in
    let found = run_word (spelling w ++ rest) w (length (spelling w)) count (named_some (spelling w) shape) good.0 (sym (take_at (spelling w) rest (length (spelling w)) refl)) in
    (subst (IsLongestWord w) (drop-append_seam (spelling w) rest) found.longest, good.1)

-- ---- any word, where a blank follows

-- no word has a blank in it
abbrev is_no_blank : ℕ → Bool
is_no_blank b = not (is_blank b)

in_name_no_blank : (b : ℕ) → is_in_name b ≡ true → is_no_blank b ≡ true
in_name_no_blank b h = grind (arith, nat_tests)

fixed_no_blank : (f : Fixed) → list_all is_no_blank (fixed_bytes f) ≡ true
fixed_no_blank fixed.System = refl
fixed_no_blank f = refl

word_no_blank : (w : Word) → IsWord w → list_all is_no_blank (spelling w) ≡ true
word_no_blank (declared.Name n) h = all_weaker is_in_name is_no_blank n in_name_no_blank (named n h.0).inside
word_no_blank (declared.Fixed f) h = fixed_no_blank f

pub stands_before_blank : (w : Word) (b : ℕ) (rest : List ℕ) → IsGood w → is_blank b ≡ true → Stands (word w) (b ∷ rest)
stands_before_blank w b rest good h =
    let stops : is_no_blank b ≡ false = ap not h in
    let longest : IsLongest w (b ∷ rest) =
    λ v more i e. omega (arith, run_covers is_no_blank (spelling v) more (word_no_blank v i), ap (prefix_len is_no_blank) e, run_ends is_no_blank (spelling w) (b ∷ rest) stops) in
    (record { word = good.0; longest = longest }, good.1)

-- ---- a sign of one byte, where anything follows

-- a word of more than one byte begins with a byte of a name, or with `:` (58), `!` (33) or `-` (45)
abbrev pub begins_long : ℕ → Bool
begins_long b = is_in_name b || (b == 58 || (b == 33 || b == 45))

fixed_long : (f : Fixed) (more : List ℕ) → (begins_long (get_or (fixed_bytes f ++ more) 0 0) ≡ true) ⊎ (length (fixed_bytes f) ≤ 1)
fixed_long fixed.OpenBrace more = inr (lit≤ tt)
fixed_long fixed.CloseBrace more = inr (lit≤ tt)
fixed_long fixed.OpenParen more = inr (lit≤ tt)
fixed_long fixed.CloseParen more = inr (lit≤ tt)
fixed_long fixed.Semicolon more = inr (lit≤ tt)
fixed_long fixed.Comma more = inr (lit≤ tt)
fixed_long fixed.Dot more = inr (lit≤ tt)
fixed_long fixed.Equal more = inr (lit≤ tt)
fixed_long f more = inl refl

name_long : (n more : List ℕ) → list_all is_in_name n ≡ true → (begins_long (get_or (n ++ more) 0 0) ≡ true) ⊎ (length n ≤ 1)
name_long [] more h = inr (omega arith)
name_long (b ∷ bs) more h = inl (rw (both_by (is_in_name b) (list_all is_in_name bs) (is_in_name b) (λ e. e) h).0 refl)

word_long : (v : Word) (more : List ℕ) → IsWord v → (begins_long (get_or (spelling v ++ more) 0 0) ≡ true) ⊎ (length (spelling v) ≤ 1)
word_long (declared.Name n) more h = name_long n more (named n h.0).inside
word_long (declared.Fixed f) more h = fixed_long f more

pub sign_stands : (f : Fixed) (b : ℕ) (rest : List ℕ) → fixed_bytes f ≡ b ∷ [] → begins_long b ≡ false → Stands (word (declared.Fixed f)) rest
sign_stands f b rest e short =
    let longest : IsLongest (declared.Fixed f) rest =
    λ v more i same. elim (word_long v more i) [
      | inl long ↦ absurd (false≢true (sym short ∙ ap (λ (l : List ℕ). begins_long (get_or (l ++ rest) 0 0)) (sym e) ∙ ap (λ (l : List ℕ). begins_long (get_or l 0 0)) same ∙ long))
      | inr one ↦ omega (arith, one, ap length e)
    ] in
    (record { word = tt; longest = longest }, fixed_short f)
