-- What stands at the front of bytes.
use Rattle.std.proofs.Common.{◌≡◌, ◌≢◌, ℕ, zero, suc, ◌+◌, ◌<◌, ◌≤◌, List, [], ◌∷◌, ◌++◌, length, take, drop, Bool, true, false, cond, Ok, ◌&&◌, ◌||◌, ◌==◌, ◌⊎◌, inl, inr, refl, sym, ap, subst, ◌∙◌, arith, lit≤, get_or}
use Rattle.std.specs.List.{list_all, prefix_len}
use Rattle.std.proofs.lemmas.Bool.{false≢true, cases_lt}
use Rattle.std.proofs.lemmas.Bool.Decides.{nat_tests}
use Rattle.std.proofs.lemmas.List.{length-take-le, take-append-drop}
use Rattle.std.proofs.lemmas.List.Folds.{length-prefix_len}
use Rattle.std.proofs.lemmas.List.Sums.{prefix_len-le-length}
use Rattle.ras_lexer.specs.declared.fixed.Fixed.{Fixed}
use Rattle.ras_lexer.specs.declared.fixed.Fixed.TheVariants as fixed
use Rattle.ras_lexer.specs.declared.token.Word.{Word}
use Rattle.ras_lexer.specs.declared.token.Word.TheVariants as word
use Rattle.ras_lexer.specs.Words.{fixed_bytes, begins_name, is_in_name, is_name, spelling, IsWord, NoWord}
use Rattle.ras_lexer.specs.Pieces.{is_in_comment, EndsComment, IsComment}
use Rattle.ras_lexer.specs.Pieces.{blank, comment, is_blank}
use Rattle.ras_lexer.specs.Fronts.{BeginsWith, IsFront, CommentOf}
use Rattle.std.specs.Int.{is_in_range}

pub ruleset run_lengths = (length-prefix_len, prefix_len-le-length)

-- ---- the front that passes a test

run_passes_by : (p : ℕ → Bool) (x : ℕ) (xs : List ℕ) (n : ℕ) (b : Bool) → p x ≡ b → list_all p (take n xs) ≡ true → list_all p (take (cond b (1 + n) 0) (x ∷ xs)) ≡ true
run_passes_by p x xs n true e h = let s : 1 + n ≡ suc n = omega arith in rw (s, e) h
run_passes_by p x xs n false e h = refl

pub run_passes : (p : ℕ → Bool) (xs : List ℕ) → list_all p (take (prefix_len p xs) xs) ≡ true
run_passes p [] = refl
run_passes p (x ∷ xs) = run_passes_by p x xs (prefix_len p xs) (p x) refl (run_passes p xs)

-- the bytes are none, or begin with one that does not pass
abbrev pub Stops : (ℕ → Bool) → List ℕ → Type 0
Stops p [] = Unit {0}
Stops p (x ∷ xs) = p x ≡ false

run_stops_by : (p : ℕ → Bool) (x : ℕ) (xs : List ℕ) (n : ℕ) (b : Bool) → p x ≡ b → Stops p (drop n xs) → Stops p (drop (cond b (1 + n) 0) (x ∷ xs))
run_stops_by p x xs n true e h = let s : 1 + n ≡ suc n = omega arith in rw s h
run_stops_by p x xs n false e h = e

pub run_stops : (p : ℕ → Bool) (xs : List ℕ) → Stops p (drop (prefix_len p xs) xs)
run_stops p [] = tt
run_stops p (x ∷ xs) = run_stops_by p x xs (prefix_len p xs) (p x) refl (run_stops p xs)

-- a front that passes is no longer than the longest
run_covers_by : (n m : ℕ) (b : Bool) → b ≡ true → m ≤ n → suc m ≤ cond b (1 + n) 0
run_covers_by n m true e h = omega arith
run_covers_by n m false e h = absurd (false≢true e)

both : (a b : Bool) → (a && b) ≡ true → (a ≡ true) × (b ≡ true)
both true b e = (refl, e)
both false b e = absurd (false≢true e)

pub run_covers : (p : ℕ → Bool) (xs ys : List ℕ) → list_all p xs ≡ true → length xs ≤ prefix_len p (xs ++ ys)
run_covers p [] ys h = omega arith
run_covers p (x ∷ xs) ys h =
    let parts = both (p x) (list_all p xs) h in
    run_covers_by (prefix_len p (xs ++ ys)) (length xs) (p x) parts.0 (run_covers p xs ys parts.1)

-- ---- the shapes of words

-- begins with a byte that stands in no name, and has one or two
pub record IsSign (bytes : List ℕ) : Type 0 where
  pub first : ℕ
  pub rest : List ℕ
  pub parts : bytes ≡ first ∷ rest
  pub outside : is_in_name first ≡ false
  pub short : length rest ≤ 1

fixed_shape : (f : Fixed) → (is_name (fixed_bytes f) ≡ true) ⊎ IsSign (fixed_bytes f)
fixed_shape fixed.System = inl refl
fixed_shape fixed.Sort = inl refl
fixed_shape fixed.Total = inl refl
fixed_shape fixed.Nullable = inl refl
fixed_shape fixed.Const = inl refl
fixed_shape fixed.Var = inl refl
fixed_shape fixed.Relation = inl refl
fixed_shape fixed.Step = inl refl
fixed_shape fixed.Row = inl refl
fixed_shape fixed.Param = inl refl
fixed_shape fixed.When = inl refl
fixed_shape fixed.Or = inl refl
fixed_shape fixed.And = inl refl
fixed_shape fixed.True = inl refl
fixed_shape fixed.Undef = inl refl
fixed_shape fixed.Each = inl refl
fixed_shape fixed.If = inl refl
fixed_shape fixed.Unsafe = inl refl
fixed_shape fixed.OpenBrace = inr (record { first = 123; rest = []; parts = refl; outside = refl; short = lit≤ tt })
fixed_shape fixed.CloseBrace = inr (record { first = 125; rest = []; parts = refl; outside = refl; short = lit≤ tt })
fixed_shape fixed.OpenParen = inr (record { first = 40; rest = []; parts = refl; outside = refl; short = lit≤ tt })
fixed_shape fixed.CloseParen = inr (record { first = 41; rest = []; parts = refl; outside = refl; short = lit≤ tt })
fixed_shape fixed.Semicolon = inr (record { first = 59; rest = []; parts = refl; outside = refl; short = lit≤ tt })
fixed_shape fixed.Colon = inr (record { first = 58; rest = []; parts = refl; outside = refl; short = lit≤ tt })
fixed_shape fixed.Comma = inr (record { first = 44; rest = []; parts = refl; outside = refl; short = lit≤ tt })
fixed_shape fixed.Dot = inr (record { first = 46; rest = []; parts = refl; outside = refl; short = lit≤ tt })
fixed_shape fixed.Equal = inr (record { first = 61; rest = []; parts = refl; outside = refl; short = lit≤ tt })
fixed_shape fixed.NotEqual = inr (record { first = 33; rest = 61 ∷ []; parts = refl; outside = refl; short = lit≤ tt })
fixed_shape fixed.Assign = inr (record { first = 58; rest = 61 ∷ []; parts = refl; outside = refl; short = lit≤ tt })
fixed_shape fixed.Arrow = inr (record { first = 45; rest = 62 ∷ []; parts = refl; outside = refl; short = lit≤ tt })

pub shape : (w : Word) → IsWord w → (is_name (spelling w) ≡ true) ⊎ IsSign (spelling w)
shape (word.Name name) h = inl h.0
shape (word.Fixed f) h = fixed_shape f

pub record IsNamed (bytes : List ℕ) : Type 0 where
  pub first : ℕ
  pub rest : List ℕ
  pub parts : bytes ≡ first ∷ rest
  pub begins : begins_name first ≡ true
  pub inside : list_all is_in_name bytes ≡ true

or_in : (upper lower digit other : Bool) → ((upper || lower) || other) ≡ true → (((digit || upper) || lower) || other) ≡ true
or_in upper lower true other h = refl
or_in true lower false other h = refl
or_in false true false other h = refl
or_in false false false other h = h

begins_in : (b : ℕ) → begins_name b ≡ true → is_in_name b ≡ true
begins_in b h = or_in (is_in_range 65 90 b) (is_in_range 97 122 b) (is_in_range 48 57 b) (b == 95) h

pub named_some : (bytes : List ℕ) → is_name bytes ≡ true → 0 < length bytes
named_some [] h = absurd (false≢true h)
named_some (b ∷ bs) h = omega arith

pub named : (bytes : List ℕ) → is_name bytes ≡ true → IsNamed bytes
named [] h = absurd (false≢true h)
named (b ∷ bs) h =
    let parts = both (begins_name b) (list_all is_in_name bs) h in
    record { first = b; rest = bs; parts = refl; begins = parts.0; inside = rw (begins_in b parts.0) parts.1 }

-- ---- words that begin with a byte of a name

no_run : (bytes : List ℕ) (b : ℕ) (rest : List ℕ) → bytes ≡ b ∷ rest → is_in_name b ≡ false → prefix_len is_in_name bytes ≡ 0
no_run bytes b rest e h = ap (prefix_len is_in_name) e ∙ (rw h refl)

longest_run : (bytes : List ℕ) → 0 < prefix_len is_in_name bytes → (v : Word) (more : List ℕ) → IsWord v → bytes ≡ spelling v ++ more → length (spelling v) ≤ prefix_len is_in_name bytes
longest_run bytes some v more h e =
    elim (shape v h) [
      | inl n ↦ subst (λ (l : List ℕ). length (spelling v) ≤ prefix_len is_in_name l) (sym e) (run_covers is_in_name (spelling v) more (named (spelling v) n).inside)
      | inr s ↦
          let parts : bytes ≡ s.first ∷ (s.rest ++ more) = e ∙ ap (λ (l : List ℕ). l ++ more) s.parts in
          absurd (omega (arith, no_run bytes s.first (s.rest ++ more) parts s.outside))
    ]

word_at : (bytes : List ℕ) (w : Word) (n : ℕ) → n ≤ length bytes → IsWord w → spelling w ≡ take n bytes
    → ((v : Word) (more : List ℕ) → IsWord v → bytes ≡ spelling v ++ more → length (spelling v) ≤ n) → BeginsWith bytes w (length (spelling w))
word_at bytes w n within h e longest =
    let count : length (spelling w) ≡ n = ap length e ∙ length-take-le n bytes within in
    let parts : bytes ≡ spelling w ++ drop (length (spelling w)) bytes = sym (take-append-drop n bytes) ∙ ap (λ (l : List ℕ). l ++ drop n bytes) (sym e) ∙ ap (λ (m : ℕ). spelling w ++ drop m bytes) (sym count) in
    record {
      parts = parts;
      count = refl;
      longest = record { word = h; longest = λ v more i j. subst (λ (m : ℕ). length (spelling v) ≤ m) (sym count) (longest v more i (parts ∙ j)) };
    }

pub run_word : (bytes : List ℕ) (w : Word) (n : ℕ) → n ≡ prefix_len is_in_name bytes → 0 < n → IsWord w → spelling w ≡ take n bytes → BeginsWith bytes w (length (spelling w))
run_word bytes w n count some h e =
    word_at bytes w n (omega (arith, prefix_len-le-length is_in_name bytes)) h e (λ v more i j. omega (arith, longest_run bytes (omega arith) v more i j))

first_is : (bytes : List ℕ) (b : ℕ) (rest : List ℕ) → bytes ≡ b ∷ rest → get_or bytes 0 0 ≡ b
first_is bytes b rest e = ap (λ (l : List ℕ). get_or l 0 0) e

-- the run begins with a digit
pub run_no_word : (bytes : List ℕ) (n : ℕ) → n ≡ prefix_len is_in_name bytes → 0 < n → begins_name (get_or bytes 0 0) ≡ false → NoWord bytes
run_no_word bytes n count some digit v more h e =
    elim (shape v h) [
      | inl i ↦
          let name = named (spelling v) i in
          let parts : bytes ≡ name.first ∷ (name.rest ++ more) = e ∙ ap (λ (l : List ℕ). l ++ more) name.parts in
          false≢true (sym digit ∙ ap begins_name (first_is bytes name.first (name.rest ++ more) parts) ∙ name.begins)
      | inr s ↦
          let parts : bytes ≡ s.first ∷ (s.rest ++ more) = e ∙ ap (λ (l : List ℕ). l ++ more) s.parts in
          let none : prefix_len is_in_name bytes ≡ 0 = no_run bytes s.first (s.rest ++ more) parts s.outside in
          absurd (omega arith)
    ]

name_of_run : (bytes : List ℕ) (n : ℕ) → list_all is_in_name (take n bytes) ≡ true → 0 < n → 0 < length bytes → begins_name (get_or bytes 0 0) ≡ true → is_name (take n bytes) ≡ true
name_of_run [] n h some any begins = absurd (omega arith)
name_of_run (b ∷ bs) zero h some any begins = absurd (omega arith)
name_of_run (b ∷ bs) (suc n) h some any begins = rw begins (both (is_in_name b) (list_all is_in_name (take n bs)) h).1

pub run_is_name : (bytes name : List ℕ) (n : ℕ) → n ≡ prefix_len is_in_name bytes → 0 < n → begins_name (get_or bytes 0 0) ≡ true → name ≡ take n bytes → is_name name ≡ true
run_is_name bytes name n count some begins e =
    let passes : list_all is_in_name (take n bytes) ≡ true = ap (λ (m : ℕ). list_all is_in_name (take m bytes)) count ∙ run_passes is_in_name bytes in
    ap is_name e ∙ name_of_run bytes n passes some (omega (arith, prefix_len-le-length is_in_name bytes)) begins

-- ---- blanks and comments

pub blank_front : (bytes : List ℕ) (b : ℕ) (behind : List ℕ) → bytes ≡ b ∷ behind → is_blank b ≡ true → IsFront bytes (blank b) 1
blank_front bytes b behind e h = rw e (record { parts = refl; count = refl; stands = h })

pub comment_front : (bytes : List ℕ) (n b : ℕ) (behind : List ℕ) → bytes ≡ b ∷ behind → b ≡ 35 → CommentOf behind (Ok n) → IsFront bytes (comment (take n behind)) (n + 1)
comment_front bytes n b behind e h found =
    let more : n + 1 ≡ suc n = omega arith in
    rw (e, more, h) (record {
      parts = ap (λ (l : List ℕ). 35 ∷ l) (sym (take-append-drop n behind));
      count = ap suc (sym (length-take-le n behind found.2));
      stands = (found.0, found.1);
    })

ends_where_it_stops : (bytes : List ℕ) → Stops is_in_comment bytes → EndsComment bytes
ends_where_it_stops [] h = tt
ends_where_it_stops (b ∷ bs) h = grind (arith, nat_tests)

pub run_comment : (bytes : List ℕ) (n : ℕ) → n ≡ prefix_len is_in_comment bytes → IsComment (take n bytes) (drop n bytes)
run_comment bytes n count = record {
  line = ap (λ (m : ℕ). list_all is_in_comment (take m bytes)) count ∙ run_passes is_in_comment bytes;
  ends = ends_where_it_stops (drop n bytes) (subst (λ (m : ℕ). Stops is_in_comment (drop m bytes)) (sym count) (run_stops is_in_comment bytes));
}

pub named_word : (bytes name : List ℕ) (n : ℕ) → n ≡ prefix_len is_in_name bytes → 0 < n → begins_name (get_or bytes 0 0) ≡ true → name ≡ take n bytes → ((f : Fixed) → fixed_bytes f ≢ take n bytes)
    → BeginsWith bytes (word.Name name) (length name)
named_word bytes name n count some begins e free =
    run_word bytes (word.Name name) n count some (run_is_name bytes name n count some begins e, λ f i. free f (i ∙ e)) e

pub long_word : (bytes : List ℕ) (n : ℕ) → n ≡ prefix_len is_in_name bytes → 0 < n → (0 < length (take n bytes) × length (take n bytes) ≤ 64 → ⊥) → 64 < length (take n bytes)
long_word bytes n count some short =
    let len : length (take n bytes) ≡ n = length-take-le n bytes (omega (arith, prefix_len-le-length is_in_name bytes)) in
    elim (cases_lt 64 (length (take n bytes))) [ inl lt ↦ lt | inr le ↦ absurd (short (omega arith, le)) ]

-- ---- no reserved word or sign is long

pub fixed_short : (f : Fixed) → length (fixed_bytes f) ≤ 64
fixed_short fixed.System = lit≤ tt
fixed_short fixed.Sort = lit≤ tt
fixed_short fixed.Total = lit≤ tt
fixed_short fixed.Nullable = lit≤ tt
fixed_short fixed.Const = lit≤ tt
fixed_short fixed.Var = lit≤ tt
fixed_short fixed.Relation = lit≤ tt
fixed_short fixed.Step = lit≤ tt
fixed_short fixed.Row = lit≤ tt
fixed_short fixed.Param = lit≤ tt
fixed_short fixed.When = lit≤ tt
fixed_short fixed.Or = lit≤ tt
fixed_short fixed.And = lit≤ tt
fixed_short fixed.True = lit≤ tt
fixed_short fixed.Undef = lit≤ tt
fixed_short fixed.Each = lit≤ tt
fixed_short fixed.If = lit≤ tt
fixed_short fixed.Unsafe = lit≤ tt
fixed_short fixed.OpenBrace = lit≤ tt
fixed_short fixed.CloseBrace = lit≤ tt
fixed_short fixed.OpenParen = lit≤ tt
fixed_short fixed.CloseParen = lit≤ tt
fixed_short fixed.Semicolon = lit≤ tt
fixed_short fixed.Colon = lit≤ tt
fixed_short fixed.Comma = lit≤ tt
fixed_short fixed.Dot = lit≤ tt
fixed_short fixed.Equal = lit≤ tt
fixed_short fixed.NotEqual = lit≤ tt
fixed_short fixed.Assign = lit≤ tt
fixed_short fixed.Arrow = lit≤ tt
