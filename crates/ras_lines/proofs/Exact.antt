-- Readers that decide exactly where a list begins with a value's text.
use Rattle.std.proofs.Common.{◌≡◌, ℕ, zero, suc, ◌^◌, ◌<◌, List, [], ◌∷◌, ◌++◌, length, take, drop, Bool, true, false, cond, ltb, refl, sym, ap, subst, ◌∙◌, arith, append_assoc, take_at, drop_at, take-append-drop}
use Rattle.std.specs.Prelude.{Option, Some, None, Ok, Err}
use Rattle.std.specs.Str.{all_ascii_digits}
use Rattle.std.specs.Char.{is_ascii_digit}
use Rattle.std.specs.List.{flat_map, AllByRecursion}
use Rattle.std.specs.Fmt.{decimal}
use Rattle.std.proofs.lemmas.Bool.{ltb-true, lt-ltb, and_parts}
use Rattle.std.proofs.lemmas.Fmt.{digits_decimal}
use Rattle.ras_lines.specs.Numeral.{number_of}
use Rattle.ras_lines.specs.Lines.{AreWritten}
use Rattle.ras_lines.specs.Fronts.{Front, follow, chain, prepend, times, IsExact}
use Rattle.ras_lines.specs.Numbers.{behind, either, fixed, digit_count, number_or, number, if_small, small_number, behind_blank, announced}
use Rattle.ras_lines.proofs.Behind.{behind_sound, behind-append}
use Rattle.ras_lines.proofs.Numbers as numbers

-- Of two things that were read one after the other, the first was read.
pub followed : {T X Y : Type 0} (o : Front T X) (f : X → List T → Front T Y) (y : Y) (rest : List T) → follow o f ≡ Ok (y, rest)
    → (x : X) × (mid : List T) × (o ≡ Ok (x, mid)) × (f x mid ≡ Ok (y, rest))
followed (Ok p) f y rest e = (p.0, p.1, refl, e)
followed (Err left) f y rest e = absurd cc

-- a text and what holds of the value, for a value and a rest that are the same
pub moved : {T X : Type 0} (text : X → List T) (Valid : X → Type 0) (ts : List T) (x y : X) (mid rest : List T) → ◌≡◌ {A = Front T X} (Ok (x, mid)) (Ok (y, rest))
    → ts ≡ text x ++ mid → Valid x → (ts ≡ text y ++ rest) × Valid y
moved {T} {X} text Valid ts x y mid rest e parts valid =
    let a : x ≡ y = ap (λ (o : Front T X). elim o [ Ok p ↦ p.0 | Err left ↦ x ]) e in
    let b : mid ≡ rest = ap (λ (o : Front T X). elim o [ Ok p ↦ p.1 | Err left ↦ mid ]) e in
    (parts ∙ ap (λ (z : X). text z ++ mid) a ∙ ap (λ (l : List T). text y ++ l) b, subst Valid a valid)

pub either_case : {X : Type 0} (o : Option (List ℕ)) (f : List ℕ → X) (x : X) (P : X → Type 0) → ((rest : List ℕ) → o ≡ Some rest → P (f rest)) → P x → P (either o f x)
either_case (Some rest) f x P some none = some rest refl
either_case None f x P some none = none

-- one text behind another
pub joined : {T : Type 0} (a b : List T) (ts mid rest : List T) → ts ≡ a ++ mid → mid ≡ b ++ rest → ts ≡ (a ++ b) ++ rest
joined {T} a b ts mid rest one two = one ∙ ap (λ (l : List T). a ++ l) two ∙ sym (append_assoc a b rest)

-- Fixed bytes.

pub fixed_sound : (word bytes rest : List ℕ) (u : Unit {0}) → fixed word bytes ≡ Ok (u, rest) → bytes ≡ word ++ rest
fixed_sound word bytes rest u =
    either_case (behind word bytes) (λ r. Ok (tt, r)) (Err bytes) (λ (o : Front ℕ (Unit {0})). o ≡ Ok (u, rest) → bytes ≡ word ++ rest)
    (λ r is e. (moved (λ _. word) (λ _. Unit {0}) bytes tt u r rest e (behind_sound word bytes r is) tt).0)
    (λ e. absurd cc)

pub fixed_again : (word rest : List ℕ) → fixed word (word ++ rest) ≡ Ok (tt, rest)
fixed_again word rest = rw (behind-append word rest) refl

-- Numbers.

-- no digit comes next
abbrev pub NoDigit : List ℕ → Type 0
NoDigit [] = Unit {0}
NoDigit (b ∷ bytes) = is_ascii_digit b ≡ false

digits_all : (ds rest : List ℕ) → all_ascii_digits ds ≡ true → NoDigit rest → digit_count (ds ++ rest) ≡ length ds
digits_all [] [] h none = refl
digits_all [] (b ∷ rest) h none = rw none refl
digits_all (d ∷ ds) rest h none = let p = and_parts (is_ascii_digit d) (all_ascii_digits ds) h in rw (p.0) (ap suc (digits_all ds rest p.1 none))

pub number_again : (n : ℕ) (rest : List ℕ) → n < 2 ^ 32 → NoDigit rest → number (decimal n ++ rest) ≡ Ok (n, rest)
number_again n rest lt none =
    let bytes : List ℕ = decimal n ++ rest in
    let count : digit_count bytes ≡ length (decimal n) = digits_all (decimal n) rest (digits_decimal numbers.own n (omega (arith, lt))) none in
    ap (λ (k : ℕ). number_or bytes (drop k bytes) (number_of (take k bytes))) count
    ∙ ap (λ (w : List ℕ). number_or bytes (drop (length (decimal n)) bytes) (number_of w)) (take_at (decimal n) rest (length (decimal n)) refl)
    ∙ ap (λ (l : List ℕ). number_or bytes l (number_of (decimal n))) (drop_at (decimal n) rest (length (decimal n)) refl)
    ∙ ap (number_or bytes rest) (numbers.number_again n lt)

number_case : (bytes front back rest : List ℕ) (n : ℕ) (o : Option ℕ) → number_of front ≡ o → bytes ≡ front ++ back → number_or bytes back o ≡ Ok (n, rest) → (bytes ≡ decimal n ++ rest) × (n < 2 ^ 32)
number_case bytes front back rest n None is parts e = absurd cc
number_case bytes front back rest n (Some m) is parts e =
    let known = numbers.number_is front m is in
    moved decimal (λ k. k < 2 ^ 32) bytes m n back rest e (parts ∙ ap (λ (w : List ℕ). w ++ back) known.0) known.1

pub number_sound : (bytes rest : List ℕ) (n : ℕ) → number bytes ≡ Ok (n, rest) → (bytes ≡ decimal n ++ rest) × (n < 2 ^ 32)
number_sound bytes rest n e =
    number_case bytes (take (digit_count bytes) bytes) (drop (digit_count bytes) bytes) rest n (number_of (take (digit_count bytes) bytes)) refl (sym (take-append-drop (digit_count bytes) bytes)) e

pub small_again : (n : ℕ) (rest : List ℕ) → n < 2 ^ 16 → NoDigit rest → small_number (decimal n ++ rest) ≡ Ok (n, rest)
small_again n rest lt none =
    let small : ltb n (2 ^ 16) ≡ true = lt-ltb n (2 ^ 16) lt in
    rw (number_again n rest (omega (arith, lt)) none, small) refl

small_case : (n m : ℕ) (rest mid : List ℕ) (v : Bool) → ltb n (2 ^ 16) ≡ v → (let o : Front ℕ ℕ = cond v (Ok (n, mid)) (Err mid) in o) ≡ Ok (m, rest) → (n < 2 ^ 16) × (◌≡◌ {A = Front ℕ ℕ} (Ok (n, mid)) (Ok (m, rest)))
small_case n m rest mid true is e = (ltb-true n (2 ^ 16) is, e)
small_case n m rest mid false is e = absurd cc

pub small_sound : (bytes rest : List ℕ) (n : ℕ) → small_number bytes ≡ Ok (n, rest) → (bytes ≡ decimal n ++ rest) × (n < 2 ^ 16)
small_sound bytes rest n e =
    let s = followed (number bytes) if_small n rest e in
    let c = small_case s.0 n rest s.1 (ltb s.0 (2 ^ 16)) refl s.3 in
    moved decimal (λ k. k < 2 ^ 16) bytes s.0 n s.1 rest c.1 (number_sound bytes s.1 s.0 s.2).0 c.0

-- Words, each behind a blank.

-- a word ends there
abbrev pub EndsWord : List ℕ → Type 0
EndsWord [] = Unit {0}
EndsWord (b ∷ bytes) = b ≡ 32

pub after_word : (P : List ℕ → Type 0) → P [] → ((bytes : List ℕ) → P (32 ∷ bytes)) → (rest : List ℕ) → EndsWord rest → P rest
after_word P nil blank [] h = nil
after_word P nil blank (b ∷ bytes) h = subst (λ (c : ℕ). P (c ∷ bytes)) (sym h) (blank bytes)

pub no_digit : (rest : List ℕ) → EndsWord rest → NoDigit rest
no_digit rest h = after_word NoDigit tt (λ bytes. refl) rest h

pub number_exact : IsExact EndsWord decimal (λ n. n < 2 ^ 32) number
number_exact = record { sound = λ bytes n rest e. number_sound bytes rest n e; again = λ n rest lt ends. number_again n rest lt (no_digit rest ends) }

abbrev pub blank_word : {X : Type 0} → (X → List ℕ) → X → List ℕ
blank_word word x = 32 ∷ word x

pub blank_exact : {X : Type 0} (word : X → List ℕ) (Valid : X → Type 0) (f : List ℕ → Front ℕ X) → IsExact EndsWord word Valid f → IsExact EndsWord (blank_word word) Valid (behind_blank f)
blank_exact word Valid f exact = record {
  sound = λ bytes x rest e.
      let s = followed (fixed (32 ∷ []) bytes) (λ _ more. f more) x rest e in
      let inner = exact.sound s.1 x rest s.3 in
      (joined (32 ∷ []) (word x) bytes s.1 rest (fixed_sound (32 ∷ []) bytes s.1 s.0 s.2) inner.0, inner.1);
  again = λ x rest valid ends. exact.again x rest valid ends;
}

-- So many, one after the other.

pub prepended : {T X : Type 0} (xs : List X) (o : Front T (List X)) (ys : List X) (rest : List T) → prepend xs o ≡ Ok (ys, rest) → (zs : List X) × (o ≡ Ok (zs, rest)) × (ys ≡ xs ++ zs)
prepended {T} {X} xs (Ok p) ys rest e =
    let a : xs ++ p.0 ≡ ys = ap (λ (o : Front T (List X)). elim o [ Ok q ↦ q.0 | Err left ↦ xs ]) e in
    let b : p.1 ≡ rest = ap (λ (o : Front T (List X)). elim o [ Ok q ↦ q.1 | Err left ↦ rest ]) e in
    (p.0, ap (λ (l : List T). let o : Front T (List X) = Ok (p.0, l) in o) b, sym a)
prepended xs (Err left) ys rest e = absurd cc

pub record AreRead {T X : Type 0} (text : X → List T) (Valid : X → Type 0) (n : ℕ) (ts : List T) (xs : List X) (rest : List T) : Type 0 where
  pub parts : ts ≡ flat_map text xs ++ rest
  pub valid : AllByRecursion Valid xs
  pub count : length xs ≡ n

read_more : {T X : Type 0} (text : X → List T) (Valid : X → Type 0) (n : ℕ) (ts mid rest : List T) (x : X) (xs ys : List X) → ts ≡ text x ++ mid → Valid x → AreRead text Valid n mid xs rest → ys ≡ x ∷ xs
    → AreRead text Valid (suc n) ts ys rest
read_more {T} {X} text Valid n ts mid rest x xs ys parts valid h e =
    subst (λ (zs : List X). AreRead text Valid (suc n) ts zs rest) (sym e)
    (record { parts = joined (text x) (flat_map text xs) ts mid rest parts h.parts; valid = (valid, h.valid); count = ap suc h.count })

pub times_sound : {T X : Type 0} (May : List T → Type 0) (text : X → List T) (Valid : X → Type 0) (f : List T → Front T X) → IsExact May text Valid f
    → (n : ℕ) (ts : List T) (xs : List X) (rest : List T) → times f n ts ≡ Ok (xs, rest) → AreRead text Valid n ts xs rest
times_sound {T} {X} May text Valid f exact zero ts xs rest e =
    let a : [] ≡ xs = ap (λ (o : Front T (List X)). elim o [ Ok q ↦ q.0 | Err left ↦ [] ]) e in
    let b : ts ≡ rest = ap (λ (o : Front T (List X)). elim o [ Ok q ↦ q.1 | Err left ↦ ts ]) e in
    subst (λ (ys : List X). AreRead text Valid 0 ts ys rest) a (record { parts = b; valid = tt; count = refl })
times_sound {T} {X} May text Valid f exact (suc n) ts xs rest e =
    let s = followed (f ts) (λ x more. prepend (x ∷ []) (times f n more)) xs rest e in
    let p = prepended (s.0 ∷ []) (times f n s.1) xs rest s.3 in
    let one = exact.sound ts s.0 s.1 s.2 in
    read_more text Valid n ts s.1 rest s.0 p.0 xs one.0 one.1 (times_sound May text Valid f exact n s.1 p.0 rest p.1) p.2

pub may_follow : {T X : Type 0} (May : List T → Type 0) (text : X → List T) → ((x : X) (rest : List T) → May (text x ++ rest)) → (xs : List X) (rest : List T) → May rest → May (flat_map text xs ++ rest)
may_follow May text each [] rest h = h
may_follow {T} {X} May text each (x ∷ xs) rest h = subst May (sym (append_assoc (text x) (flat_map text xs) rest)) (each x (flat_map text xs ++ rest))

pub times_again : {T X : Type 0} (May : List T → Type 0) (text : X → List T) (Valid : X → Type 0) (f : List T → Front T X) → IsExact May text Valid f → ((x : X) (rest : List T) → May (text x ++ rest))
    → (xs : List X) (rest : List T) → AllByRecursion Valid xs → May rest → times f (length xs) (flat_map text xs ++ rest) ≡ Ok (xs, rest)
times_again May text Valid f exact each [] rest valid h = refl
times_again {T} {X} May text Valid f exact each (x ∷ xs) rest valid h =
    ap (λ (l : List T). times f (suc (length xs)) l) (append_assoc (text x) (flat_map text xs) rest)
    ∙ ap (λ (o : Front T X). follow o (λ y more. prepend (y ∷ []) (times f (length xs) more))) (exact.again x (flat_map text xs ++ rest) valid.0 (may_follow May text each xs rest h))
    ∙ ap (prepend (x ∷ [])) (times_again May text Valid f exact each xs rest valid.1 h)

-- a count, and so many words
abbrev pub announced_text : {X : Type 0} → (X → List ℕ) → List X → List ℕ
announced_text word xs = blank_word decimal (length xs) ++ flat_map (blank_word word) xs

pub announced_exact : {X : Type 0} (word : X → List ℕ) (Valid : X → Type 0) (f : List ℕ → Front ℕ X) → IsExact EndsWord word Valid f
    → IsExact EndsWord (announced_text word) (AreWritten Valid) (announced f)
announced_exact {X} word Valid f exact = record {
  sound = λ bytes xs rest e.
      let s = followed (behind_blank number bytes) (λ n more. times (behind_blank f) n more) xs rest e in
      let count = (blank_exact decimal (λ n. n < 2 ^ 32) number number_exact).sound bytes s.0 s.1 s.2 in
      let all = times_sound EndsWord (blank_word word) Valid (behind_blank f) (blank_exact word Valid f exact) s.0 s.1 xs rest s.3 in
      let named : bytes ≡ blank_word decimal (length xs) ++ s.1 = count.0 ∙ ap (λ (n : ℕ). blank_word decimal n ++ s.1) (sym all.count) in
      (joined (blank_word decimal (length xs)) (flat_map (blank_word word) xs) bytes s.1 rest named all.parts, record { count = omega (arith, all.count, count.1); each = all.valid });
  again = λ xs rest valid ends.
      let behind_count : List ℕ = flat_map (blank_word word) xs ++ rest in
      let ends_count : EndsWord behind_count = may_follow EndsWord (blank_word word) (λ x more. refl) xs rest ends in
      ap (announced f) (append_assoc (blank_word decimal (length xs)) (flat_map (blank_word word) xs) rest)
      ∙ ap (λ (o : Front ℕ ℕ). follow o (λ n more. times (behind_blank f) n more)) (number_again (length xs) behind_count valid.count (no_digit behind_count ends_count))
      ∙ times_again EndsWord (blank_word word) Valid (behind_blank f) (blank_exact word Valid f exact) (λ x more. refl) xs rest valid.each ends;
}

-- Two things, one after the other, that make one value.
module _ {T X Y Z : Type 0} (make : X → Y → Z) (first : Z → X) (second : Z → Y) (first_is : (x : X) (y : Y) → first (make x y) ≡ x) (second_is : (x : X) (y : Y) → second (make x y) ≡ y)
    (whole_is : (z : Z) → make (first z) (second z) ≡ z) (Between May : List T → Type 0) (one : X → List T) (V : X → Type 0) (f : List T → Front T X) (f_exact : IsExact Between one V f)
    (two : Y → List T) (W : Y → Type 0) (g : List T → Front T Y) (g_exact : IsExact May two W g) (between : (y : Y) (rest : List T) → May rest → Between (two y ++ rest)) where
  abbrev chain_text : Z → List T
  chain_text z = one (first z) ++ two (second z)

  abbrev ChainValid : Z → Type 0
  ChainValid z = V (first z) × W (second z)

  abbrev behind_first : X → List T → Front T Z
  behind_first x more = follow (g more) (λ y rest. Ok (make x y, rest))

  chain_sound : (ts : List T) (z : Z) (rest : List T) → chain make f g ts ≡ Ok (z, rest) → (ts ≡ chain_text z ++ rest) × ChainValid z
  chain_sound ts z rest e =
      let s = followed (f ts) behind_first z rest e in
      let t = followed (g s.1) (λ y r. let o : Front T Z = Ok (make s.0 y, r) in o) z rest s.3 in
      let a = f_exact.sound ts s.0 s.1 s.2 in
      let b = g_exact.sound s.1 t.0 t.1 t.2 in
      let text : chain_text (make s.0 t.0) ≡ one s.0 ++ two t.0 = ap (λ (k : X). one k ++ two (second (make s.0 t.0))) (first_is s.0 t.0) ∙ ap (λ (k : Y). one s.0 ++ two k) (second_is s.0 t.0) in
      moved chain_text ChainValid ts (make s.0 t.0) z t.1 rest t.3 (joined (one s.0) (two t.0) ts s.1 t.1 a.0 b.0 ∙ ap (λ (l : List T). l ++ t.1) (sym text))
      (subst V (sym (first_is s.0 t.0)) a.1, subst W (sym (second_is s.0 t.0)) b.1)

  chain_again : (z : Z) (rest : List T) → ChainValid z → May rest → chain make f g (chain_text z ++ rest) ≡ Ok (z, rest)
  chain_again z rest valid may =
      ap (chain make f g) (append_assoc (one (first z)) (two (second z)) rest)
      ∙ ap (λ (o : Front T X). follow o behind_first) (f_exact.again (first z) (two (second z) ++ rest) valid.0 (between (second z) rest may))
      ∙ ap (λ (o : Front T Y). follow o (λ y r. let o : Front T Z = Ok (make (first z) y, r) in o)) (g_exact.again (second z) rest valid.1 may)
      ∙ ap (λ (k : Z). let o : Front T Z = Ok (k, rest) in o) (whole_is z)

  pub chain_reads : IsExact May chain_text ChainValid (chain make f g)
  chain_reads = record { sound = chain_sound; again = chain_again }

-- the same text and condition, said otherwise
pub said_otherwise : {T X : Type 0} (May : List T → Type 0) (text other : X → List T) (V W : X → Type 0) (f : List T → Front T X) → ((x : X) → text x ≡ other x) → ((x : X) → V x → W x) → ((x : X) → W x → V x)
    → IsExact May text V f → IsExact May other W f
said_otherwise {T} {X} May text other V W f same to from exact = record {
  sound = λ ts x rest e. let s = exact.sound ts x rest e in (s.0 ∙ ap (λ (l : List T). l ++ rest) (same x), to x s.1);
  again = λ x rest valid may. ap (λ (l : List T). f (l ++ rest)) (sym (same x)) ∙ exact.again x rest (from x valid) may;
}

-- fixed bytes, and what stands behind them
pub fixed_any : (word : List ℕ) → IsExact (λ (l : List ℕ). Unit {0}) (λ (u : Unit {0}). word) (λ _. Unit {0}) (fixed word)
fixed_any word = record { sound = λ bytes u rest e. (fixed_sound word bytes rest u e, tt); again = λ u rest valid ends. fixed_again word rest }

pub fixed_first : {X : Type 0} (word : List ℕ) (May : List ℕ → Type 0) (text : X → List ℕ) (V : X → Type 0) (f : List ℕ → Front ℕ X) → IsExact May text V f
    → IsExact May (λ x. word ++ text x) V (chain (λ _ x. x) (fixed word) f)
fixed_first {X} word May text V f exact =
    said_otherwise May (λ x. word ++ text x) (λ x. word ++ text x) (λ x. Unit {0} × V x) V (chain (λ _ x. x) (fixed word) f) (λ x. refl) (λ x v. v.1) (λ x v. (tt, v))
    (chain_reads (λ _ x. x) (λ x. tt) (λ x. x) (λ u x. refl) (λ u x. refl) (λ x. refl) (λ l. Unit {0}) May (λ _. word) (λ _. Unit {0}) (fixed word) (fixed_any word) text V f exact (λ y rest may. tt))

-- words behind blanks end where the next begins
pub ends_before : {X : Type 0} (word : X → List ℕ) (x : X) (rest : List ℕ) → EndsWord rest → EndsWord (blank_word word x ++ rest)
ends_before word x rest ends = refl
