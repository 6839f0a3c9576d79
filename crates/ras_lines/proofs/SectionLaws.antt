-- Texts of lines are read exactly, up to the first line that does not fit.
use Rattle.std.proofs.Common.{◌≡◌, ℕ, zero, suc, ◌^◌, ◌<◌, List, [], ◌∷◌, ◌++◌, length, refl, sym, ap, subst, ◌∙◌, arith, append_assoc, append-nil, map}
use Rattle.std.specs.Prelude.{Ok, Err}
use Rattle.std.specs.List.{flat_map, AllByRecursion}
use Rattle.std.specs.Fmt.{decimal}
use Rattle.ras_lines.specs.Lines.{count_line, numbers_line, AreWritten}
use Rattle.ras_lines.specs.Trees.{IsWrittenNumber}
use Rattle.ras_lines.specs.Lines as texts
use Rattle.ras_lines.specs.Faults.{IsMisfit}
use Rattle.ras_lines.specs.Fronts.{Front, follow, prepend, times, chain, IsExact}
use Rattle.ras_lines.specs.Numbers.{fixed, number, behind_blank, announced}
use Rattle.ras_lines.specs.Sections.{whole, at_line, count, numbers, section, nothing, only}
use Rattle.ras_lines.proofs.Exact.{followed, moved, joined, fixed_sound, fixed_again, EndsWord, number_exact, blank_word, blank_exact, announced_text, announced_exact, times_sound, times_again, said_otherwise}
use Rattle.ras_lines.proofs.FormulaLaws.{spaced-counted}

abbrev pub Line : Type 0
Line = List ℕ

abbrev pub Any : List Line → Type 0
Any lines = Unit {0}

-- Where a reader stops: the lines before begin some value's text, and it stops there whatever comes behind the line.
pub record Stops {X : Type 0} (text : X → List Line) (Valid : X → Type 0) (f : List Line → Front Line X) (lines left : List Line) : Type 0 where
  pub front : List Line
  pub parts : lines ≡ front ++ left
  pub value : X
  pub more : List Line
  pub valid : Valid value
  pub begins : text value ≡ front ++ more
  pub dead : (line : Line) (behind other : List Line) → left ≡ line ∷ behind → f (front ++ line ∷ other) ≡ Err (line ∷ other)

pub record IsExactText {X : Type 0} (text : X → List Line) (Valid : X → Type 0) (f : List Line → Front Line X) : Type 0 where
  pub reads : IsExact Any text Valid f
  pub stops : (lines left : List Line) → f lines ≡ Err left → Stops text Valid f lines left

err_is : {X : Type 0} (left mine : List Line) → ◌≡◌ {A = Front Line X} (Err mine) (Err left) → mine ≡ left
err_is {X = X} left mine e = ap (λ (o : Front Line X). elim o [ Ok p ↦ mine | Err l ↦ l ]) e

first_same : (line : Line) (behind : List Line) (l : Line) (ls : List Line) → l ∷ ls ≡ line ∷ behind → l ≡ line
first_same line behind l ls e = cc

-- A line.

whole_sound : {X : Type 0} (word : X → List ℕ) (Valid : X → Type 0) (l : Line) (ls : List Line) (o : Front ℕ X) → ((x : X) (rest : List ℕ) → o ≡ Ok (x, rest) → (l ≡ word x ++ rest) × Valid x)
    → (x : X) (rest : List Line) → whole (l ∷ ls) ls o ≡ Ok (x, rest) → (l ∷ ls ≡ (word x ∷ []) ++ rest) × Valid x
whole_sound {X} word Valid l ls (Ok (y, [])) on x rest e =
    let s = on y [] refl in
    moved (λ z. word z ∷ []) Valid (l ∷ ls) y x ls rest e (ap (λ (k : Line). k ∷ ls) (s.0 ∙ append-nil (word y))) s.1
whole_sound word Valid l ls (Ok (y, b ∷ bs)) on x rest e = absurd cc
whole_sound word Valid l ls (Err left) on x rest e = absurd cc

whole_err : {X : Type 0} (l : Line) (ls left : List Line) (o : Front ℕ X) → whole (l ∷ ls) ls o ≡ Err left → (l ∷ ls ≡ left) × ((other : List Line) → whole (l ∷ other) other o ≡ Err (l ∷ other))
whole_err l ls left (Ok (y, [])) e = absurd cc
whole_err {X} l ls left (Ok (y, b ∷ bs)) e = (err_is {X = X} left (l ∷ ls) e, λ other. refl)
whole_err {X} l ls left (Err bytes) e = (err_is {X = X} left (l ∷ ls) e, λ other. refl)

line_sound : {X : Type 0} (word : X → List ℕ) (Valid : X → Type 0) (g : List ℕ → Front ℕ X) → IsExact EndsWord word Valid g
    → (lines : List Line) (x : X) (rest : List Line) → at_line g lines ≡ Ok (x, rest) → (lines ≡ (word x ∷ []) ++ rest) × Valid x
line_sound word Valid g exact [] x rest e = absurd cc
line_sound word Valid g exact (l ∷ ls) x rest e = whole_sound word Valid l ls (g l) (exact.sound l) x rest e

line_again : {X : Type 0} (word : X → List ℕ) (Valid : X → Type 0) (g : List ℕ → Front ℕ X) → IsExact EndsWord word Valid g
    → (x : X) (rest : List Line) → Valid x → at_line g (word x ∷ rest) ≡ Ok (x, rest)
line_again {X} word Valid g exact x rest valid =
    let e : g (word x) ≡ Ok (x, []) = ap g (sym (append-nil (word x))) ∙ exact.again x [] valid tt in
    ap (whole (word x ∷ rest) rest) e

line_err : {X : Type 0} (g : List ℕ → Front ℕ X) (lines left : List Line) → at_line g lines ≡ Err left
    → (lines ≡ left) × ((line : Line) (behind other : List Line) → left ≡ line ∷ behind → at_line g (line ∷ other) ≡ Err (line ∷ other))
line_err {X} g [] left e = (err_is {X = X} left [] e, λ line behind other same. absurd (let none : [] ≡ line ∷ behind = err_is {X = X} left [] e ∙ same in cc))
line_err {X} g (l ∷ ls) left e =
    let w = whole_err l ls left (g l) e in
    (w.0, λ line behind other same. subst (λ (k : Line). at_line g (k ∷ other) ≡ Err (k ∷ other)) (first_same line behind l ls (w.0 ∙ same)) (w.1 other))

line_stops : {X : Type 0} (word : X → List ℕ) (Valid : X → Type 0) (g : List ℕ → Front ℕ X) (some : X) → Valid some
    → (lines left : List Line) → at_line g lines ≡ Err left → Stops (λ x. word x ∷ []) Valid (at_line g) lines left
line_stops word Valid g some valid lines left e =
    let l = line_err g lines left e in
    record { front = []; parts = l.0; value = some; more = word some ∷ []; valid = valid; begins = refl; dead = l.1 }

pub line_exact : {X : Type 0} (word : X → List ℕ) (Valid : X → Type 0) (g : List ℕ → Front ℕ X) → IsExact EndsWord word Valid g → (some : X) → Valid some → IsExactText (λ x. word x ∷ []) Valid (at_line g)
line_exact word Valid g exact some valid = record {
  reads = record { sound = line_sound word Valid g exact; again = λ x rest v any. line_again word Valid g exact x rest v };
  stops = line_stops word Valid g some valid;
}

-- So many values, one after the other.

pub record AreCounted {X : Type 0} (Valid : X → Type 0) (n : ℕ) (xs : List X) : Type 0 where
  pub count : length xs ≡ n
  pub each : AllByRecursion Valid xs

filled : {X : Type 0} (Valid : X → Type 0) (some : X) → Valid some → (n : ℕ) → (xs : List X) × AreCounted Valid n xs
filled Valid some valid zero = ([], record { count = refl; each = tt })
filled Valid some valid (suc n) = let r = filled Valid some valid n in (some ∷ r.0, record { count = ap suc r.1.count; each = (valid, r.1.each) })

-- the stop of a first thing is the stop of both
stop_front : (a more text : List Line) (front : List Line) → a ≡ front ++ more → a ++ text ≡ front ++ (more ++ text)
stop_front a more text front e = ap (λ (l : List Line). l ++ text) e ∙ append_assoc front more text

-- a stop behind a first thing
stop_behind : (a b front more : List Line) → b ≡ front ++ more → a ++ b ≡ (a ++ front) ++ more
stop_behind a b front more e = ap (λ (l : List Line). a ++ l) e ∙ sym (append_assoc a front more)

prepend_err : {X : Type 0} (xs : List X) (o : Front Line (List X)) (left : List Line) → prepend xs o ≡ Err left → o ≡ Err left
prepend_err xs (Ok p) left e = absurd cc
prepend_err xs (Err l) left e = e

abbrev behind_one : {X : Type 0} → (List Line → Front Line X) → ℕ → X → List Line → Front Line (List X)
behind_one f n x rest = prepend (x ∷ []) (times f n rest)

pub times_stops : {X : Type 0} (text : X → List Line) (Valid : X → Type 0) (f : List Line → Front Line X) → IsExactText text Valid f → (some : X) → Valid some
    → (n : ℕ) (lines left : List Line) → times f n lines ≡ Err left → Stops (flat_map text) (AreCounted Valid n) (times f n) lines left
times_stops text Valid f exact some valid zero lines left e = absurd cc
times_stops {X} text Valid f exact some valid (suc n) lines left e = case (λ rest h. times_stops text Valid f exact some valid n rest left h) (f lines) refl e
  where
    case : ((rest : List Line) → times f n rest ≡ Err left → Stops (flat_map text) (AreCounted Valid n) (times f n) rest left)
        → (o : Front Line X) → f lines ≡ o → follow o (behind_one f n) ≡ Err left → Stops (flat_map text) (AreCounted Valid (suc n)) (times f (suc n)) lines left
    case on (Err l) is e =
        let s = exact.stops lines left (is ∙ ap (λ (k : List Line). let o : Front Line X = Err k in o) (err_is {X = List X} left l e)) in
        let others = filled Valid some valid n in
        record {
          front = s.front;
          parts = s.parts;
          value = s.value ∷ others.0;
          more = s.more ++ flat_map text others.0;
          valid = record { count = ap suc others.1.count; each = (s.valid, others.1.each) };
          begins = stop_front (text s.value) s.more (flat_map text others.0) s.front s.begins;
          dead = λ line behind other same. ap (λ (o : Front Line X). follow o (behind_one f n)) (s.dead line behind other same);
        }
    case on (Ok p) is e =
        let one = exact.reads.sound lines p.0 p.1 is in
        let s = on p.1 (prepend_err (p.0 ∷ []) (times f n p.1) left e) in
        record {
          front = text p.0 ++ s.front;
          parts = joined (text p.0) s.front lines p.1 left one.0 s.parts;
          value = p.0 ∷ s.value;
          more = s.more;
          valid = record { count = ap suc s.valid.count; each = (one.1, s.valid.each) };
          begins = stop_behind (text p.0) (flat_map text s.value) s.front s.more s.begins;
          dead = λ line behind other same.
              ap (times f (suc n)) (append_assoc (text p.0) s.front (line ∷ other))
              ∙ ap (λ (o : Front Line X). follow o (behind_one f n)) (exact.reads.again p.0 (s.front ++ line ∷ other) one.1 tt)
              ∙ ap (prepend (p.0 ∷ [])) (s.dead line behind other same);
        }

-- Two things, one after the other, that make one value.

follow_err : {X Y : Type 0} (make : X → Y) (o : Front Line X) (left : List Line) → follow o (λ x rest. let q : Front Line Y = Ok (make x, rest) in q) ≡ Err left → o ≡ Err left
follow_err make (Ok p) left e = absurd cc
follow_err {X} {Y} make (Err l) left e = ap (λ (k : List Line). let o : Front Line X = Err k in o) (err_is {X = Y} left l e)

module _ {X Y Z : Type 0} (make : X → Y → Z) (first : Z → X) (second : Z → Y) (first_is : (x : X) (y : Y) → first (make x y) ≡ x) (second_is : (x : X) (y : Y) → second (make x y) ≡ y)
    (whole_is : (z : Z) → make (first z) (second z) ≡ z) (one : X → List Line) (V : X → Type 0) (f : List Line → Front Line X) (f_exact : IsExactText one V f)
    (two : Y → List Line) (W : Y → Type 0) (g : List Line → Front Line Y) (g_exact : IsExactText two W g) (some : Y) (some_valid : W some) where
  abbrev text : Z → List Line
  text z = one (first z) ++ two (second z)

  abbrev Valid : Z → Type 0
  Valid z = V (first z) × W (second z)

  abbrev behind_first : X → List Line → Front Line Z
  behind_first x more = follow (g more) (λ y rest. Ok (make x y, rest))

  text_made : (x : X) (y : Y) → text (make x y) ≡ one x ++ two y
  text_made x y = ap (λ (k : X). one k ++ two (second (make x y))) (first_is x y) ∙ ap (λ (k : Y). one x ++ two k) (second_is x y)

  valid_made : (x : X) (y : Y) → V x → W y → Valid (make x y)
  valid_made x y v w = (subst V (sym (first_is x y)) v, subst W (sym (second_is x y)) w)

  chain_sound : (lines : List Line) (z : Z) (rest : List Line) → chain make f g lines ≡ Ok (z, rest) → (lines ≡ text z ++ rest) × Valid z
  chain_sound lines z rest e =
      let s = followed (f lines) behind_first z rest e in
      let t = followed (g s.1) (λ y r. let o : Front Line Z = Ok (make s.0 y, r) in o) z rest s.3 in
      let a = f_exact.reads.sound lines s.0 s.1 s.2 in
      let b = g_exact.reads.sound s.1 t.0 t.1 t.2 in
      moved text Valid lines (make s.0 t.0) z t.1 rest t.3 (joined (one s.0) (two t.0) lines s.1 t.1 a.0 b.0 ∙ ap (λ (l : List Line). l ++ t.1) (sym (text_made s.0 t.0))) (valid_made s.0 t.0 a.1 b.1)

  chain_again : (z : Z) (rest : List Line) → Valid z → chain make f g (text z ++ rest) ≡ Ok (z, rest)
  chain_again z rest valid =
      ap (chain make f g) (append_assoc (one (first z)) (two (second z)) rest)
      ∙ ap (λ (o : Front Line X). follow o behind_first) (f_exact.reads.again (first z) (two (second z) ++ rest) valid.0 tt)
      ∙ ap (λ (o : Front Line Y). follow o (λ y r. let o : Front Line Z = Ok (make (first z) y, r) in o)) (g_exact.reads.again (second z) rest valid.1 tt)
      ∙ ap (λ (k : Z). let o : Front Line Z = Ok (k, rest) in o) (whole_is z)

  chain_case : (lines left : List Line) (o : Front Line X) → f lines ≡ o → follow o behind_first ≡ Err left → Stops text Valid (chain make f g) lines left
  chain_case lines left (Err l) is e =
      let s = f_exact.stops lines left (is ∙ ap (λ (k : List Line). let o : Front Line X = Err k in o) (err_is {X = Z} left l e)) in
      record {
        front = s.front;
        parts = s.parts;
        value = make s.value some;
        more = s.more ++ two some;
        valid = valid_made s.value some s.valid some_valid;
        begins = text_made s.value some ∙ stop_front (one s.value) s.more (two some) s.front s.begins;
        dead = λ line behind other same. ap (λ (o : Front Line X). follow o behind_first) (s.dead line behind other same);
      }
  chain_case lines left (Ok p) is e =
      let a = f_exact.reads.sound lines p.0 p.1 is in
      let s = g_exact.stops p.1 left (follow_err (make p.0) (g p.1) left e) in
      record {
        front = one p.0 ++ s.front;
        parts = joined (one p.0) s.front lines p.1 left a.0 s.parts;
        value = make p.0 s.value;
        more = s.more;
        valid = valid_made p.0 s.value a.1 s.valid;
        begins = text_made p.0 s.value ∙ stop_behind (one p.0) (two s.value) s.front s.more s.begins;
        dead = λ line behind other same.
            ap (chain make f g) (append_assoc (one p.0) s.front (line ∷ other))
            ∙ ap (λ (o : Front Line X). follow o behind_first) (f_exact.reads.again p.0 (s.front ++ line ∷ other) a.1 tt)
            ∙ ap (λ (o : Front Line Y). follow o (λ y r. let o : Front Line Z = Ok (make p.0 y, r) in o)) (s.dead line behind other same);
      }

  pub chain_exact : IsExactText text Valid (chain make f g)
  chain_exact = record { reads = record { sound = chain_sound; again = λ z rest valid any. chain_again z rest valid }; stops = λ lines left e. chain_case lines left (f lines) refl e }

-- A line with a count, and so many values.

fixed_exact : (word : List ℕ) → IsExact EndsWord (λ (u : Unit {0}). word) (λ _. Unit {0}) (fixed word)
fixed_exact word = record { sound = λ bytes u rest e. (fixed_sound word bytes rest u e, tt); again = λ u rest valid ends. fixed_again word rest }

pub fixed_line : (word : List ℕ) → IsExactText (λ (u : Unit {0}). word ∷ []) (λ _. Unit {0}) (at_line (fixed word))
fixed_line word = line_exact (λ _. word) (λ _. Unit {0}) (fixed word) (fixed_exact word) tt tt

count_text : (word : List ℕ) (n : ℕ) → count_line word n ≡ word ++ blank_word decimal n
count_text word n = ap (λ (l : List ℕ). word ++ l) (append-nil (blank_word decimal n))

pub count_exact : (word : List ℕ) → IsExact EndsWord (count_line word) (λ n. n < 2 ^ 32) (count word)
count_exact word =
    let next = blank_exact decimal (λ n. n < 2 ^ 32) number number_exact in
    record {
      sound = λ bytes n rest e.
          let s = followed (fixed word bytes) (λ _ more. behind_blank number more) n rest e in
          let c = next.sound s.1 n rest s.3 in
          (joined word (blank_word decimal n) bytes s.1 rest (fixed_sound word bytes s.1 s.0 s.2) c.0 ∙ ap (λ (l : List ℕ). l ++ rest) (sym (count_text word n)), c.1);
      again = λ n rest lt ends.
          ap (λ (l : List ℕ). count word (l ++ rest)) (count_text word n) ∙ ap (count word) (append_assoc word (blank_word decimal n) rest)
          ∙ ap (λ (o : Front ℕ (Unit {0})). follow o (λ _ more. behind_blank number more)) (fixed_again word (blank_word decimal n ++ rest))
          ∙ next.again n rest lt ends;
    }

pub count_line_exact : (word : List ℕ) → IsExactText (λ n. count_line word n ∷ []) (λ n. n < 2 ^ 32) (at_line (count word))
count_line_exact word = line_exact (count_line word) (λ n. n < 2 ^ 32) (count word) (count_exact word) 0 (omega arith)

-- A line of a word, a count and so many numbers.

numbers_text : (word ns : List ℕ) → numbers_line word ns ≡ word ++ announced_text decimal ns
numbers_text word ns = ap (λ (l : List ℕ). word ++ l) (spaced-counted decimal ns)

numbers_exact : (word : List ℕ) → IsExact EndsWord (numbers_line word) (AreWritten IsWrittenNumber) (numbers word)
numbers_exact word =
    let all = announced_exact decimal IsWrittenNumber number number_exact in
    record {
      sound = λ bytes ns rest e.
          let s = followed (fixed word bytes) (λ _ more. announced number more) ns rest e in
          let c = all.sound s.1 ns rest s.3 in
          (joined word (announced_text decimal ns) bytes s.1 rest (fixed_sound word bytes s.1 s.0 s.2) c.0 ∙ ap (λ (l : List ℕ). l ++ rest) (sym (numbers_text word ns)), c.1);
      again = λ ns rest valid ends.
          ap (λ (l : List ℕ). numbers word (l ++ rest)) (numbers_text word ns) ∙ ap (numbers word) (append_assoc word (announced_text decimal ns) rest)
          ∙ ap (λ (o : Front ℕ (Unit {0})). follow o (λ _ more. announced number more)) (fixed_again word (announced_text decimal ns ++ rest))
          ∙ all.again ns rest valid ends;
    }

none_written : AreWritten IsWrittenNumber []
none_written = record { count = omega arith; each = tt }

pub numbers_line_exact : (word : List ℕ) → IsExactText (λ ns. numbers_line word ns ∷ []) (AreWritten IsWrittenNumber) (at_line (numbers word))
numbers_line_exact word = line_exact (numbers_line word) (AreWritten IsWrittenNumber) (numbers word) (numbers_exact word) [] none_written

module _ {X : Type 0} (word : List ℕ) (text : X → List Line) (Valid : X → Type 0) (f : List Line → Front Line X) (exact : IsExactText text Valid f) (some : X) (some_valid : Valid some) where
  abbrev pub section_text : List X → List Line
  section_text xs = count_line word (length xs) ∷ flat_map text xs

  counted_is : (n : ℕ) (xs : List X) → length xs ≡ n → count_line word n ≡ count_line word (length xs)
  counted_is n xs e = ap (count_line word) (sym e)

  section_sound : (lines : List Line) (xs : List X) (rest : List Line) → section word f lines ≡ Ok (xs, rest) → (lines ≡ section_text xs ++ rest) × AreWritten Valid xs
  section_sound lines xs rest e =
      let s = followed (at_line (count word) lines) (times f) xs rest e in
      let c = (count_line_exact word).reads.sound lines s.0 s.1 s.2 in
      let all = times_sound Any text Valid f exact.reads s.0 s.1 xs rest s.3 in (
        c.0 ∙ ap (λ (l : Line). l ∷ s.1) (counted_is s.0 xs all.count) ∙ ap (λ (ls : List Line). count_line word (length xs) ∷ ls) all.parts,
        record { count = omega (arith, all.count, c.1); each = all.valid },
      )

  section_again : (xs : List X) (rest : List Line) → AreWritten Valid xs → section word f (section_text xs ++ rest) ≡ Ok (xs, rest)
  section_again xs rest valid =
      ap (λ (o : Front Line ℕ). follow o (times f)) ((count_line_exact word).reads.again (length xs) (flat_map text xs ++ rest) valid.count tt)
      ∙ times_again Any text Valid f exact.reads (λ x more. tt) xs rest valid.each tt

  section_case : (lines left : List Line) (o : Front Line ℕ) → at_line (count word) lines ≡ o → follow o (times f) ≡ Err left → Stops section_text (AreWritten Valid) (section word f) lines left
  section_case lines left (Err l) is e =
      let s = line_err (count word) lines left (is ∙ ap (λ (k : List Line). let o : Front Line ℕ = Err k in o) (err_is {X = List X} left l e)) in
      record {
        front = [];
        parts = s.0;
        value = [];
        more = section_text [];
        valid = record { count = omega arith; each = tt };
        begins = refl;
        dead = λ line behind other same. ap (λ (o : Front Line ℕ). follow o (times f)) (s.1 line behind other same);
      }
  section_case lines left (Ok p) is e =
      let c = (count_line_exact word).reads.sound lines p.0 p.1 is in
      let s = times_stops text Valid f exact some some_valid p.0 p.1 left e in
      record {
        front = count_line word p.0 ∷ s.front;
        parts = c.0 ∙ ap (λ (ls : List Line). count_line word p.0 ∷ ls) s.parts;
        value = s.value;
        more = s.more;
        valid = record { count = omega (arith, s.valid.count, c.1); each = s.valid.each };
        begins = ap (λ (l : Line). l ∷ flat_map text s.value) (sym (counted_is p.0 s.value s.valid.count)) ∙ ap (λ (ls : List Line). count_line word p.0 ∷ ls) s.begins;
        dead = λ line behind other same.
            ap (λ (o : Front Line ℕ). follow o (times f)) ((count_line_exact word).reads.again p.0 (s.front ++ line ∷ other) c.1 tt) ∙ s.dead line behind other same;
      }

  pub section_exact : IsExactText section_text (AreWritten Valid) (section word f)
  section_exact = record { reads = record { sound = section_sound; again = λ xs rest valid any. section_again xs rest valid }; stops = λ lines left e. section_case lines left (at_line (count word) lines) refl e }

-- A whole text.

-- texts that are said otherwise
pub misfit_otherwise : (P Q : List Line → Type 0) → ((ls : List Line) → P ls → Q ls) → ((ls : List Line) → Q ls → P ls) → (lines left : List Line) → IsMisfit P lines left → IsMisfit Q lines left
misfit_otherwise P Q to from lines left m = record {
  front = m.front;
  parts = m.parts;
  begins = (m.begins.0, to (m.front ++ m.begins.0) m.begins.1);
  here = λ line behind same b. m.here line behind same (b.0, from ((m.front ++ line ∷ []) ++ b.0) b.1);
  no_text = λ t. m.no_text (from lines t);
}

module _ {X : Type 0} (text : X → List Line) (Valid : X → Type 0) (f : List Line → Front Line X) (exact : IsExactText text Valid f) where
  abbrev pub IsTextOf : X → List Line → Type 0
  IsTextOf x lines = (lines ≡ text x) × Valid x

  abbrev pub IsText : List Line → Type 0
  IsText lines = (x : X) × IsTextOf x lines

  -- a text, with anything behind it
  abbrev pub IsFront : List Line → Type 0
  IsFront lines = (x : X) × ((rest : List Line) × (lines ≡ text x ++ rest) × Valid x)

  abbrev after : X → List Line → Front Line X
  after x rest = nothing x rest

  nothing_ok : (y x : X) (mid rest : List Line) → nothing y mid ≡ Ok (x, rest) → (mid ≡ []) × (◌≡◌ {A = Front Line X} (Ok (y, mid)) (Ok (x, rest)))
  nothing_ok y x [] rest e = (refl, e)
  nothing_ok y x (l ∷ ls) rest e = absurd cc

  nothing_err : (y : X) (mid left : List Line) → nothing y mid ≡ Err left → (mid ≡ left) × ((mid ≡ []) → ⊥)
  nothing_err y [] left e = absurd cc
  nothing_err y (l ∷ ls) left e = (err_is {X = X} left (l ∷ ls) e, λ none. cc)

  pub only_sound : (lines : List Line) (x : X) (rest : List Line) → only f lines ≡ Ok (x, rest) → IsTextOf x lines
  only_sound lines x rest e =
      let s = followed (f lines) after x rest e in
      let n = nothing_ok s.0 x s.1 rest s.3 in
      let m = exact.reads.sound lines s.0 s.1 s.2 in
      let k = moved text Valid lines s.0 x s.1 rest n.1 m.0 m.1 in
      let none : rest ≡ [] = sym (ap (λ (o : Front Line X). elim o [ Ok p ↦ p.1 | Err l ↦ s.1 ]) n.1) ∙ n.0 in
      (k.0 ∙ ap (λ (l : List Line). text x ++ l) none ∙ append-nil (text x), k.1)

  pub only_nothing : (lines : List Line) (x : X) (rest : List Line) → only f lines ≡ Ok (x, rest) → rest ≡ []
  only_nothing lines x rest e =
      let s = followed (f lines) after x rest e in
      let n = nothing_ok s.0 x s.1 rest s.3 in
      sym (ap (λ (o : Front Line X). elim o [ Ok p ↦ p.1 | Err l ↦ s.1 ]) n.1) ∙ n.0

  reads_text : (x : X) (lines : List Line) → IsTextOf x lines → f lines ≡ Ok (x, [])
  reads_text x lines h = ap f (h.0 ∙ sym (append-nil (text x))) ∙ exact.reads.again x [] h.1 tt

  clash : (lines left : List Line) (o : Front Line X) → f lines ≡ o → o ≡ Err left → IsText lines → ⊥
  clash lines left o is e (x, h) = let r : f lines ≡ Ok (x, []) = reads_text x lines h in let s : f lines ≡ Err left = is ∙ e in cc

  ends_otherwise : (x y : X) (line : Line) (more : List Line) → ◌≡◌ {A = Front Line X} (Ok (x, line ∷ more)) (Ok (y, [])) → ⊥
  ends_otherwise x y line more e = let k : line ∷ more ≡ [] = ap (λ (o : Front Line X). elim o [ Ok p ↦ p.1 | Err l ↦ l ]) e in cc

  rest_none : (x y : X) (rest : List Line) → ◌≡◌ {A = Front Line X} (Ok (x, rest)) (Ok (y, [])) → rest ≡ []
  rest_none x y rest e = ap (λ (o : Front Line X). elim o [ Ok p ↦ p.1 | Err l ↦ l ]) e

  fault_case : (lines left : List Line) (o : Front Line X) → f lines ≡ o → follow o after ≡ Err left → IsMisfit IsText lines left
  fault_case lines left (Err l) is e =
      let same : l ≡ left = err_is {X = X} left l e in
      let stop : f lines ≡ Err left = is ∙ ap (λ (k : List Line). let o : Front Line X = Err k in o) same in
      let s = exact.stops lines left stop in
      record {
        front = s.front;
        parts = s.parts;
        begins = (s.more, (s.value, (sym s.begins, s.valid)));
        here = λ line behind e b.
            clash (s.front ++ line ∷ b.0) (line ∷ b.0) (f (s.front ++ line ∷ b.0)) refl (s.dead line behind b.0 e)
            (b.1.0, (sym (append_assoc s.front (line ∷ []) b.0) ∙ b.1.1.0, b.1.1.1));
        no_text = clash lines left (f lines) refl stop;
      }
  fault_case lines left (Ok p) is e =
      let m = exact.reads.sound lines p.0 p.1 is in
      let n = nothing_err p.0 p.1 left e in
      record {
        front = text p.0;
        parts = m.0 ∙ ap (λ (l : List Line). text p.0 ++ l) n.0;
        begins = ([], (p.0, (append-nil (text p.0), m.1)));
        here = λ line behind same b.
            let again : f (text p.0 ++ line ∷ b.0) ≡ Ok (p.0, line ∷ b.0) = exact.reads.again p.0 (line ∷ b.0) m.1 tt in
            let there : f (text p.0 ++ line ∷ b.0) ≡ Ok (b.1.0, []) = reads_text b.1.0 (text p.0 ++ line ∷ b.0) (sym (append_assoc (text p.0) (line ∷ []) b.0) ∙ b.1.1.0, b.1.1.1) in
            ends_otherwise p.0 b.1.0 line b.0 (sym again ∙ there);
        no_text = λ t. n.1 (rest_none p.0 t.0 p.1 (sym is ∙ reads_text t.0 lines t.1));
      }

  read_or_not : (o : Front Line X) (left : List Line) (x : X) (rest : List Line) → o ≡ Err left → o ≡ Ok (x, rest) → ⊥
  read_or_not o left x rest e r = cc

  -- no text is a front of the lines, and the first line does not fit
  pub front_fault : (lines left : List Line) → f lines ≡ Err left → IsMisfit IsFront lines left
  front_fault lines left e =
      let s = exact.stops lines left e in
      record {
        front = s.front;
        parts = s.parts;
        begins = (s.more, (s.value, ([], sym s.begins ∙ sym (append-nil (text s.value)), s.valid)));
        here = λ line behind same b.
            let stop : f (s.front ++ line ∷ b.0) ≡ Err (line ∷ b.0) = s.dead line behind b.0 same in
            let text_there : s.front ++ line ∷ b.0 ≡ text b.1.0 ++ b.1.1.0 = sym (append_assoc s.front (line ∷ []) b.0) ∙ b.1.1.1 in
            let read : f (s.front ++ line ∷ b.0) ≡ Ok (b.1.0, b.1.1.0) = ap f text_there ∙ exact.reads.again b.1.0 b.1.1.0 b.1.1.2 tt in
            read_or_not (f (s.front ++ line ∷ b.0)) (line ∷ b.0) b.1.0 b.1.1.0 stop read;
        no_text = λ t. read_or_not (f lines) left t.0 t.1.0 e (ap f t.1.1 ∙ exact.reads.again t.0 t.1.0 t.1.2 tt);
      }

  pub only_fault : (lines left : List Line) → only f lines ≡ Err left → IsMisfit IsText lines left
  only_fault lines left e = fault_case lines left (f lines) refl e

-- the same text and condition, said otherwise
pub text_otherwise : {X : Type 0} (text other : X → List Line) (V W : X → Type 0) (f : List Line → Front Line X) → ((x : X) → text x ≡ other x) → ((x : X) → V x → W x) → ((x : X) → W x → V x)
    → IsExactText text V f → IsExactText other W f
text_otherwise text other V W f same to from exact = record {
  reads = said_otherwise Any text other V W f same to from exact.reads;
  stops = λ lines left e.
      let s = exact.stops lines left e in
      record { front = s.front; parts = s.parts; value = s.value; more = s.more; valid = to s.value s.valid; begins = sym (same s.value) ∙ s.begins; dead = s.dead };
}

-- one line for each value
pub each_line : {X : Type 0} (word : X → List ℕ) (xs : List X) → flat_map (λ x. word x ∷ []) xs ≡ map word xs
each_line word [] = refl
each_line word (x ∷ xs) = ap (λ (ls : List Line). word x ∷ ls) (each_line word xs)

-- a section of lines
pub section_lines : {X : Type 0} (word : List ℕ) (text : X → List ℕ) (Valid : X → Type 0) (g : List ℕ → Front ℕ X) → IsExact EndsWord text Valid g → (some : X) → Valid some
    → IsExactText (texts.section word text) (AreWritten Valid) (section word (at_line g))
section_lines {X} word text Valid g exact some valid =
    text_otherwise (λ xs. count_line word (length xs) ∷ flat_map (λ x. text x ∷ []) xs) (texts.section word text) (AreWritten Valid) (AreWritten Valid) (section word (at_line g))
    (λ xs. ap (λ (ls : List Line). count_line word (length xs) ∷ ls) (each_line text xs)) (λ xs v. v) (λ xs v. v)
    (section_exact word (λ x. text x ∷ []) Valid (at_line g) (line_exact text Valid g exact some valid) some valid)

-- a section of lines of numbers
pub numbers_section_exact : (head word : List ℕ) → IsExactText (texts.section head (numbers_line word)) (AreWritten (AreWritten IsWrittenNumber)) (section head (at_line (numbers word)))
numbers_section_exact head word = section_lines head (numbers_line word) (AreWritten IsWrittenNumber) (numbers word) (numbers_exact word) [] none_written

-- a fixed line, and what stands behind it
pub under_line : {X : Type 0} (word : List ℕ) (text : X → List Line) (V : X → Type 0) (f : List Line → Front Line X) → IsExactText text V f → (some : X) → V some
    → IsExactText (λ x. word ∷ text x) V (chain (λ _ x. x) (at_line (fixed word)) f)
under_line {X} word text V f exact some valid =
    text_otherwise (λ x. (word ∷ []) ++ text x) (λ x. word ∷ text x) (λ x. Unit {0} × V x) V (chain (λ _ x. x) (at_line (fixed word)) f) (λ x. refl) (λ x v. v.1) (λ x v. (tt, v))
    (chain_exact (λ _ x. x) (λ x. tt) (λ x. x) (λ u x. refl) (λ u x. refl) (λ x. refl) (λ _. word ∷ []) (λ _. Unit {0}) (at_line (fixed word)) (fixed_line word) text V f exact some valid)
