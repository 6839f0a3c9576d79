-- The lines of bytes.
use Rattle.std.proofs.Common.{◌≡◌, ◌≢◌, ℕ, zero, suc, ◌+◌, ◌<◌, List, [], ◌∷◌, ◌++◌, length, get_or, take, drop, Bool, true, false, eqb, refl, sym, ap, subst, ◌∙◌, arith, append_assoc, take-append-drop, take_all}
use Rattle.std.specs.List.{AllByRecursion}
use Rattle.std.proofs.lemmas.Bool.{eqb-true, eqb-false, ne_eqb}
use Rattle.std.proofs.lemmas.List.{take_more}
use Rattle.ras_lines.specs.Lines.{begin_line, lines_of, written}
use Rattle.ras_lines.specs.Faults.{HasNoLineFeed, AreLines}

pub unended_push : (bytes : List ℕ) (b : ℕ) → HasNoLineFeed bytes → b ≢ 10 → HasNoLineFeed (bytes ++ b ∷ [])
unended_push [] b h ne = (ne, tt)
unended_push (c ∷ bytes) b h ne = (h.0, unended_push bytes b h.1 ne)

other : (b : ℕ) → b ≢ 10 → eqb b 10 ≡ false
other b ne = ne_eqb b 10 ne

pub lines_first : (line rest : List ℕ) → HasNoLineFeed line → lines_of (line ++ 10 ∷ rest) ≡ line ∷ lines_of rest
lines_first [] rest h = refl
lines_first (b ∷ line) rest h = rw (other b h.0) (ap (begin_line b) (lines_first line rest h.1))

pub no_lines : (bytes : List ℕ) → HasNoLineFeed bytes → lines_of bytes ≡ []
no_lines [] h = refl
no_lines (b ∷ bytes) h = rw (other b h.0) (ap (begin_line b) (no_lines bytes h.1))

at_front : (bytes rest : List ℕ) (n b : ℕ) → b ∷ rest ≡ drop n bytes → get_or bytes n b ≡ b
at_front bytes rest zero b e = subst (λ (l : List ℕ). get_or l 0 b ≡ b) e refl
at_front [] rest (suc n) b e = absurd cc
at_front (c ∷ bytes) rest (suc n) b e = at_front bytes rest n b e

drop_next : (bytes rest : List ℕ) (n b : ℕ) → b ∷ rest ≡ drop n bytes → rest ≡ drop (n + 1) bytes
drop_next bytes rest zero b e = subst (λ (l : List ℕ). rest ≡ drop 1 l) e refl
drop_next [] rest (suc n) b e = absurd cc
drop_next (c ∷ bytes) rest (suc n) b e = let k : suc (n + 1) ≡ suc n + 1 = omega arith in drop_next bytes rest n b e ∙ ap (λ (i : ℕ). drop i (c ∷ bytes)) k

pub record IsRead (bytes rest : List ℕ) (n : ℕ) : Type 0 where
  pub left : rest ≡ drop n bytes
  pub count : n + length rest ≡ length bytes
  pub unended : HasNoLineFeed (take n bytes)

-- one byte more that is no end
pub one_more : (bytes before rest : List ℕ) (n b : ℕ) → before ≡ b ∷ rest → before ≡ drop n bytes → n + length before ≡ length bytes → HasNoLineFeed (take n bytes) → b ≢ 10 → IsRead bytes rest (n + 1)
one_more bytes before rest n b is e count h ne =
    let k : length before ≡ suc (length rest) = ap length is in
    let lt : n < length bytes = omega (arith, count, k) in
    let front : b ∷ rest ≡ drop n bytes = sym is ∙ e in
    let parts : take (n + 1) bytes ≡ take n bytes ++ b ∷ [] = take_more bytes n b lt ∙ ap (λ (c : ℕ). take n bytes ++ c ∷ []) (at_front bytes rest n b front) in
    record { left = drop_next bytes rest n b front; count = omega (arith, count, k); unended = subst HasNoLineFeed (sym parts) (unended_push (take n bytes) b h ne) }

pub nothing_ends : (bytes before : List ℕ) (n : ℕ) → length before ≡ 0 → n + length before ≡ length bytes → HasNoLineFeed (take n bytes) → lines_of bytes ≡ []
nothing_ends bytes before n e count h = no_lines bytes (subst HasNoLineFeed (take_all n bytes (omega (arith, e, count))) h)

-- the first end of a line
pub first_end : (bytes rest : List ℕ) (n : ℕ) → 10 ∷ rest ≡ drop n bytes → HasNoLineFeed (take n bytes) → lines_of bytes ≡ take n bytes ∷ lines_of rest
first_end bytes rest n e h =
    let parts : bytes ≡ take n bytes ++ 10 ∷ rest = sym (take-append-drop n bytes) ∙ ap (λ (l : List ℕ). take n bytes ++ l) (sym e) in
    ap lines_of parts ∙ lines_first (take n bytes) rest h

-- the whole lines of the bytes and the rest
pub record Cut (bytes : List ℕ) : Type 0 where
  pub rest : List ℕ
  pub are : AreLines bytes (lines_of bytes) rest

cut_end : (b : ℕ) (bytes : List ℕ) → Cut bytes → eqb b 10 ≡ true → Cut (b ∷ bytes)
cut_end b bytes c is =
    let lines : lines_of (b ∷ bytes) ≡ [] ∷ lines_of bytes = rw is refl in
    record {
      rest = c.rest;
      are = subst (λ (ls : List (List ℕ)). AreLines (b ∷ bytes) ls c.rest) (sym lines)
          (record { parts = ap (λ (k : ℕ). k ∷ bytes) (eqb-true b 10 is) ∙ ap (λ (l : List ℕ). 10 ∷ l) c.are.parts; single = (tt, c.are.single); unended = c.are.unended });
    }

begun : (b : ℕ) (bytes : List ℕ) (lines : List (List ℕ)) (rest : List ℕ) → AreLines bytes lines rest → b ≢ 10 → (r : List ℕ) × AreLines (b ∷ bytes) (begin_line b lines) r
begun b bytes [] rest a ne = (b ∷ rest, record { parts = ap (λ (l : List ℕ). b ∷ l) a.parts; single = tt; unended = (ne, a.unended) })
begun b bytes (l ∷ lines) rest a ne = (rest, record { parts = ap (λ (k : List ℕ). b ∷ k) a.parts; single = ((ne, a.single.0), a.single.1); unended = a.unended })

cut_on : (b : ℕ) (bytes : List ℕ) → Cut bytes → eqb b 10 ≡ false → Cut (b ∷ bytes)
cut_on b bytes c is =
    let lines : lines_of (b ∷ bytes) ≡ begin_line b (lines_of bytes) = rw is refl in
    let more = begun b bytes (lines_of bytes) c.rest c.are (eqb-false b 10 is) in
    record { rest = more.0; are = subst (λ (ls : List (List ℕ)). AreLines (b ∷ bytes) ls more.0) (sym lines) more.1 }

cut_case : (b : ℕ) (bytes : List ℕ) → Cut bytes → (v : Bool) → eqb b 10 ≡ v → Cut (b ∷ bytes)
cut_case b bytes c true is = cut_end b bytes c is
cut_case b bytes c false is = cut_on b bytes c is

pub cut : (bytes : List ℕ) → Cut bytes
cut [] = record { rest = []; are = record { parts = refl; single = tt; unended = tt } }
cut (b ∷ bytes) = cut_case b bytes (cut bytes) (eqb b 10) refl

pub lines_of_are : (bytes rest : List ℕ) (lines : List (List ℕ)) → bytes ≡ written lines ++ rest → AllByRecursion HasNoLineFeed lines → HasNoLineFeed rest → lines_of bytes ≡ lines
lines_of_are bytes rest [] parts single unended = ap lines_of parts ∙ no_lines rest unended
lines_of_are bytes rest (l ∷ lines) parts single unended =
    let text : (l ++ 10 ∷ []) ++ written lines ≡ l ++ 10 ∷ written lines = append_assoc l (10 ∷ []) (written lines) in
    ap lines_of (parts ∙ ap (λ (k : List ℕ). k ++ rest) text ∙ append_assoc l (10 ∷ written lines) rest) ∙ lines_first l (written lines ++ rest) single.0
    ∙ ap (λ (ls : List (List ℕ)). l ∷ ls) (lines_of_are (written lines ++ rest) rest lines refl single.1 unended)

length-begin_line : (b : ℕ) (lines : List (List ℕ)) → length (begin_line b lines) ≡ length lines
length-begin_line b [] = refl
length-begin_line b (l ∷ lines) = refl

pub count_end : (bytes : List ℕ) → length (lines_of (10 ∷ bytes)) ≡ length (lines_of bytes) + 1
count_end bytes = omega arith

pub count_other : (b : ℕ) (bytes : List ℕ) → b ≢ 10 → length (lines_of (b ∷ bytes)) ≡ length (lines_of bytes)
count_other b bytes ne = rw (other b ne) (length-begin_line b (lines_of bytes))

pub ruleset count_laws = (count_end, count_other)

-- the lines of bytes and their rest are one
pub one_cut : (bytes rest more : List ℕ) (lines others : List (List ℕ)) → AreLines bytes lines rest → AreLines bytes others more → (lines ≡ others) × (rest ≡ more)
one_cut bytes rest more lines others x y =
    let same = sym (lines_of_are bytes rest lines x.parts x.single x.unended) ∙ lines_of_are bytes more others y.parts y.single y.unended in
    (same, append_cancel (written others) rest more (ap (λ (ls : List (List ℕ)). written ls ++ rest) (sym same) ∙ sym x.parts ∙ y.parts))
  where
    append_cancel : (xs a b : List ℕ) → xs ++ a ≡ xs ++ b → a ≡ b
    append_cancel [] a b e = e
    append_cancel (x ∷ xs) a b e = append_cancel xs a b cc
