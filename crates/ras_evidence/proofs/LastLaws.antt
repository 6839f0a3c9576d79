-- The last byte of lines.
use Rattle.std.proofs.Common.{◌≡◌, ◌≢◌, ℕ, ◌-◌, ◌<◌, ◌≤◌, List, [], ◌∷◌, ◌++◌, length, get_or, true, false, eqb, sym, ap, ◌∙◌, refl, arith, length-append}
use Rattle.std.proofs.lemmas.Bool.{eqb-true}
use Rattle.ras_lines.specs.Lines.{written, lines_of}
use Rattle.ras_lines.specs.Faults.{HasNoLineFeed, AreLines}
use Rattle.ras_lines.proofs.LineEnds.{lines_of_are}
use Rattle.ras_evidence.specs.Endings.{last_of}

last-append : (d : ℕ) (a b : List ℕ) → last_of d (a ++ b) ≡ last_of (last_of d a) b
last-append d [] b = refl
last-append d (x ∷ a) b = last-append x a b

last-written : (lines : List (List ℕ)) → last_of 10 (written lines) ≡ 10
last-written [] = refl
last-written (l ∷ lines) = last-append 10 (l ++ 10 ∷ []) (written lines) ∙ ap (λ (d : ℕ). last_of d (written lines)) (last-append 10 l (10 ∷ [])) ∙ last-written lines

last_rest : (bytes rest : List ℕ) (lines : List (List ℕ)) → bytes ≡ written lines ++ rest → last_of 10 bytes ≡ last_of 10 rest
last_rest bytes rest lines e = ap (last_of 10) e ∙ last-append 10 (written lines) rest ∙ ap (λ (d : ℕ). last_of d rest) (last-written lines)

last_unended : (b : ℕ) (rest : List ℕ) → HasNoLineFeed (b ∷ rest) → last_of b rest ≢ 10
last_unended b [] h = h.0
last_unended b (c ∷ rest) h = last_unended c rest h.1

rest_none : (rest : List ℕ) → HasNoLineFeed rest → last_of 10 rest ≡ 10 → rest ≡ []
rest_none [] h e = refl
rest_none (b ∷ rest) h e = absurd (last_unended b rest h e)

pub ended : (bytes rest : List ℕ) (lines : List (List ℕ)) → AreLines bytes lines rest → eqb (last_of 10 bytes) 10 ≡ true → rest ≡ []
ended bytes rest lines are e = rest_none rest are.unended (sym (last_rest bytes rest lines are.parts) ∙ eqb-true (last_of 10 bytes) 10 e)

pub not_ended : (bytes rest : List ℕ) (lines : List (List ℕ)) → AreLines bytes lines rest → eqb (last_of 10 bytes) 10 ≡ false → rest ≢ []
not_ended bytes rest lines are e = λ none.
    let last : last_of 10 bytes ≡ 10 = last_rest bytes rest lines are.parts ∙ ap (last_of 10) none in
    let yes : eqb (last_of 10 bytes) 10 ≡ true = rw last refl in cc

last_is : (b d : ℕ) (bytes : List ℕ) → get_or (b ∷ bytes) (length bytes) d ≡ last_of b bytes
last_is b d [] = refl
last_is b d (c ∷ bytes) = last_is c d bytes

pub last_none : (bytes : List ℕ) → length bytes ≡ 0 → last_of 10 bytes ≡ 10
last_none [] e = refl
last_none (b ∷ bytes) e = absurd (omega (arith, e))

pub last_at : (bytes : List ℕ) (d : ℕ) → 0 < length bytes → get_or bytes (length bytes - 1) d ≡ last_of 10 bytes
last_at [] d lt = absurd (omega (arith, lt))
last_at (b ∷ bytes) d lt = let k : length (b ∷ bytes) - 1 ≡ length bytes = omega arith in ap (λ (i : ℕ). get_or (b ∷ bytes) i d) k ∙ last_is b d bytes

-- Lines that are left.

pub not_more : (lines front left : List (List ℕ)) → lines ≡ front ++ left → length left ≤ length lines
not_more lines front left e = omega (arith, ap length e, length-append front left)

-- the ended lines
pub lines_are : (bytes rest : List ℕ) (lines : List (List ℕ)) → AreLines bytes lines rest → lines_of bytes ≡ lines
lines_are bytes rest lines are = lines_of_are bytes rest lines are.parts are.single are.unended

pub ruleset last_laws = (last_at, last_none)
