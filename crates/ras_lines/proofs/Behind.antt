-- The bytes behind other bytes.
use Rattle.std.proofs.Common.{◌≡◌, ℕ, ◌<◌, List, [], ◌∷◌, ◌++◌, length, take, drop, Option, Some, None, Bool, true, false, cond, eqb, refl, sym, ap, ◌∙◌, arith, length-append, take_at, take-append-drop}
use Rattle.std.specs.Str.{bytes_eq}
use Rattle.std.proofs.lemmas.Bool.{eqb-true}
use Rattle.std.proofs.lemmas.Slice.Eq.{bytes_eq-Decides}
use Rattle.ras_lines.specs.Numbers.{behind}

same_byte : (b : ℕ) → eqb b b ≡ true
same_byte b = grind arith

pub behind-append : (word rest : List ℕ) → behind word (word ++ rest) ≡ Some rest
behind-append [] rest = refl
behind-append (c ∷ word) rest = rw (same_byte c) (behind-append word rest)

behind_tested : (b c : ℕ) (word bytes rest : List ℕ) → (v : Bool) → eqb b c ≡ v → (behind word bytes ≡ Some rest → bytes ≡ word ++ rest) → cond v (behind word bytes) None ≡ Some rest
    → b ∷ bytes ≡ c ∷ (word ++ rest)
behind_tested b c word bytes rest true is on e = ap (λ (x : ℕ). x ∷ bytes) (eqb-true b c is) ∙ ap (λ (xs : List ℕ). c ∷ xs) (on e)
behind_tested b c word bytes rest false is on e = absurd cc

pub behind_sound : (word bytes rest : List ℕ) → behind word bytes ≡ Some rest → bytes ≡ word ++ rest
behind_sound [] bytes rest e = cc
behind_sound (c ∷ word) [] rest e = absurd cc
behind_sound (c ∷ word) (b ∷ bytes) rest e = behind_tested b c word bytes rest (eqb b c) refl (behind_sound word bytes rest) e

not_behind : (word bytes : List ℕ) (o : Option (List ℕ)) → behind word bytes ≡ o → ((rest : List ℕ) → bytes ≡ word ++ rest → ⊥) → behind word bytes ≡ None
not_behind word bytes None is never = is
not_behind word bytes (Some rest) is never = absurd (never rest (behind_sound word bytes rest is))

pub behind_short : (word bytes : List ℕ) → length bytes < length word → behind word bytes ≡ None
behind_short word bytes lt = not_behind word bytes (behind word bytes) refl (λ rest e. absurd (omega (arith, ap length e, length-append word rest)))

pub behind_same : (word bytes : List ℕ) → bytes_eq (take (length word) bytes) word ≡ true → behind word bytes ≡ Some (drop (length word) bytes)
behind_same word bytes e =
    let front : take (length word) bytes ≡ word = (bytes_eq-Decides (take (length word) bytes) word).0 e in
    let parts : bytes ≡ word ++ drop (length word) bytes = sym (take-append-drop (length word) bytes) ∙ ap (λ (l : List ℕ). l ++ drop (length word) bytes) front in
    ap (behind word) parts ∙ behind-append word (drop (length word) bytes)

pub behind_other : (word bytes : List ℕ) → bytes_eq (take (length word) bytes) word ≡ false → behind word bytes ≡ None
behind_other word bytes e =
    not_behind word bytes (behind word bytes) refl
    (λ rest parts. let front : take (length word) bytes ≡ word = ap (take (length word)) parts ∙ take_at word rest (length word) refl in
    let same : bytes_eq (take (length word) bytes) word ≡ true = (bytes_eq-Decides (take (length word) bytes) word).1 front in absurd cc)

pub ruleset behind_laws = (behind_short, behind_same, behind_other)
